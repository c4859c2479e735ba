use Rattle.std.proofs.Common.{◌≡◌, ◌+◌, ◌*◌, ◌≤◌, ◌++◌, ℕ, length, map}
use Rattle.rpds_branch.specs.Branches.{changes_at, fewest_compared}
use Rattle.rpds_core.specs.Counts.{IsWithin}
use Rattle.rpds_red_black.specs.Logarithm.{most_levels}
use Rattle.rpds_tree.specs.Differences.{change_value}
use Rattle.rpds_branch.proofs.branch.changes.list_of_changes.Given as goal

-- the changes that were told, and those at the keys that are left, are all; each key that was gone over was looked up twice
abbrev pub invariant-loop-key : goal.invariant-loop-key
invariant-loop-key g l =
    let left = changes_at g.K.Ord.cmp g.V.PartialEq.eq l.old.entries l.new.entries in
    record {
      told : map change_value l.changes.items ++ left l.key-iterator ≡ left l.touched.entries;
      spent : (n : ℕ) × ((n + length l.key-iterator ≡ length l.touched.entries)
          × (IsWithin (n * (most_levels (length l.old.entries) + most_levels (length l.new.entries))) 0 l.initial.steps l.steps
          × (l.initial.steps.compared + n * (fewest_compared l.old.entries + fewest_compared l.new.entries) ≤ l.steps.compared)));
    }
