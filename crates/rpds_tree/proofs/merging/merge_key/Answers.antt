use Rattle.std.proofs.Common.{◌≡◌, true, false, ap, arith, sym, ◌∙◌}
use Rattle.rpds_core.proofs.Counts.{within_more, within_then}
use Rattle.rpds_core.specs.Keys.{own_search}
use Rattle.rpds_red_black.specs.Pairs.{find}
use Rattle.rpds_tree.proofs.Copied.{copied, length_copied}
use Rattle.rpds_tree.proofs.MergeSteps.{taken, theirs_alone}
use Rattle.rpds_tree.specs.Differences.{differ, value_of}
use Rattle.rpds_tree.proofs.merging.merge_key.Goals as goal

pub returns-then-not-is_other-clause-steps : goal.returns-then-not-is_other-clause-steps
returns-then-not-is_other-clause-steps g c =
    within_more (within_then c.value_counted-before.ensures.steps c.value_counted-their.ensures.steps) (omega arith) (omega arith)

pub returns-then-is_other-clause-steps : goal.returns-then-is_other-clause-steps
returns-then-is_other-clause-steps g c =
    within_more (within_then (within_then c.value_counted-before.ensures.steps c.value_counted-their.ensures.steps)
    c.value_counted-our.ensures.steps) (omega arith) (omega arith)

pub returns-in_err-copy_from_mut_counted-clause-steps : goal.returns-in_err-copy_from_mut_counted-clause-steps
returns-in_err-copy_from_mut_counted-clause-steps g c =
    within_more (within_then (within_then (within_then c.value_counted-before.ensures.steps c.value_counted-their.ensures.steps)
    c.value_counted-our.ensures.steps) c.in_err-copy_from_mut_counted.ensures.steps) (omega arith) (omega arith)

pub returns-clause-more : goal.returns-clause-more
returns-clause-more g c = rw c.in_ok-copy_from_mut_counted.ensures.ok (length_copied g.K.Ord.cmp _ _ c.args.map.now.entries)

pub returns-clause-steps : goal.returns-clause-steps
returns-clause-steps g c =
    within_more (within_then (within_then (within_then c.value_counted-before.ensures.steps c.value_counted-their.ensures.steps)
    c.value_counted-our.ensures.steps) c.in_ok-copy_from_mut_counted.ensures.steps) (omega arith) (omega arith)

pub returns-clause-ok : goal.returns-clause-ok
returns-clause-ok g c = λ k.
    let R = g.K.Ord.cmp in
    let same = g.V.PartialEq.eq in
    let o = g.met.K.Ord.total in
    let key = c.args.key.now in
    let base = c.args.base.now.entries in
    let was = c.args.map.now.entries in
    let theirs = c.args.theirs.now.entries in
    let before = c.value_counted-before.ensures.found in
    let our = c.value_counted-our.ensures.found in
    let their = c.value_counted-their.ensures.found in
    let changed : differ same (value_of R key base) (value_of R key theirs) ≡ true = sym (λ i. differ same (before i) (their i)) ∙ sym c.if-not-is_other.ensures in
    let kept : differ same (value_of R key base) (value_of R key was) ≡ false = sym (λ i. differ same (before i) (our i)) ∙ sym c.if-is_other.ensures in
    let alone = theirs_alone same (value_of R key base) (value_of R key was) (value_of R key theirs) kept changed in
    taken o same base was theirs key alone c.copy_from_mut_counted.new.self.entries k
    (ap (find R k) c.in_ok-copy_from_mut_counted.ensures.ok ∙ copied o (own_search o key) k theirs was)
