-- What changes make of the pairs of an ordered map.
use Rattle.std.specs.Prelude.{◌≡◌, ℕ, Some, None, List, ◌∷◌, ◌++◌, fold, slice_get}
use Rattle.std.specs.Ordering.{nat_cmp}
use Rattle.rpds.specs.History.{SameOption}
use Rattle.rpds.specs.Kinds.{map_of_pairs}
use Rattle.rpds.specs.Kinds.RedBlackTreeMaps.{pairs_after}
use Rattle.rpds.specs.Pairs.{find}
use Rattle.rpds.specs.TableContents.{Contents}
use Rattle.rpds.specs.declared.table.Op.{Op}
use Rattle.rpds.specs.declared.table.Op.TheVariants.{Remove}

-- the pairs after all these changes
abbrev pub changed : List (ℕ × ℕ) → List (Op ℕ ℕ) → List (ℕ × ℕ)
changed pairs ops = fold (pairs_after nat_cmp) pairs ops

-- the version of this number is an ordered map of these pairs
abbrev pub IsMapAt : {H A S : Type 0} → ℕ → List (ℕ × ℕ) → Contents ℕ ℕ H A S → Type 0
IsMapAt number pairs table = SameOption (Some (map_of_pairs pairs)) (slice_get table.versions number)

-- one of the changes is to take out a key that isn't there then
pub record FindsNothing (pairs : List (ℕ × ℕ)) (ops : List (Op ℕ ℕ)) : Type 0 where
  pub done : List (Op ℕ ℕ)
  pub key : ℕ
  pub rest : List (Op ℕ ℕ)
  pub is : ops ≡ done ++ Remove key ∷ rest
  pub absent : find nat_cmp key (changed pairs done) ≡ None
