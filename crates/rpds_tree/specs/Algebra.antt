-- Whole maps in one.
use Rattle.std.specs.Prelude.{List, filter, is_some, is_none}
use Rattle.std.specs.declared.cmp.Ordering.{Ordering}
use Rattle.rpds_tree.specs.OrderedSet.{find_member, put_members}
use Rattle.rpds_red_black.specs.Pairs.{find, put_all}

module _ {K V : Type 0} (R : K → K → Ordering) where
  -- the pairs of others with each of es put in, in turn: where both have an equal key, the pair of es is there
  abbrev pub union_of : List (K × V) → List (K × V) → List (K × V)
  union_of es others = put_all R others es

  -- the pairs of es whose keys are in others
  abbrev pub both_in : List (K × V) → List (K × V) → List (K × V)
  both_in es others = filter (λ p. is_some (find R p.0 others)) es

  -- the pairs of es whose keys aren't in others
  abbrev pub only_in : List (K × V) → List (K × V) → List (K × V)
  only_in es others = filter (λ p. is_none (find R p.0 others)) es

module _ {T : Type 0} (R : T → T → Ordering) where
  abbrev pub members_of_union : List T → List T → List T
  members_of_union ms others = put_members R others ms

  abbrev pub members_of_both : List T → List T → List T
  members_of_both ms others = filter (λ m. is_some (find_member R m others)) ms

  abbrev pub members_only_in : List T → List T → List T
  members_only_in ms others = filter (λ m. is_none (find_member R m others)) ms
