-- Keys that ascend are pairwise unequal.
use Rattle.std.proofs.Common.{List}
use Rattle.std.specs.Cmp.{IsTotalOrder}
use Rattle.std.specs.List.{IsDistinct}
use Rattle.std.specs.Map.{keys_of}
use Rattle.std.specs.Ordering.{eq_by_cmp}
use Rattle.std.specs.declared.cmp.Ordering.{Ordering}
use Rattle.std.proofs.lemmas.Map.Keys.{IsDistinct-from_sorted}
use Rattle.rpds_tree.proofs.Members.{ascending_members}
use Rattle.rpds_red_black.specs.Pairs.{IsAscending}

module _ {K : Type 0} {R : K → K → Ordering} (o : IsTotalOrder R) where
  pub distinct_pairs : {V : Type 0} (es : List (K × V)) → IsAscending R es → IsDistinct (eq_by_cmp R) (keys_of es)
  distinct_pairs es up = IsDistinct-from_sorted R (keys_of es) (ascending_members R es up)
