use Rattle.std.proofs.Common.{ap, ◌∙◌}
use Rattle.std.proofs.lemmas.Cmp.{nat_list_cmp_total, tied_itself}
use Rattle.std.specs.Cmp.Lexicographic.{slice_cmp}
use Rattle.std.specs.Ordering.{nat_cmp}
use Rattle.std.specs.Prelude.{string_bytes}
use Rattle.example_merge.proofs.show.Goals as goal

-- a clone of a name has its bytes, and so is equal to it
pub merged-requires : goal.merged-requires
merged-requires g c = λ x y is. ap (λ bytes. slice_cmp nat_cmp (string_bytes x) bytes) is ∙ tied_itself nat_list_cmp_total (string_bytes x)
