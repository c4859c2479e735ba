-- What callers need of a set that is cut at a value, or from which a range is taken.
use Rattle.rpds_tree.specs.OrderedSet.{members_outside, members_within}
use Rattle.rpds_tree.proofs.CutLaws.{cut_apart, cut_whole, parts_united}
use Rattle.rpds_tree.proofs.MemberLaws.{ascending_units, keys, less_pair, units}
use Rattle.rpds_tree.proofs.Members.{members_between, members_beyond, members_joined}
use Rattle.rpds_tree.proofs.SetUnions.{members_united}
use Rattle.rpds_tree.proofs.Words.{◌≡◌, ◌++◌, List, sym, ap, ◌∙◌, Bound, Excluded, Included, Unbounded, IsTotalOrder, IsStrictlySortedBy, Ordering, keys_of}
use Rattle.rpds_tree.proofs.Words.{members_of_union, outside, within, without_member}

module _ {T : Type 0} {R : T → T → Ordering} (o : IsTotalOrder R) where
  -- each as the keys of maps
  inside : (start end : Bound T) (ms : List T) → members_within R start end ms ≡ keys_of (within R start end (units ms))
  inside start end ms = ap (members_within R start end) (sym (keys ms)) ∙ sym (members_between R R start end (units ms))

  beyond : (start end : Bound T) (ms : List T) → members_outside R start end ms ≡ keys_of (outside R start end (units ms))
  beyond start end ms = ap (members_outside R start end) (sym (keys ms)) ∙ sym (members_beyond R R start end (units ms))

  -- one range behind another
  joined : (start middle middle2 end : Bound T) (ms : List T) → members_within R start middle ms ++ members_within R middle2 end ms
      ≡ keys_of (within R start middle (units ms) ++ within R middle2 end (units ms))
  joined start middle middle2 end ms =
      (λ i. inside start middle ms i ++ inside middle2 end ms i)
      ∙ sym (members_joined (within R start middle (units ms)) (within R middle2 end (units ms)))

  pub members_apart : (x : T) (ms : List T) → IsStrictlySortedBy R ms
      → members_within R Unbounded (Excluded x) ms ++ members_within R (Excluded x) Unbounded ms ≡ without_member R x ms
  members_apart x ms up =
      joined Unbounded (Excluded x) (Excluded x) Unbounded ms ∙ ap keys_of (cut_apart o x (units ms) (ascending_units o ms up))
      ∙ sym (less_pair o x ms)

  pub members_whole : (x : T) (ms : List T) → IsStrictlySortedBy R ms
      → members_within R Unbounded (Excluded x) ms ++ members_within R (Included x) Unbounded ms ≡ ms
  members_whole x ms up =
      joined Unbounded (Excluded x) (Included x) Unbounded ms ∙ ap keys_of (cut_whole o x (units ms) (ascending_units o ms up)) ∙ keys ms

  pub ranges_united : (start end : Bound T) (ms : List T) → IsStrictlySortedBy R ms
      → members_of_union R (members_within R start end ms) (members_outside R start end ms) ≡ ms
  ranges_united start end ms up =
      (λ i. members_of_union R (inside start end ms i) (beyond start end ms i))
      ∙ sym (members_united R (within R start end (units ms)) (outside R start end (units ms)))
      ∙ ap keys_of (parts_united o start end (units ms) (ascending_units o ms up)) ∙ keys ms
