-- Sets of which members went.
use Rattle.std.proofs.Common.{◌≡◌, Bool, List, ◌∷◌, ◌++◌, map, ap, subst, sym, ◌∙◌}
use Rattle.std.specs.Cmp.{IsEquivalence}
use Rattle.std.specs.List.{IsDistinct}
use Rattle.std.proofs.lemmas.List.{map-id}
use Rattle.rpds_hash.proofs.Kept.{without_middle}
use Rattle.rpds_hash.specs.HashedSet.{HashedSet, without_member}

-- without a member in the middle
module _ {K : Type 0} {eq : K → K → Bool} (law : IsEquivalence eq) where
  pub hashed_member : {H : Type 0} (left left' : HashedSet K H) (rest : List K) (x : K) → IsDistinct eq left.members
      → left' ≡ record left { members = without_member eq x left.members } → (done : List K) → left.members ≡ done ++ x ∷ rest → left'.members ≡ done ++ rest
  hashed_member {H} left left' rest x distinct is done e =
      let distinct = subst (IsDistinct eq) (sym (map-id left.members)) distinct in
      ap (λ (s : HashedSet K H). s.members) is ∙ ap (λ l. without_member eq x l) e ∙ without_middle (λ k. k) law x (λ k. eq k x) (λ k. law.symm k x) done
      rest (subst (λ l. IsDistinct eq (map (λ k. k) l)) e distinct)

-- a set of other members, and again
pub still_set : {T H : Type 0} (s l n : HashedSet T H) (ms : List T) → l ≡ record s { members = l.members } → n ≡ record l { members = ms }
    → n ≡ record s { members = n.members }
still_set {T} {H} s l n ms e f =
    let degree : n.degree ≡ s.degree = ap (λ (t : HashedSet T H). t.degree) f ∙ ap (λ (t : HashedSet T H). t.degree) e in
    let hasher : n.hasher ≡ s.hasher = ap (λ (t : HashedSet T H). t.hasher) f ∙ ap (λ (t : HashedSet T H). t.hasher) e in
    λ i. record { members = n.members; degree = degree i; hasher = hasher i }
