-- Maps of which pairs went.
use Rattle.std.proofs.Common.{◌≡◌, Bool, List, Option, Some, None, ◌∷◌, ◌++◌, ap, refl, subst, ◌∙◌}
use Rattle.std.specs.Cmp.{IsEquivalence}
use Rattle.std.specs.List.{IsDistinct}
use Rattle.std.specs.Map.{keys_of}
use Rattle.rpds_hash.proofs.Kept.{without_middle}
use Rattle.rpds_hash.specs.Altered.{IsGiven}
use Rattle.rpds_hash_trie.specs.HashedMap.{HashedMap, without}

-- without a pair in the middle
module _ {K : Type 0} {eq : K → K → Bool} (law : IsEquivalence eq) where
  pub hashed_pair : {V H : Type 0} (left left' : HashedMap K V H) (rest : List (K × V)) (p : K × V) → IsDistinct eq (keys_of left.entries)
      → left' ≡ record left { entries = without eq p.0 left.entries } → (done : List (K × V)) → left.entries ≡ done ++ p ∷ rest
      → left'.entries ≡ done ++ rest
  hashed_pair {V} {H} left left' rest p distinct is done e =
      ap (λ (m : HashedMap K V H). m.entries) is ∙ ap (λ l. without eq p.0 l) e ∙ without_middle (λ q. q.0) law p (λ k. eq k p.0) (λ k. law.symm k p.0)
      done rest (subst (λ l. IsDistinct eq (keys_of l)) e distinct)

-- a map of other pairs, and again
pub still_map : {K V H : Type 0} (s l n : HashedMap K V H) (es : List (K × V)) → l ≡ record s { entries = l.entries } → n ≡ record l { entries = es }
    → n ≡ record s { entries = n.entries }
still_map {K} {V} {H} s l n es e f =
    let degree : n.degree ≡ s.degree = ap (λ (t : HashedMap K V H). t.degree) f ∙ ap (λ (t : HashedMap K V H). t.degree) e in
    let hasher : n.hasher ≡ s.hasher = ap (λ (t : HashedMap K V H). t.hasher) f ∙ ap (λ (t : HashedMap K V H). t.hasher) e in
    λ i. record { entries = n.entries; degree = degree i; hasher = hasher i }

-- a map that was given what a key has
pub given_map : {S K V H : Type 0} (eq : K → K → Bool) (same : K → S → Bool) (s : S) (found : Option (K × V)) (old new : HashedMap K V H)
    → IsGiven eq same s found old new → new ≡ record old { entries = new.entries }
given_map eq same s (Some p) old new given = λ i. record { entries = new.entries; degree = given.0.degree i; hasher = given.0.hasher i }
given_map eq same s None old new given = still_map old old new _ refl given
