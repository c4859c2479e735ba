-- What a form of a key finds after an insertion.
use Rattle.rpds_hash.proofs.Words.{arith, ◌≡◌, Bool, true, false, Some, None, List, [], ◌∷◌, Option, refl, sym, ap, cond, ◌∙◌}
use Rattle.rpds_hash_trie.specs.HashedMap.{find}
use Rattle.rpds_hash_trie.proofs.MapGet.{find_alike}

found_is_form : {K S V : Type 0} (same : K → S → Bool) (s : S) (es : List (K × V)) (r : K × V) → find same s es ≡ Some r → same r.0 s ≡ true
found_is_form same s [] r found = absurd (cc)
found_is_form same s (e ∷ es) r found = grind (arith, found_is_form same s es r)

-- the pair p was put in, and s is no form of its key
module _ {K S V : Type 0} (eq : K → K → Bool) (same : K → S → Bool) (s : S) (alike : (j k : K) → same j s ≡ true → same k s ≡ eq k j) (p : K × V) (apart : same p.0 s ≡ false) where
  by_key : (old new : List (K × V)) → ((k : K) → find eq k new ≡ find eq k (p ∷ old)) → (r : K × V) → same r.0 s ≡ true → find same s new ≡ find same s old
  by_key old new told r is =
      let other : eq p.0 r.0 ≡ false = sym (alike r.0 p.0 is) ∙ apart in
      find_alike eq same s alike r.0 is new ∙ told r.0 ∙ ap (λ b. cond b (Some p) (find eq r.0 old)) other ∙ sym (find_alike eq same s alike r.0 is old)

  pub found_beside : (old new : List (K × V)) → ((k : K) → find eq k new ≡ find eq k (p ∷ old)) → find same s new ≡ find same s old
  found_beside old new told = go (find same s new) refl (find same s old) refl
    where
      go : (o : Option (K × V)) → find same s new ≡ o → (q : Option (K × V)) → find same s old ≡ q → find same s new ≡ find same s old
      go (Some r) is q was = by_key old new told r (found_is_form same s new r is)
      go None is (Some r) was = by_key old new told r (found_is_form same s old r was)
      go None is None was = is ∙ sym was
