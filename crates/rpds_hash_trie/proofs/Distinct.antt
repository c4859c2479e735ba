-- The keys of a map, and their order.
use Rattle.rpds_hash_trie.proofs.Words.{◌≡◌, ℕ, zero, suc, ◌+◌, ◌≤◌, ◌^◌, Bool, true, false, not, cond, inl, inr, List, [], ◌∷◌, length, refl, subst, arith, IsEquivalence, AllByRecursion, keys_of, FollowDigits, Trie, hashes_in, HashedMap, pairs_of, without, AllApart, IsMap, IsHashed}
use Rattle.std.specs.List.{IsDistinct}
use Rattle.rpds_hash_trie.specs.Digits.{IsDegree}
use Rattle.rpds_hash_trie.proofs.MapInsert.{less_key}
use Rattle.rpds_hash_trie.proofs.MapGet.{hashes_are}

degree_is : (bits : ℕ) → (1 ≤ bits) × (bits ≤ 6) → IsDegree (2 ^ bits)
degree_is zero b = let l = b.0 in absurd (omega arith)
degree_is (suc zero) b = inl refl
degree_is (suc (suc zero)) b = inr (inl refl)
degree_is (suc (suc (suc zero))) b = inr (inr (inl refl))
degree_is (suc (suc (suc (suc zero)))) b = inr (inr (inr (inl refl)))
degree_is (suc (suc (suc (suc (suc zero))))) b = inr (inr (inr (inr (inl refl))))
degree_is (suc (suc (suc (suc (suc (suc zero)))))) b = inr (inr (inr (inr (inr refl))))
degree_is (suc (suc (suc (suc (suc (suc (suc n))))))) b = let l = b.1 in absurd (omega arith)

module _ {K V : Type 0} (eq : K → K → Bool) (law : IsEquivalence eq) where
  -- where no pair goes with k, no key is equal to it
  unequal : (k : K) (ps : List (K × V)) → length ps ≤ length (without eq k ps) → AllByRecursion (λ j. eq k j ≡ false) (keys_of ps)
  unequal k [] le = tt
  unequal k (p ∷ ps) le = grind (arith, unequal k ps, less_key eq k ps, law.symm k p.0)

  rest_apart : (p : K × V) (ps : List (K × V)) → AllApart eq (p ∷ ps) → AllApart eq ps
  rest_apart p ps a k = grind (arith, a k)

  pub distinct_of : (ps : List (K × V)) → AllApart eq ps → IsDistinct eq (keys_of ps)
  unfolding IsDistinct
  distinct_of [] a = tt
  distinct_of (p ∷ ps) a =
      let same : eq p.0 p.0 ≡ true = law.refl p.0 in
      let one : suc (length ps) ≤ length (cond (not (eq p.0 p.0)) (p ∷ without eq p.0 ps) (without eq p.0 ps)) + 1 = a p.0 in
      let few : suc (length ps) ≤ length (without eq p.0 ps) + 1 = subst (λ b. suc (length ps) ≤ length (cond (not b) (p ∷ without eq p.0 ps) (without eq p.0 ps)) + 1) same one in
      (unequal p.0 ps (omega (arith, few)), distinct_of ps (rest_apart p ps a))

pub hashed_of : {K V H : Type 0} (eq : K → K → Bool) (F : H → K → ℕ) (law : IsEquivalence eq) (hasher : H) (size : ℕ) (v : Trie K V) (m : HashedMap K V H)
    → IsMap eq (F hasher) v size → (1 ≤ v.bits) × (v.bits ≤ 6) → FollowDigits (2 ^ v.bits) (hashes_in v.entries) → (record { entries = pairs_of v.entries; degree = 2 ^ v.bits; hasher = hasher }) ≡ m → IsHashed eq (F m.hasher) m
hashed_of {K} {V} {H} eq F law hasher size v m map_is bits_in order view =
    let is : IsHashed eq (F hasher) (record { entries = pairs_of v.entries; degree = 2 ^ v.bits; hasher = hasher }) = record {
      degree = degree_is v.bits bits_in;
      distinct = distinct_of eq law (pairs_of v.entries) map_is.apart;
      in_order = subst (FollowDigits (2 ^ v.bits)) (hashes_are (F hasher) v.entries map_is.hashes) order;
    } in
    subst (λ (n : HashedMap K V H). IsHashed eq (F n.hasher) n) view is
