-- Where keys stop to ascend.
use Rattle.std.proofs.Common.{◌↔◌}
use Rattle.std.specs.List.{position_from, zip}
use Rattle.rpds_tree.specs.Sorted.{IsFirstOutOfOrder}
use Rattle.rpds_tree.proofs.Words.{◌≡◌, ◌≢◌, ℕ, zero, suc, ◌+◌, not, cond, Option, Some, None, List, [], ◌∷◌, map, take, slice_get, refl, ap, ◌∙◌, arith}
use Rattle.rpds_tree.proofs.Words.{IsTotalOrder, AllByRecursion, IsStrictlySortedBy, keys_of, is_lt, Ordering, Less, Equal, Greater, IsBelowAll, IsAscending}
use Rattle.rpds_tree.proofs.Words.{first_out_of_order}

-- where the keys that follow `last` are first out of order, the first of which has the position `at`
abbrev pub first_out_of_order_after : {K : Type 0} → (K → K → Ordering) → K → ℕ → List K → Option ℕ
first_out_of_order_after R last at keys = position_from (λ p. not (is_lt (R p.0 p.1))) at (zip (last ∷ keys) keys)

-- the key at n is the last of those that ascend
record IsLastOf {K : Type 0} (R : K → K → Ordering) (n : ℕ) (keys : List K) : Type 0 where
  last : K
  key : K
  last_at : slice_get keys n ≡ Some last
  key_at : slice_get keys (suc n) ≡ Some key
  out_of_order : R last key ≢ Less
  ascending : IsStrictlySortedBy R (take (suc n) keys)

-- no key is out of order
pub none_out_of_order : {K : Type 0} (R : K → K → Ordering) → first_out_of_order R [] ≡ None
unfolding first_out_of_order
none_out_of_order R = refl

module _ {K : Type 0} (R : K → K → Ordering) (o : IsTotalOrder R) where
  below_through : (j k : K) (keys : List K) → R j k ≡ Less → AllByRecursion (λ m. R k m ≡ Less) keys → AllByRecursion (λ m. R j m ≡ Less) keys
  below_through j k [] p h = tt
  below_through j k (m ∷ keys) p h = (o.trans j k m p h.0, below_through j k keys p h.1)

  strictly_sorted : (last key : K) (keys : List K) → R last key ≡ Less → IsStrictlySortedBy R (key ∷ keys) → IsStrictlySortedBy R (last ∷ key ∷ keys)
  unfolding IsStrictlySortedBy
  strictly_sorted last key keys p h = ((p, below_through last key keys p h.0), h)

  rises_after : (last : K) (at : ℕ) (keys : List K) → first_out_of_order_after R last at keys ≡ None → IsStrictlySortedBy R (last ∷ keys)
  unfolding IsStrictlySortedBy
  rises_after last at [] h = (tt, tt)
  rises_after last at (key ∷ keys) h = grind (arith, strictly_sorted last key keys, rises_after key (at + 1) keys)

  none_after : (last : K) (at : ℕ) (keys : List K) → IsStrictlySortedBy R (last ∷ keys) → first_out_of_order_after R last at keys ≡ None
  unfolding IsStrictlySortedBy
  none_after last at [] h = refl
  none_after last at (key ∷ keys) h = rw h.0.0 (none_after key (at + 1) keys h.1)

  fell_after : (last : K) (at : ℕ) (keys : List K) (p : ℕ) → first_out_of_order_after R last at keys ≡ Some p → (n : ℕ) × ((p ≡ at + n) × IsLastOf R n (last ∷ keys))
  unfolding IsStrictlySortedBy
  fell_after last at [] p h = absurd (cc h)
  fell_after last at (key ∷ keys) p h =
      let fallen : R last key ≢ Less → Some at ≡ Some p → (n : ℕ) × ((p ≡ at + n) × IsLastOf R n (last ∷ key ∷ keys)) =
      λ out_of_order same. (zero, (grind (arith, same), record { last = last; key = key; last_at = refl; key_at = refl; out_of_order = out_of_order; ascending = (tt, tt) })) in
      elim (R last key) as (λ c. R last key ≡ c → cond (not (is_lt c)) (Some at) (first_out_of_order_after R key (at + 1) keys) ≡ Some p → (n : ℕ) × ((p ≡ at + n) × IsLastOf R n (last ∷ key ∷ keys))) [
        | Less ↦ λ below later.
            let rest = fell_after key (at + 1) keys p later in
            let end = rest.1.1 in (
              suc rest.0,
              (
                omega (arith, rest.1.0),
                record {
                  last = end.last;
                  key = end.key;
                  last_at = end.last_at;
                  key_at = end.key_at;
                  out_of_order = end.out_of_order;
                  ascending = strictly_sorted last key (take rest.0 keys) below end.ascending;
                },
              ),
            )
        | Equal ↦ λ p same. fallen (λ less. absurd (cc (p, less))) same
        | Greater ↦ λ p same. fallen (λ less. absurd (cc (p, less))) same
      ] refl h

  out_of_order_after : (last : K) (at n : ℕ) (keys : List K) → IsLastOf R n (last ∷ keys) → first_out_of_order_after R last at keys ≡ Some (at + n)
  unfolding IsStrictlySortedBy
  out_of_order_after last at n [] end = absurd (cc end.key_at)
  out_of_order_after last at zero (key ∷ keys) end = grind (arith, end.out_of_order, end.last_at, end.key_at)
  out_of_order_after last at (suc n) (key ∷ keys) end =
      let later : IsLastOf R n (key ∷ keys) = record {
        last = end.last;
        key = end.key;
        last_at = end.last_at;
        key_at = end.key_at;
        out_of_order = end.out_of_order;
        ascending = end.ascending.1;
      } in
      rw (end.ascending.0.0, out_of_order_after key (at + 1) n keys later) (ap (λ n. Some n) (omega arith))

  -- nowhere exactly where the keys ascend
  pub nowhere : (keys : List K) → (first_out_of_order R keys ≡ None) ↔ IsStrictlySortedBy R keys
  unfolding first_out_of_order IsStrictlySortedBy
  nowhere [] = (λ h. tt, λ h. refl)
  nowhere (key ∷ keys) = (rises_after key 1 keys, none_after key 1 keys)

  told : (position n : ℕ) (keys : List K) → position ≡ suc n → IsLastOf R n keys → IsFirstOutOfOrder R position keys
  told position n keys next end = record {
    before = n;
    last = end.last;
    key = end.key;
    next = omega (arith, next);
    last_at = end.last_at;
    key_at = rw next end.key_at;
    out_of_order = end.out_of_order;
    ascending = rw next end.ascending;
  }

  tells : (position : ℕ) (keys : List K) (f : IsFirstOutOfOrder R position keys) → position ≡ suc f.before → IsLastOf R f.before keys
  tells position keys f next = record {
    last = f.last;
    key = f.key;
    last_at = f.last_at;
    key_at = rw (← next) f.key_at;
    out_of_order = f.out_of_order;
    ascending = rw (← next) f.ascending;
  }

  -- at a position exactly where they ascend up to it and no further
  pub somewhere : (position : ℕ) (keys : List K) → (first_out_of_order R keys ≡ Some position) ↔ IsFirstOutOfOrder R position keys
  unfolding first_out_of_order
  somewhere position [] = (λ h. absurd (cc h), λ f. absurd (cc f.key_at))
  somewhere position (key ∷ keys) = (
    λ h. let fell = fell_after key 1 keys position h in told position fell.0 (key ∷ keys) (omega (arith, fell.1.0)) fell.1.1,
    λ f. out_of_order_after key 1 f.before keys (tells position (key ∷ keys) f (omega (arith, f.next))) ∙ ap (λ n. Some n) (omega (arith, f.next)),
  )

module _ {K V : Type 0} (R : K → K → Ordering) where
  pairs_below : (key : K) (es : List (K × V)) → AllByRecursion (λ m. R key m ≡ Less) (keys_of es) → IsBelowAll R key es
  pairs_below key [] h = tt
  pairs_below key (e ∷ es) h = (h.0, pairs_below key es h.1)

  pairs_ascend : (es : List (K × V)) → IsStrictlySortedBy R (keys_of es) → IsAscending R es
  unfolding IsStrictlySortedBy
  pairs_ascend [] h = tt
  pairs_ascend (e ∷ es) h = (pairs_below e.0 es h.0, pairs_ascend es h.1)

  -- pairs whose keys aren't out of order ascend
  pub rises : IsTotalOrder R → (es : List (K × V)) → first_out_of_order R (keys_of es) ≡ None → IsAscending R es
  rises o es h = pairs_ascend es ((nowhere R o (keys_of es)).0 h)

-- the keys of members, each without a value
pub members_alone : {T : Type 0} (xs : List T) → keys_of (map (λ x. (x, tt {0})) xs) ≡ xs
members_alone [] = refl
members_alone (x ∷ xs) = ap (λ l. x ∷ l) (members_alone xs)
