-- A map that lent the value of a key, old or new.
use Rattle.rpds_hash.proofs.Words.{◌≡◌, Bool, true, false, cond, is_some, List, [], ◌∷◌, Some, None, Result, Ok, Err, refl, sym, ap, subst, ◌∙◌, arith, Option, option_map, IsEquivalence, keys_of, HashedMap, find, without}
use Rattle.std.specs.List.{AllByRecursion, IsDistinct}
use Rattle.std.specs.Map.{set_value}
use Rattle.std.specs.Prelude.{MatchOption, OnErr}
use Rattle.std.proofs.lemmas.Map.{keys-set_value}
use Rattle.std.proofs.lemmas.Map.Keys.{IsDistinct-cons}
use Rattle.rpds_hash.specs.Altered.{IsAltered}
use Rattle.rpds_hash.specs.HashFilled.{IsFilledAt}
use Rattle.rpds_hash.specs.HashMapLends.{map_with}
use Rattle.rpds_hash_trie.proofs.FromIter.{find_put}
use Rattle.rpds_hash_trie.proofs.KeyLaws.{distinct_without, equal_to, permuted_alike}

pub on_err : {T E P : Type 0} (r : Result T E) → P → OnErr r P
on_err (Ok x) p = tt
on_err (Err e) p = p

pub absent_of : {T : Type 0} (o : Option T) → is_some o ≡ false → o ≡ None
absent_of None h = refl
absent_of (Some x) h = absurd (cc h)

-- what is lent of a key that is there is its value
pub told_there : {V : Type 0} (P : Type 0) (old : Option V) (x : V) → old ≡ Some x → MatchOption old P (λ v. x ≡ v)
told_there P old x is = subst (λ o. MatchOption o P (λ v. x ≡ v)) (sym is) refl

-- the value of a key that is there, written
pub filled_there : {K V H : Type 0} (eq : K → K → Bool) (k : K) (m : HashedMap K V H) (w : V) → is_some (find eq k m.entries) ≡ true
    → IsFilledAt eq k w m (map_with eq k m w)
filled_there {K} {V} {H} eq k m w = go (find eq k m.entries)
  where
    go : (o : Option (K × V)) → is_some o ≡ true → MatchOption o (IsAltered eq k (Some w) m (map_with eq k m w)) (λ _. map_with eq k m w ≡ map_with eq k m w)
    go None h = absurd (cc h)
    go (Some p) h = refl

module _ {K V : Type 0} {eq : K → K → Bool} (law : IsEquivalence eq) (k : K) where
  find_written : (w : V) (j : K) (es : List (K × V)) → find eq j (set_value (λ x. eq x k) es w)
      ≡ cond (eq k j) (option_map (λ p. (p.0, w)) (find eq k es)) (find eq j es)
  find_written w j [] = grind arith
  find_written w j (e ∷ es) = grind (arith, find_written w j es, law.congr e.0 k j, equal_to law e.0 j k, law.symm k j)

  none_equal : (es : List (K × V)) → AllByRecursion (λ j. eq k j ≡ false) (keys_of (without eq k es))
  none_equal [] = tt
  none_equal (e ∷ es) = grind (arith, none_equal es, law.symm e.0 k)

  module _ {H : Type 0} (old new : HashedMap K V H) (made : V) (put : IsAltered eq k (Some made) old new) where
    found_written : (w : V) (j : K) → find eq j (set_value (λ x. eq x k) new.entries w) ≡ find eq j ((k, w) ∷ old.entries)
    found_written w j = grind (arith, find_written w j new.entries, put.1 j, put.1 k, law.refl k)

    -- a key that was put in, written to, is put in with what was written
    put_written : (w : V) → IsDistinct eq (keys_of old.entries) → IsDistinct eq (keys_of new.entries) → IsAltered eq k (Some w) old (map_with eq k new w)
    put_written w apart distinct =
        let rest = without eq k old.entries in
        let written = set_value (λ x. eq x k) new.entries w in (
          record {
            pairs = permuted_alike law ((k, w) ∷ rest) written
                (IsDistinct-cons eq k (keys_of rest) (none_equal old.entries) (distinct_without law k old.entries apart))
                (subst (IsDistinct eq) (sym (keys-set_value (λ x. eq x k) new.entries w)) distinct)
                (λ j. find_put eq law j (k, w) old.entries ∙ sym (found_written w j));
            degree = put.0.degree;
            hasher = put.0.hasher;
          },
          found_written w,
        )

    pub filled_new : (w : V) → find eq k old.entries ≡ None → IsDistinct eq (keys_of old.entries) → IsDistinct eq (keys_of new.entries)
        → IsFilledAt eq k w old (map_with eq k new w)
    filled_new w none apart distinct =
        subst (λ o. MatchOption o (IsAltered eq k (Some w) old (map_with eq k new w)) (λ _. map_with eq k new w ≡ map_with eq k old w)) (sym none)
        (put_written w apart distinct)

    -- what is lent of it is what was made
    pub told_new : (P : V → Type 0) (x : V) → find eq k old.entries ≡ None → P made → option_map (λ p. p.1) (find eq k new.entries) ≡ Some x
        → MatchOption (option_map (λ p. p.1) (find eq k old.entries)) (P x) (λ v. x ≡ v)
    told_new P x none p e =
        let found : find eq k new.entries ≡ Some (k, made) = put.1 k ∙ ap (λ b. cond b (Some (k, made)) (find eq k old.entries)) (law.refl k) in
        let same : made ≡ x = cc (found, e) in
        subst (λ f. MatchOption (option_map (λ (q : K × V). q.1) f) (P x) (λ v. x ≡ v)) (sym none) (subst P same p)
