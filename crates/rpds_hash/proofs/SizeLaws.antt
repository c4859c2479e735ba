-- How many pairs two maps have together, and what doesn't differ from itself.
use Rattle.std.proofs.Common.{filter}
use Rattle.std.specs.List.{AllByRecursion, IsDistinct}
use Rattle.std.specs.Option.{option_or}
use Rattle.std.proofs.lemmas.Map.Keys.{IsDistinct-head, IsDistinct-tail}
use Rattle.rpds_hash.specs.HashDifferences.{added, changed, differences}
use Rattle.rpds_hash.proofs.Words.{arith, ◌≡◌, ℕ, suc, ◌+◌, ◌≤◌, ◌++◌, Bool, true, false, cond, Option, Some, None, is_some, option_map, List, [], ◌∷◌, length, slice_get}
use Rattle.rpds_hash.proofs.Words.{refl, ap, sym, ◌∙◌, IsEquivalence, keys_of, length_permutation, find, without, find_member}
use Rattle.rpds_hash_trie.proofs.FromIter.{find_without, find_without_other}
use Rattle.rpds_hash_trie.proofs.KeyLaws.{distinct_without, find_at, find_same, length_without, none_there, permuted_alike}
use Rattle.rpds_hash.proofs.MemberLaws.{apart, had, lengths, pair_in_units, units}
use Rattle.rpds_hash.proofs.Members.{to_unit}

module _ {K V : Type 0} {eq : K → K → Bool} (law : IsEquivalence eq) where
  -- the pairs whose keys are in others
  abbrev both_in : List (K × V) → List (K × V) → List (K × V)
  both_in es others = filter (λ p. is_some (find eq p.0 others)) es

  abbrev Either : List (K × V) → List (K × V) → List (K × V) → Type 0
  Either es fs gs = (k : K) → find eq k gs ≡ option_or (find eq k es) (find eq k fs)

  gone : (j k : K) (es : List (K × V)) → eq j k ≡ true → find eq k (without eq j es) ≡ None
  gone j k es tied = sym (find_same law j k (without eq j es) tied) ∙ find_without eq law j es

  -- without the first key each other one is found as before
  either_left : (e : K × V) (es fs gs : List (K × V)) → IsDistinct eq (keys_of (e ∷ es)) → Either (e ∷ es) fs gs
      → Either es (without eq e.0 fs) (without eq e.0 gs)
  either_left e es fs gs distinct finds k = go (eq e.0 k) refl (finds k)
    where
      go : (b : Bool) → eq e.0 k ≡ b → find eq k gs ≡ option_or (cond b (Some e) (find eq k es)) (find eq k fs)
          → find eq k (without eq e.0 gs) ≡ option_or (find eq k es) (find eq k (without eq e.0 fs))
      go true is here =
          let none = none_there law e.0 k es is (IsDistinct-head eq e.0 (keys_of es) distinct) in
          gone e.0 k gs is ∙ sym (λ i. option_or (none i) (gone e.0 k fs is i))
      go false is here =
          find_without_other eq law k e.0 gs is ∙ here ∙ ap (option_or (find eq k es)) (sym (find_without_other eq law k e.0 fs is))

  both_beside : (e : K × V) (es fs : List (K × V)) → AllByRecursion (λ j. eq e.0 j ≡ false) (keys_of es) → both_in es (without eq e.0 fs) ≡ both_in es fs
  both_beside e [] fs away = refl
  both_beside e (x ∷ es) fs away =
      rw (find_without_other eq law x.0 e.0 fs away.0) (ap (λ l. cond (is_some (find eq x.0 fs)) (x ∷ l) l) (both_beside e es fs away.1))

  one_less : (e : K × V) (gs : List (K × V)) → IsDistinct eq (keys_of gs) → find eq e.0 gs ≡ Some e → length (without eq e.0 gs) + 1 ≡ length gs
  one_less e gs distinct there = ap (λ found. length (without eq e.0 gs) + cond (is_some found) 1 0) (sym there) ∙ length_without law e.0 gs distinct

  step : (b : Bool) (e : K × V) (both : List (K × V)) (g g' n f f' : ℕ) → g' + 1 ≡ g → g' + length both ≡ n + f' → f' + cond b 1 0 ≡ f
      → g + length (cond b (e ∷ both) both) ≡ suc n + f
  step true e both g g' n f f' one rest less = omega (arith, one, rest, less)
  step false e both g g' n f f' one rest less = omega (arith, one, rest, less)

  first_found : (e : K × V) (es : List (K × V)) → find eq e.0 (e ∷ es) ≡ Some e
  first_found e es = rw (law.refl e.0) refl

  pub united_size : (es fs gs : List (K × V)) → IsDistinct eq (keys_of es) → IsDistinct eq (keys_of fs) → IsDistinct eq (keys_of gs) → Either es fs gs
      → length gs + length (both_in es fs) ≡ length es + length fs
  united_size [] fs gs des dfs dgs finds = let same = length_permutation gs fs (permuted_alike law gs fs dgs dfs finds) in omega (arith, same)
  united_size (e ∷ es) fs gs des dfs dgs finds =
      let there : find eq e.0 gs ≡ Some e = finds e.0 ∙ ap (λ found. option_or found (find eq e.0 fs)) (first_found e es) in
      let rest = united_size es (without eq e.0 fs) (without eq e.0 gs) (IsDistinct-tail eq e.0 (keys_of es) des) (distinct_without law e.0 fs dfs)
      (distinct_without law e.0 gs dgs) (either_left e es fs gs des finds) in
      let beside = ap (λ l. length (without eq e.0 gs) + length l) (sym (both_beside e es fs (IsDistinct-head eq e.0 (keys_of es) des))) ∙ rest in
      step (is_some (find eq e.0 fs)) e (both_in es fs) (length gs) (length (without eq e.0 gs)) (length es) (length fs) (length (without eq e.0 fs))
      (one_less e gs dgs there) beside (length_without law e.0 fs dfs)

  -- what is as large as all that it has
  pub no_smaller : (es fs gs : List (K × V)) → IsDistinct eq (keys_of es) → IsDistinct eq (keys_of gs) → Either es fs gs → length es ≤ length gs
  no_smaller [] fs gs des dgs finds = omega arith
  no_smaller (e ∷ es) fs gs des dgs finds =
      let there : find eq e.0 gs ≡ Some e = finds e.0 ∙ ap (λ found. option_or found (find eq e.0 fs)) (first_found e es) in
      let one = one_less e gs dgs there in
      let rest = no_smaller es (without eq e.0 fs) (without eq e.0 gs) (IsDistinct-tail eq e.0 (keys_of es) des) (distinct_without law e.0 gs dgs)
      (either_left e es fs gs des finds) in
      omega (arith, one, rest)

  -- pairs that each find themselves in es
  all_at : (P : K × V → Type 0) (es : List (K × V)) → ((i : ℕ) (p : K × V) → slice_get es i ≡ Some p → P p) → AllByRecursion P es
  all_at P [] at = tt
  all_at P (e ∷ es) at = (at 0 e refl, all_at P es (λ i p there. at (suc i) p there))

  module _ (same : V → V → Bool) (itself : (v : V) → same v v ≡ true) (es : List (K × V)) where
    none_changed : (ps : List (K × V)) → AllByRecursion (λ p. find eq p.0 es ≡ Some p) ps → changed eq same es ps ≡ []
    none_changed [] all = refl
    none_changed (p ∷ ps) all = rw (all.0, itself p.1) (none_changed ps all.1)

    none_added : (ps : List (K × V)) → AllByRecursion (λ p. find eq p.0 es ≡ Some p) ps → added eq es ps ≡ []
    none_added [] all = refl
    none_added (p ∷ ps) all = rw all.0 (none_added ps all.1)

    pub no_differences : IsDistinct eq (keys_of es) → differences eq same es es ≡ []
    no_differences distinct =
        let all = all_at (λ p. find eq p.0 es ≡ Some p) es (λ i p there. find_at law es i p distinct there) in
        (λ i. none_changed es all i ++ added eq es es) ∙ none_added es all

-- members as pairs
module _ {T : Type 0} (eq : T → T → Bool) (law : IsEquivalence eq) where
  common_units : (ms ns : List T) → units (filter (λ m. is_some (find_member eq m ns)) ms) ≡ both_in law (units ms) (units ns)
  common_units [] ns = refl
  common_units (m ∷ ms) ns = grind (arith, common_units ms ns, had eq law m ns)

  either_unit : (x : T) (ms ns us : List T) → find_member eq x us ≡ option_or (find_member eq x ms) (find_member eq x ns)
      → find eq x (units us) ≡ option_or (find eq x (units ms)) (find eq x (units ns))
  either_unit x ms ns us is = rw (pair_in_units eq x us, pair_in_units eq x ms, pair_in_units eq x ns, is) (go (find_member eq x ms) (find_member eq x ns))
    where
      go : (a b : Option T) → option_map to_unit (option_or a b) ≡ option_or (option_map to_unit a) (option_map to_unit b)
      go None b = refl
      go (Some y) b = refl

  pub united_members_size : (ms ns us : List T) → IsDistinct eq ms → IsDistinct eq ns → IsDistinct eq us
      → ((x : T) → find_member eq x us ≡ option_or (find_member eq x ms) (find_member eq x ns))
      → length us + length (filter (λ m. is_some (find_member eq m ns)) ms) ≡ length ms + length ns
  united_members_size ms ns us dms dns dus finds =
      (λ i. sym (lengths eq law us) i + (sym (lengths eq law (filter (λ m. is_some (find_member eq m ns)) ms)) ∙ ap length (common_units ms ns)) i)
      ∙ united_size law (units ms) (units ns) (units us) (apart eq law ms dms) (apart eq law ns dns) (apart eq law us dus)
      (λ x. either_unit x ms ns us (finds x))
      ∙ (λ i. lengths eq law ms i + lengths eq law ns i)

  pub no_smaller_set : (ms ns us : List T) → IsDistinct eq ms → IsDistinct eq us
      → ((x : T) → find_member eq x us ≡ option_or (find_member eq x ms) (find_member eq x ns)) → length ms ≤ length us
  no_smaller_set ms ns us dms dus finds =
      let least = no_smaller law (units ms) (units ns) (units us) (apart eq law ms dms) (apart eq law us dus) (λ x. either_unit x ms ns us (finds x)) in
      omega (arith, least, lengths eq law ms, lengths eq law us)
