-- What callers need of `differences`.
use Rattle.std.specs.Prelude.{filter, is_none}
use Rattle.std.specs.List.{AllByRecursion, IsDistinct}
use Rattle.std.specs.Option.{option_or}
use Rattle.std.proofs.lemmas.Map.Keys.{IsDistinct-cons, IsDistinct-head, IsDistinct-tail}
use Rattle.rpds_hash.specs.HashDifferences.{added, change_of, changed, differences}
use Rattle.rpds_hash.specs.HashMerges.{differ, value_of}
use Rattle.rpds_hash.proofs.Words.{◌≡◌, ◌++◌, ◌∷◌, ◌∙◌, Bool, IsEquivalence, List, None, Option, Some, [], ap, cond, false, find, keys_of, map, option_map, refl, sym, true}
use Rattle.rpds_hash_trie.proofs.KeyLaws.{find_same, find_tied, none_there}

abbrev Row : Type 0 → Type 0 → Type 0
Row K V = K × (Option V × Option V)

either_same : {X : Type 0} (b : Bool) (x : X) → x ≡ cond b x x
either_same true x = refl
either_same false x = refl

module _ {K V : Type 0} {eq : K → K → Bool} (law : IsEquivalence eq) (same : V → V → Bool) where
  find_in_both : (k : K) (ds es : List (Row K V)) → find eq k (ds ++ es) ≡ option_or (find eq k ds) (find eq k es)
  find_in_both k [] es = refl
  find_in_both k (d ∷ ds) es = go (eq d.0 k) (find_in_both k ds es)
    where
      go : (b : Bool) → find eq k (ds ++ es) ≡ option_or (find eq k ds) (find eq k es)
          → cond b (Some d) (find eq k (ds ++ es)) ≡ option_or (cond b (Some d) (find eq k ds)) (find eq k es)
      go true rest = refl
      go false rest = rest

  -- what is told of a pair, by the value that its key has afterwards
  abbrev outcome : Option V → Option (K × V) → Option (Option V × Option V)
  outcome after None = None
  outcome after (Some p) = cond (differ same (Some p.1) after) (Some (Some p.1, after)) None

  passed_by : (k : K) (d : Row K V) (ds : List (Row K V)) (b : Bool) → eq d.0 k ≡ false → find eq k (cond b (d ∷ ds) ds) ≡ find eq k ds
  passed_by k d ds true away = rw away refl
  passed_by k d ds false away = refl

  module _ (k : K) (new : List (K × V)) where
    abbrev told : K × V → Row K V
    told p = change_of p (find eq p.0 new)

    key_told : (p : K × V) → eq (told p).0 k ≡ eq p.0 k
    key_told p = go (find eq p.0 new) refl
      where
        go : (q : Option (K × V)) → find eq p.0 new ≡ q → eq (change_of p q).0 k ≡ eq p.0 k
        go None is = refl
        go (Some q) is = law.congr q.0 p.0 k (find_tied law p.0 new q is)

    values_told : (p : K × V) → eq p.0 k ≡ true → (told p).1 ≡ (Some p.1, value_of eq k new)
    values_told p here = go (find eq p.0 new) (find_same law p.0 k new here)
      where
        go : (q : Option (K × V)) → q ≡ find eq k new → (change_of p q).1 ≡ (Some p.1, value_of eq k new)
        go None is = ap (λ o. (Some p.1, option_map (λ r. r.1) o)) is
        go (Some q) is = ap (λ o. (Some p.1, option_map (λ r. r.1) o)) is

    none_changed : (es : List (K × V)) → find eq k es ≡ None → find eq k (changed eq same new es) ≡ None
    none_changed [] none = refl
    none_changed (p ∷ es) none = go (eq p.0 k) refl (none_changed es) none
      where
        go : (b : Bool) → eq p.0 k ≡ b → (find eq k es ≡ None → find eq k (changed eq same new es) ≡ None)
            → cond b (Some p) (find eq k es) ≡ None → find eq k (changed eq same new (p ∷ es)) ≡ None
        go true here rest none = absurd (cc)
        go false away rest none =
            passed_by k (told p) (changed eq same new es) (differ same (told p).1.0 (told p).1.1) (key_told p ∙ away) ∙ rest none

    at_first : (d : Row K V) (ds : List (Row K V)) (p : K × V) → eq d.0 k ≡ true → d.1 ≡ (Some p.1, value_of eq k new) → find eq k ds ≡ None
        → option_map (λ d. d.1) (find eq k (cond (differ same d.1.0 d.1.1) (d ∷ ds) ds)) ≡ outcome (value_of eq k new) (Some p)
    at_first d ds p here is none = go (differ same d.1.0 d.1.1) ∙ ap (λ both. cond (differ same both.0 both.1) (Some both) None) is
      where
        go : (b : Bool) → option_map (λ d. d.1) (find eq k (cond b (d ∷ ds) ds)) ≡ cond b (Some d.1) None
        go true = rw here refl
        go false = ap (option_map (λ d. d.1)) none

    found_changed : (es : List (K × V)) → IsDistinct eq (keys_of es) → option_map (λ d. d.1) (find eq k (changed eq same new es)) ≡ outcome (value_of eq k new) (find eq k es)
    found_changed [] distinct = refl
    found_changed (p ∷ es) distinct = go (eq p.0 k) refl (found_changed es (IsDistinct-tail eq p.0 (keys_of es) distinct))
      where
        go : (b : Bool) → eq p.0 k ≡ b → option_map (λ d. d.1) (find eq k (changed eq same new es)) ≡ outcome (value_of eq k new) (find eq k es)
            → option_map (λ d. d.1) (find eq k (changed eq same new (p ∷ es))) ≡ outcome (value_of eq k new) (cond b (Some p) (find eq k es))
        go true here rest =
            let none = none_there law p.0 k es here (IsDistinct-head eq p.0 (keys_of es) distinct) in
            at_first (told p) (changed eq same new es) p (key_told p ∙ here) (values_told p here) (none_changed es none)
        go false away rest =
            ap (option_map (λ d. d.1)) (passed_by k (told p) (changed eq same new es) (differ same (told p).1.0 (told p).1.1) (key_told p ∙ away)) ∙ rest

  module _ (k : K) (old : List (K × V)) where
    abbrev row : K × V → Row K V
    row p = (p.0, (None, Some p.1))

    abbrev missing : List (K × V) → List (K × V)
    missing fs = filter (λ p. is_none (find eq p.0 old)) fs

    found_added : (fs : List (K × V)) → option_map (λ d. d.1) (find eq k (added eq old fs))
        ≡ cond (is_none (find eq k old)) (option_map (λ p. (None, Some p.1)) (find eq k fs)) None
    found_added [] = either_same (is_none (find eq k old)) None
    found_added (p ∷ fs) = go (eq p.0 k) refl (found_added fs)
      where
        first_of : (b : Bool) → List (Row K V)
        first_of b = map row (cond b (p ∷ missing fs) (missing fs))

        here_if : (b : Bool) → eq p.0 k ≡ true
            → option_map (λ d. d.1) (find eq k (added eq old fs)) ≡ cond b (option_map (λ p. (None, Some p.1)) (find eq k fs)) None
            → option_map (λ d. d.1) (find eq k (first_of b)) ≡ cond b (Some (None, Some p.1)) None
        here_if true here rest = rw here refl
        here_if false here rest = rest

        away_if : (b : Bool) → eq p.0 k ≡ false → find eq k (first_of b) ≡ find eq k (added eq old fs)
        away_if true away = rw away refl
        away_if false away = refl

        go : (b : Bool) → eq p.0 k ≡ b
            → option_map (λ d. d.1) (find eq k (added eq old fs)) ≡ cond (is_none (find eq k old)) (option_map (λ p. (None, Some p.1)) (find eq k fs)) None
            → option_map (λ d. d.1) (find eq k (first_of (is_none (find eq p.0 old))))
            ≡ cond (is_none (find eq k old)) (option_map (λ p. (None, Some p.1)) (cond b (Some p) (find eq k fs))) None
        go true here rest =
            ap (λ o. option_map (λ d. d.1) (find eq k (first_of (is_none o)))) (find_same law p.0 k old here) ∙ here_if (is_none (find eq k old)) here rest
        go false away rest = ap (option_map (λ d. d.1)) (away_if (is_none (find eq p.0 old)) away) ∙ rest

  either_of : (a b : Option (Row K V)) → option_map (λ d. d.1) (option_or a b) ≡ option_or (option_map (λ d. d.1) a) (option_map (λ d. d.1) b)
  either_of None b = refl
  either_of (Some d) b = refl

  -- a key is found with its values exactly where these differ
  pub found_differences : (k : K) (old new : List (K × V)) → IsDistinct eq (keys_of old) → option_map (λ d. d.1) (find eq k (differences eq same old new))
      ≡ cond (differ same (value_of eq k old) (value_of eq k new)) (Some (value_of eq k old, value_of eq k new)) None
  found_differences k old new distinct =
      ap (option_map (λ d. d.1)) (find_in_both k (changed eq same new old) (added eq old new))
      ∙ either_of (find eq k (changed eq same new old)) (find eq k (added eq old new))
      ∙ (λ i. option_or (found_changed k new old distinct i) (found_added k old new i)) ∙ go (find eq k old) (find eq k new)
    where
      unchanged : (b : Bool) (both : Option V × Option V) → option_or (cond b (Some both) None) None ≡ cond b (Some both) None
      unchanged true both = refl
      unchanged false both = refl

      go : (p q : Option (K × V)) → option_or (outcome (option_map (λ r. r.1) q) p) (cond (is_none p) (option_map (λ r. (None, Some r.1)) q) None)
          ≡ cond (differ same (option_map (λ r. r.1) p) (option_map (λ r. r.1) q)) (Some (option_map (λ r. r.1) p, option_map (λ r. r.1) q)) None
      go None None = refl
      go None (Some q) = refl
      go (Some p) q = unchanged (differ same (Some p.1) (option_map (λ r. r.1) q)) (Some p.1, option_map (λ r. r.1) q)

  apart_of : (k : K) (ds : List (Row K V)) → find eq k ds ≡ None → AllByRecursion (λ j. eq k j ≡ false) (keys_of ds)
  apart_of k [] none = tt
  apart_of k (d ∷ ds) none = go (eq d.0 k) refl (apart_of k ds) none
    where
      go : (b : Bool) → eq d.0 k ≡ b → (find eq k ds ≡ None → AllByRecursion (λ j. eq k j ≡ false) (keys_of ds)) → cond b (Some d) (find eq k ds) ≡ None
          → (eq k d.0 ≡ false) × AllByRecursion (λ j. eq k j ≡ false) (keys_of ds)
      go true here rest none = absurd (cc)
      go false away rest none = (law.symm k d.0 ∙ away, rest none)

  module _ (old : List (K × V)) where
    -- a key of the older map isn't among the newer one's alone
    none_added : (k : K) (fs : List (K × V)) → is_none (find eq k old) ≡ false → find eq k (added eq old fs) ≡ None
    none_added k fs there = go (find eq k (added eq old fs)) (found_added k old fs ∙ ap (λ b. cond b (option_map (λ p. (None, Some p.1)) (find eq k fs)) None) there)
      where
        go : (o : Option (Row K V)) → option_map (λ d. d.1) o ≡ None → o ≡ None
        go None none = refl
        go (Some d) none = absurd (cc)

    apart_added : (k : K) (fs : List (K × V)) → AllByRecursion (λ j. eq k j ≡ false) (keys_of fs) → AllByRecursion (λ j. eq k j ≡ false) (keys_of (added eq old fs))
    apart_added k [] apart = tt
    apart_added k (p ∷ fs) apart = go (is_none (find eq p.0 old)) (apart_added k fs apart.1)
      where
        go : (b : Bool) → AllByRecursion (λ j. eq k j ≡ false) (keys_of (added eq old fs))
            → AllByRecursion (λ j. eq k j ≡ false) (keys_of (map (row k old) (cond b (p ∷ missing k old fs) (missing k old fs))))
        go true rest = (apart.0, rest)
        go false rest = rest

    distinct_added : (fs : List (K × V)) → IsDistinct eq (keys_of fs) → IsDistinct eq (keys_of (added eq old fs))
    distinct_added [] distinct = distinct
    distinct_added (p ∷ fs) distinct = go (is_none (find eq p.0 old)) (distinct_added fs (IsDistinct-tail eq p.0 (keys_of fs) distinct))
      where
        go : (b : Bool) → IsDistinct eq (keys_of (added eq old fs))
            → IsDistinct eq (keys_of (map (row p.0 old) (cond b (p ∷ missing p.0 old fs) (missing p.0 old fs))))
        go true rest = IsDistinct-cons eq p.0 (keys_of (added eq old fs)) (apart_added p.0 fs (IsDistinct-head eq p.0 (keys_of fs) distinct)) rest
        go false rest = rest

    module _ (new : List (K × V)) (distinct_new : IsDistinct eq (keys_of new)) where
      distinct_from : (es : List (K × V)) → ((k : K) → find eq k old ≡ None → find eq k es ≡ None) → IsDistinct eq (keys_of es)
          → IsDistinct eq (keys_of (changed eq same new es ++ added eq old new))
      distinct_from [] within distinct = distinct_added new distinct_new
      distinct_from (p ∷ es) within distinct = go (differ same d.1.0 d.1.1) (distinct_from es (λ k gone. behind k (within k gone)) tail)
        where
          d : Row K V
          d = change_of p (find eq p.0 new)

          rest : List (Row K V)
          rest = changed eq same new es ++ added eq old new

          tail : IsDistinct eq (keys_of es)
          tail = IsDistinct-tail eq p.0 (keys_of es) distinct

          behind : (k : K) → find eq k (p ∷ es) ≡ None → find eq k es ≡ None
          behind k none = only (eq p.0 k) none
            where
              only : (b : Bool) → cond b (Some p) (find eq k es) ≡ None → find eq k es ≡ None
              only true none = absurd (cc)
              only false none = none

          here : eq p.0 d.0 ≡ true
          here = law.symm p.0 d.0 ∙ key_told p.0 new p ∙ law.refl p.0

          there : is_none (find eq d.0 old) ≡ false
          there = by (find eq d.0 old) refl
            where
              by : (o : Option (K × V)) → find eq d.0 old ≡ o → is_none o ≡ false
              by None gone =
                  let none : cond (eq p.0 d.0) (Some p) (find eq d.0 es) ≡ None = within d.0 gone in
                  let bad : Some p ≡ None = sym (ap (λ b. cond b (Some p) (find eq d.0 es)) here) ∙ none in
                  absurd (cc)
              by (Some q) is = refl

          none : find eq d.0 rest ≡ None
          none =
              let absent = none_there law p.0 d.0 es here (IsDistinct-head eq p.0 (keys_of es) distinct) in
              find_in_both d.0 (changed eq same new es) (added eq old new)
              ∙ (λ i. option_or (none_changed d.0 new es absent i) (none_added d.0 new there i))

          go : (b : Bool) → IsDistinct eq (keys_of rest) → IsDistinct eq (keys_of (cond b (d ∷ changed eq same new es) (changed eq same new es) ++ added eq old new))
          go true more = IsDistinct-cons eq d.0 (keys_of rest) (apart_of d.0 rest none) more
          go false more = more

  -- each key is told once
  pub distinct_differences : (old new : List (K × V)) → IsDistinct eq (keys_of old) → IsDistinct eq (keys_of new) → IsDistinct eq (keys_of (differences eq same old new))
  distinct_differences old new distinct distinct_new = distinct_from old new distinct_new old (λ k none. none) distinct
