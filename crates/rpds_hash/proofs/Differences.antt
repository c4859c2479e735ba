-- The differences of two sets, by those of their maps.
use Rattle.std.specs.Prelude.{filter, is_none}
use Rattle.rpds_hash.specs.HashDifferences.{ChangeNoValue, added, change_of, changed, differences, member_differences, members_changed}
use Rattle.rpds_hash.specs.HashMerges.{differ}
use Rattle.rpds_hash.proofs.Words.{◌≡◌, ◌++◌, ◌∷◌, ◌∙◌, Bool, List, None, Option, Some, [], ap, cond, false, find, find_member, is_some, keys_of, map, option_map, refl, true}
use Rattle.rpds_hash.proofs.Members.{member_found}

abbrev Told : Type 0 → Type 0
Told T = T × (Option (Unit {0}) × Option (Unit {0}))

-- values that are all equal differ where one of them lacks
module _ (same : Unit {0} → Unit {0} → Bool) (alike : same tt tt ≡ true) {T : Type 0} (eq : T → T → Bool) where
  module _ (new : List (T × Unit {0})) where
    abbrev goes : T → Bool
    goes m = is_none (find_member eq m (keys_of new))

    members_gone : (es : List (T × Unit {0})) → members_changed (changed eq same new es) ≡ map (λ m. (m, false)) (filter goes (keys_of es))
    members_gone [] = refl
    members_gone (p ∷ es) = go (find eq p.0 new) (find_member eq p.0 (keys_of new)) (member_found eq p.0 new) (members_gone es)
      where
        go : (q : Option (T × Unit {0})) (m : Option T) → m ≡ option_map (λ r. r.0) q
            → members_changed (changed eq same new es) ≡ map (λ m. (m, false)) (filter goes (keys_of es))
            → members_changed (cond (differ same (change_of p q).1.0 (change_of p q).1.1) (change_of p q ∷ changed eq same new es) (changed eq same new es))
            ≡ map (λ m. (m, false)) (cond (is_none m) (p.0 ∷ filter goes (keys_of es)) (filter goes (keys_of es)))
        go None m e rest = rw e (ap (λ l. (p.0, false) ∷ l) rest)
        go (Some q) m e rest = rw (e, alike) rest

    none_changed : (es : List (T × Unit {0})) → ChangeNoValue (changed eq same new es)
    none_changed [] = tt
    none_changed (p ∷ es) = go (find eq p.0 new) (none_changed es)
      where
        go : (q : Option (T × Unit {0})) → ChangeNoValue (changed eq same new es)
            → ChangeNoValue (cond (differ same (change_of p q).1.0 (change_of p q).1.1) (change_of p q ∷ changed eq same new es) (changed eq same new es))
        go None rest = (refl, rest)
        go (Some q) rest = rw alike rest

  module _ (old : List (T × Unit {0})) where
    abbrev comes : T → Bool
    comes m = is_none (find_member eq m (keys_of old))

    members_new : (fs : List (T × Unit {0})) → members_changed (added eq old fs) ≡ map (λ m. (m, true)) (filter comes (keys_of fs))
    members_new [] = refl
    members_new (p ∷ fs) = go (find eq p.0 old) (find_member eq p.0 (keys_of old)) (member_found eq p.0 old) (members_new fs)
      where
        go : (q : Option (T × Unit {0})) (m : Option T) → m ≡ option_map (λ r. r.0) q
            → members_changed (added eq old fs) ≡ map (λ m. (m, true)) (filter comes (keys_of fs))
            → members_changed (map (λ r. (r.0, (None, Some r.1))) (cond (is_none q) (p ∷ filter (λ r. is_none (find eq r.0 old)) fs) (filter (λ r. is_none (find eq r.0 old)) fs)))
            ≡ map (λ m. (m, true)) (cond (is_none m) (p.0 ∷ filter comes (keys_of fs)) (filter comes (keys_of fs)))
        go None m e rest = rw e (ap (λ l. (p.0, true) ∷ l) rest)
        go (Some q) m e rest = rw e rest

    none_changed_new : (fs : List (T × Unit {0})) → ChangeNoValue (added eq old fs)
    none_changed_new [] = tt
    none_changed_new (p ∷ fs) = go (is_none (find eq p.0 old)) (none_changed_new fs)
      where
        go : (b : Bool) → ChangeNoValue (added eq old fs)
            → ChangeNoValue (map (λ r. (r.0, (None, Some r.1))) (cond b (p ∷ filter (λ r. is_none (find eq r.0 old)) fs) (filter (λ r. is_none (find eq r.0 old)) fs)))
        go true rest = (refl, rest)
        go false rest = rest

  told_of_both : (ds es : List (Told T)) → members_changed (ds ++ es) ≡ members_changed ds ++ members_changed es
  told_of_both [] es = refl
  told_of_both (d ∷ ds) es = ap (λ l. (d.0, is_some d.1.1) ∷ l) (told_of_both ds es)

  none_of_both : (ds es : List (Told T)) → ChangeNoValue ds → ChangeNoValue es → ChangeNoValue (ds ++ es)
  none_of_both [] es none more = more
  none_of_both (d ∷ ds) es none more = (none.0, none_of_both ds es none.1 more)

  pub no_value : (es fs : List (T × Unit {0})) → ChangeNoValue (differences eq same es fs)
  no_value es fs = none_of_both (changed eq same fs es) (added eq es fs) (none_changed fs es) (none_changed_new es fs)

  pub members_are : (es fs : List (T × Unit {0})) → members_changed (differences eq same es fs) ≡ member_differences eq (keys_of es) (keys_of fs)
  members_are es fs = told_of_both (changed eq same fs es) (added eq es fs) ∙ (λ i. members_gone fs es i ++ members_new es fs i)
