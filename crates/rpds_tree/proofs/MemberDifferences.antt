-- The differences of two sets, by those of their maps.
use Rattle.std.specs.Prelude.{map}
use Rattle.rpds_tree.specs.Differences.{ChangeNoValue, member_differences, members_changed}
use Rattle.rpds_tree.proofs.Words.{◌≡◌, Bool, true, false, cond, not, Option, Some, None, List, [], ◌∷◌, is_some, refl, sym, ap, ◌∙◌, true≢false, filter}
use Rattle.rpds_tree.proofs.Words.{keys_of, option_map, Ordering, differ, differences, value_of, find_member, find, put_all}
use Rattle.rpds_tree.proofs.Members.{keys_put_all, member_found}

there : {T : Type 0} (found : Option (T × Unit {0})) → is_some (option_map (λ p. p.1) found) ≡ is_some (option_map (λ p. p.0) found)
there None = refl
there (Some p) = refl

-- values that are all equal differ where one of them lacks
module _ (same : Unit {0} → Unit {0} → Bool) (alike : same tt tt ≡ true) where
  differ_apart : {T : Type 0} (a b : Option (T × Unit {0})) → differ same (option_map (λ p. p.1) a) (option_map (λ p. p.1) b)
      ≡ differ (λ x y. true) (option_map (λ p. p.0) a) (option_map (λ p. p.0) b)
  differ_apart None None = refl
  differ_apart None (Some q) = refl
  differ_apart (Some p) None = refl
  differ_apart (Some p) (Some q) = ap not alike

  one_side : (a b : Option (Unit {0})) → differ same a b ≡ true → is_some a ≡ not (is_some b)
  one_side None None h = absurd (cc)
  one_side None (Some w) h = refl
  one_side (Some v) None h = refl
  one_side (Some v) (Some w) h = absurd (true≢false (sym h ∙ ap not alike))

  module _ {T : Type 0} (R : T → T → Ordering) where
    no_value_of : (ds : List (T × (Option (Unit {0}) × Option (Unit {0})))) → ChangeNoValue (filter (λ d. differ same d.1.0 d.1.1) ds)
    no_value_of [] = tt
    no_value_of (d ∷ ds) = go (no_value_of ds) (differ same d.1.0 d.1.1) refl
      where
        go : ChangeNoValue (filter (λ d. differ same d.1.0 d.1.1) ds) → (b : Bool) → differ same d.1.0 d.1.1 ≡ b
            → ChangeNoValue (cond b (d ∷ filter (λ d. differ same d.1.0 d.1.1) ds) (filter (λ d. differ same d.1.0 d.1.1) ds))
        go rest true h = (one_side d.1.0 d.1.1 h, rest)
        go rest false h = rest

    pub no_value : (es fs : List (T × Unit {0})) → ChangeNoValue (differences R same es fs)
    no_value es fs = no_value_of (map (λ p. (p.0, (value_of R p.0 es, value_of R p.0 fs))) (put_all R es fs))

    module _ (es fs : List (T × Unit {0})) where
      abbrev told : T → T × Bool
      told m = (m, is_some (find_member R m (keys_of fs)))

      abbrev apart : T → Bool
      apart m = differ (λ x y. true) (find_member R m (keys_of es)) (find_member R m (keys_of fs))

      apart_is : (m : T) → differ same (value_of R m es) (value_of R m fs) ≡ apart m
      apart_is m = differ_apart (find R m es) (find R m fs) ∙ (λ i. differ (λ x y. true) (sym (member_found R m es) i) (sym (member_found R m fs) i))

      told_is : (m : T) → is_some (value_of R m fs) ≡ is_some (find_member R m (keys_of fs))
      told_is m = there (find R m fs) ∙ ap is_some (sym (member_found R m fs))

      changed : (ps : List (T × Unit {0})) → members_changed (filter (λ d. differ same d.1.0 d.1.1) (map (λ p.
          (p.0, (value_of R p.0 es, value_of R p.0 fs))) ps)) ≡ map told (filter apart (keys_of ps))
      changed [] = refl
      changed (p ∷ ps) = go (changed ps) (differ same (value_of R p.0 es) (value_of R p.0 fs)) refl
        where
          those : List (T × (Option (Unit {0}) × Option (Unit {0})))
          those = filter (λ d. differ same d.1.0 d.1.1) (map (λ p. (p.0, (value_of R p.0 es, value_of R p.0 fs))) ps)

          go : members_changed those ≡ map told (filter apart (keys_of ps)) → (b : Bool) → differ same (value_of R p.0 es) (value_of R p.0 fs) ≡ b
              → members_changed (cond b ((p.0, (value_of R p.0 es, value_of R p.0 fs)) ∷ those) those) ≡ map told (filter apart (p.0 ∷ keys_of ps))
          go rest true h = let at : apart p.0 ≡ true = sym (apart_is p.0) ∙ h in rw at (λ i. (p.0, told_is p.0 i) ∷ rest i)
          go rest false h = let at : apart p.0 ≡ false = sym (apart_is p.0) ∙ h in rw at rest

      pub members_are : members_changed (differences R same es fs) ≡ member_differences R (keys_of es) (keys_of fs)
      members_are = changed (put_all R es fs) ∙ ap (λ z. map told (filter apart z)) (keys_put_all R es fs)
