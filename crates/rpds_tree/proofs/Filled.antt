-- A map that lent the value of a key, old or new.
use Rattle.std.proofs.lemmas.Bool.{false≢true}
use Rattle.std.specs.Prelude.{MatchOption, OnErr}
use Rattle.rpds_tree.specs.Filled.{IsFilled, with_or_put}
use Rattle.rpds_tree.proofs.Words.{◌≡◌, ◌≤◌, false, true, cond, is_some, length, List, [], ◌∷◌, Option, None, Some, IsSome, Result, Ok, Err, refl, sym, ap, subst}
use Rattle.rpds_tree.proofs.Words.{◌∙◌, arith, option_map, Ordering, IsTotalOrder, OrderedMap, most_levels, tied_itself, find, put}
use Rattle.rpds_red_black.specs.Pairs.{find_by}
use Rattle.rpds_red_black.specs.Values.{with_value, with_value_by}
use Rattle.rpds_red_black.proofs.Pairs.{find_put}
use Rattle.rpds_red_black.proofs.Take.{some_same}
use Rattle.rpds_red_black.proofs.Values.{length_with_value}

pub on_err : {T E P : Type 0} (r : Result T E) → P → OnErr r P
on_err (Ok x) p = tt
on_err (Err e) p = p

pub absent_of : {T : Type 0} (o : Option T) → is_some o ≡ false → o ≡ None
absent_of None h = refl
absent_of (Some x) h = absurd (cc h)

-- what is lent of a key that is there is its value
pub told_there : {V : Type 0} (P : Type 0) (old : Option V) (x : V) → old ≡ Some x → MatchOption old P (λ v. x ≡ v)
told_there P old x is = subst (λ o. MatchOption o P (λ v. x ≡ v)) (sym is) refl

-- nothing is written where nothing is found
unwritten : {K V : Type 0} (seek : K → Ordering) (v : V) (es : List (K × V)) → find_by seek es ≡ None → with_value_by seek es v ≡ es
unwritten seek v [] none = refl
unwritten seek v (e ∷ es) none = grind (arith, unwritten seek v es)

module _ {K V : Type 0} {R : K → K → Ordering} (k : K) where
  -- the value of a key that is there, written
  pub filled_there : (m : OrderedMap K V) (w : V) → is_some (find R k m.entries) ≡ true → m.depth ≤ most_levels (length m.entries)
      → IsFilled R k w m (record { entries = with_value R k m.entries w; depth = m.depth })
  filled_there m w there low = record {
    entries = sym (ap (λ b. cond b (with_value R k m.entries w) (put R (k, w) m.entries)) there);
    shallow = rw (length_with_value R (R k) m.entries w) low;
    kept = λ _. refl;
  }

  module _ (o : IsTotalOrder R) where
    -- a key that was put in, written to, is put in with what was written
    put_written : (made w : V) (es : List (K × V)) → find R k es ≡ None → with_value R k (put R (k, made) es) w ≡ put R (k, w) es
    put_written made w [] none = grind (arith, tied_itself o k)
    put_written made w (e ∷ es) none = grind (arith, tied_itself o k, put_written made w es, unwritten (R k) w es)

    pub filled_new : (old new : OrderedMap K V) (made w : V) → find R k old.entries ≡ None → new.entries ≡ put R (k, made) old.entries
        → new.depth ≤ most_levels (length new.entries) → IsFilled R k w old (record { entries = with_value R k new.entries w; depth = new.depth })
    filled_new old new made w none is low = record {
      entries = ap (λ es. with_value R k es w) is ∙ put_written made w old.entries none
          ∙ sym (ap (λ f. cond (is_some f) (with_value R k old.entries w) (put R (k, w) old.entries)) none);
      shallow = rw (length_with_value R (R k) new.entries w) low;
      kept = λ some. absurd (false≢true (subst IsSome none some));
    }

    -- what is lent of it is what was made
    pub told_new : (P : V → Type 0) (old new : List (K × V)) (made x : V) → find R k old ≡ None → new ≡ put R (k, made) old → P made
        → option_map (λ p. p.1) (find R k new) ≡ Some x → MatchOption (option_map (λ p. p.1) (find R k old)) (P x) (λ v. x ≡ v)
    told_new P old new made x none is p e =
        let found : find R k new ≡ Some (k, made) = ap (λ es. find R k es) is ∙ find_put R o (k, made) old in
        let same : made ≡ x = some_same made x (sym (ap (option_map (λ p. p.1)) found) ∙ e) in
        subst (λ f. MatchOption (option_map (λ (p : K × V). p.1) f) (P x) (λ v. x ≡ v)) (sym none) (subst P same p)
