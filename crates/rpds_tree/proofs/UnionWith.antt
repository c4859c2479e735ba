-- A union that combines values, key by key.
use Rattle.std.proofs.Common.{◌≡◌, ◌&&◌, Bool, MatchBool, true, false, cond, Option, Some, None, is_some, List, ◌∷◌, Result, Ok, refl, sym, ap, subst, ◌∙◌}
use Rattle.std.proofs.lemmas.Cmp.{tied_back, tied_itself}
use Rattle.std.specs.Borrow.{Bor}
use Rattle.std.specs.Cmp.{IsTotalOrder}
use Rattle.std.specs.Option.{option_map, option_or}
use Rattle.std.specs.Ordering.{is_eq}
use Rattle.std.specs.declared.cmp.Ordering.{Ordering}
use Rattle.std.specs.declared.cmp.Ordering.TheVariants.{Less, Equal, Greater}
use Rattle.rpds_red_black.proofs.Pairs.{find_put, find_same, find_tied}
use Rattle.rpds_red_black.specs.Pairs.{IsAscending, find, put}
use Rattle.rpds_tree.proofs.MapLaws.{find_put_other}
use Rattle.rpds_tree.proofs.MergeSteps.{one_less_of, only_once}
use Rattle.rpds_tree.specs.United.{CombinesBy, CombinesTo, IsUnitedAt, united_by}
use denote.Param.Members.{Shared}

module _ {K V : Type 0} {R : K → K → Ordering} (o : IsTotalOrder R) {F E : Type 0} (g : Shared F (Bor K × (Bor V × (Bor V × Unit {0}))) (Result V E)) (f : F)
    (ours theirs : List (K × V)) where
  -- the pair of either map, ours where both have one
  abbrev pub either : K → Option (K × V)
  either k = option_or (find R k ours) (find R k theirs)

  abbrev pub in_both : K → Bool
  in_both k = is_some (find R k ours) && is_some (find R k theirs)

  abbrev pub UnitedAt : K → Option (K × V) → Type 0
  UnitedAt k found = IsUnitedAt g f (find R k ours) (find R k theirs) found

  -- what isn't in both maps is as in either
  alone : (a b found : Option (K × V)) → (is_some a && is_some b) ≡ false → found ≡ option_or a b → IsUnitedAt g f a b found
  alone None b found one is = is
  alone (Some p) None found one is = is
  alone (Some p) (Some q) found one is = absurd (cc)

  -- what isn't left to go over is in one map alone
  pub united_start : (rest was : List (K × V)) → ((k : K) → find R k rest ≡ None → in_both k ≡ false) → ((k : K) → find R k was ≡ either k) → (k : K)
      → MatchBool (is_some (find R k rest)) (find R k was ≡ either k) (UnitedAt k (find R k was))
  united_start rest was others is k = go (find R k rest) refl
    where
      go : (found : Option (K × V)) → find R k rest ≡ found → MatchBool (is_some found) (find R k was ≡ either k) (UnitedAt k (find R k was))
      go (Some p) there = is k
      go None gone = alone (find R k ours) (find R k theirs) (find R k was) (others k gone) (is k)

  -- the first of the keys that are left has the pair of either still
  pub still_either : (x : K × V) (rest was : List (K × V))
      → MatchBool (is_some (find R x.0 (x ∷ rest))) (find R x.0 was ≡ either x.0) (UnitedAt x.0 (find R x.0 was)) → find R x.0 was ≡ either x.0
  still_either x rest was is = subst
      (λ c. MatchBool (is_some (cond (is_eq c) (Some x) (find R x.0 rest))) (find R x.0 was ≡ either x.0) (UnitedAt x.0 (find R x.0 was))) (tied_itself o x.0) is

  -- the step at the first of the keys that are left
  pub united_step : (x : K × V) (rest was new : List (K × V)) (k : K) → IsAscending R (x ∷ rest)
      → MatchBool (is_some (find R k (x ∷ rest))) (find R k was ≡ either k) (UnitedAt k (find R k was))
      → MatchBool (is_eq (R k x.0)) (UnitedAt k (find R k new)) (find R k new ≡ find R k was)
      → MatchBool (is_some (find R k rest)) (find R k new ≡ either k) (UnitedAt k (find R k new))
  united_step x rest was new k up = one_less_of (is_eq (R k x.0)) x (find R k rest) (λ our found. UnitedAt k found) (either k) (find R k was) (find R k new)
      (only_once o x rest up k)

  -- a call at a key and two values
  pub combines : (key : Bor K) (our their : Bor V) (said : V) → g.post f (key, (our, (their, tt))) (Ok said)
      → CombinesTo g f key.now our.now their.now said
  combines key our their said met = record {
    key = key;
    our_value = our;
    their_value = their;
    shows = (refl, refl, refl);
    says = record { met = met };
  }

  -- what a key has by what the calls answer
  pub found_by : (combine : K → V → V → V) → CombinesBy g f combine → (a b found : Option (K × V)) → IsUnitedAt g f a b found → found ≡ united_by combine a b
  found_by combine calls None b found is = is
  found_by combine calls (Some p) None found is = is
  found_by combine calls (Some p) (Some q) found is =
      let says = is.1 in
      is.2 ∙ ap (λ value. Some (p.0, value)) (calls says.key says.our_value says.their_value is.0 says.says
      ∙ (λ i. combine (says.shows.0 i) (says.shows.1 i) (says.shows.2 i)))

  module _ (key : K) where
    values_alike : (k : K) → R k key ≡ Equal → (find R k ours ≡ find R key ours) × (find R k theirs ≡ find R key theirs)
    values_alike k e = (find_same o k key ours e, find_same o k key theirs e)

    -- a key of both with a new value
    pub combined_one : (p q : K × V) → find R key ours ≡ Some p → find R key theirs ≡ Some q → (value : V) → CombinesTo g f p.0 p.1 q.1 value
        → (was : List (K × V)) (k : K)
        → MatchBool (is_eq (R k key)) (UnitedAt k (find R k (put R (p.0, value) was))) (find R k (put R (p.0, value) was) ≡ find R k was)
    combined_one p q is_p is_q value says was k = go (R k key) refl
      where
        new : List (K × V)
        new = put R (p.0, value) was

        near : R key p.0 ≡ Equal
        near = find_tied o key ours p is_p

        apart : R p.0 k ≡ Equal → R k key ≡ Equal
        apart h = tied_back o key k (o.congr key p.0 k near ∙ h)

        go : (c : Ordering) → R k key ≡ c → MatchBool (is_eq c) (UnitedAt k (find R k new)) (find R k new ≡ find R k was)
        go Less e = find_put_other o (p.0, value) was k (λ h. (let tied = apart h in cc (tied, e)))
        go Greater e = find_put_other o (p.0, value) was k (λ h. (let tied = apart h in cc (tied, e)))
        go Equal e =
            let both = values_alike k e in
            let here : find R k new ≡ Some (p.0, value) = find_same o k p.0 new (o.congr k key p.0 e ∙ near) ∙ find_put R o (p.0, value) was in
            let at : IsUnitedAt g f (Some p) (Some q) (find R k new) = (value, says, here) in
            subst (λ a. IsUnitedAt g f a (find R k theirs) (find R k new)) (sym (both.0 ∙ is_p))
            (subst (λ b. IsUnitedAt g f (Some p) b (find R k new)) (sym (both.1 ∙ is_q)) at)

    -- the same, by their value
    pub combined_at : (p : K × V) (their : V) → find R key ours ≡ Some p → option_map (λ q. q.1) (find R key theirs) ≡ Some their → (value : V)
        → CombinesTo g f p.0 p.1 their value → (was : List (K × V)) (k : K)
        → MatchBool (is_eq (R k key)) (UnitedAt k (find R k (put R (p.0, value) was))) (find R k (put R (p.0, value) was) ≡ find R k was)
    combined_at p their is_p is_their value says was k = go (find R key theirs) refl is_their
      where
        go : (found : Option (K × V)) → find R key theirs ≡ found → option_map (λ q. q.1) found ≡ Some their
            → MatchBool (is_eq (R k key)) (UnitedAt k (find R k (put R (p.0, value) was))) (find R k (put R (p.0, value) was) ≡ find R k was)
        go None is_q at = absurd (cc)
        go (Some q) is_q at =
            let same : their ≡ q.1 = cc in
            combined_one p q is_p is_q value (subst (λ v. CombinesTo g f p.0 p.1 v value) same says) was k

    -- a key of one alone stays
    pub left_alone : in_both key ≡ false → (was : List (K × V)) → find R key was ≡ either key → (k : K)
        → MatchBool (is_eq (R k key)) (UnitedAt k (find R k was)) (find R k was ≡ find R k was)
    left_alone one was is k = go (R k key) refl
      where
        go : (c : Ordering) → R k key ≡ c → MatchBool (is_eq c) (UnitedAt k (find R k was)) (find R k was ≡ find R k was)
        go Less e = refl
        go Greater e = refl
        go Equal e =
            let both = values_alike k e in
            alone (find R k ours) (find R k theirs) (find R k was) ((λ i. is_some (both.0 i) && is_some (both.1 i)) ∙ one)
            (find_same o k key was e ∙ is ∙ sym (λ i. option_or (both.0 i) (both.1 i)))
