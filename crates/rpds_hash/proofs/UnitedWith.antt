-- A union that combines values, key by key.
use Rattle.rpds_hash.proofs.Words.{◌≡◌, ◌&&◌, Bool, true, false, cond, is_some, List, ◌∷◌, Some, None, Result, Ok, refl, sym, ap, subst, ◌∙◌, Option, option_map, IsEquivalence, keys_of, find}
use Rattle.std.specs.Borrow.{Bor}
use Rattle.std.specs.List.{IsDistinct}
use Rattle.std.specs.Option.{option_or}
use Rattle.std.specs.Prelude.{MatchBool}
use Rattle.std.proofs.lemmas.Map.Keys.{IsDistinct-head}
use Rattle.rpds_hash.specs.HashUnited.{CombinesBy, CombinesTo, IsUnitedAt, united_by}
use Rattle.rpds_hash_trie.proofs.KeyLaws.{find_same, find_tied, none_there}
use denote.Param.Members.{Shared}

-- a key that one of two maps lacks isn't in both
pub ours_lack : {X Y : Type 0} (a : Option X) (b : Option Y) → a ≡ None → (is_some a && is_some b) ≡ false
ours_lack a b none = ap (λ o. is_some o && is_some b) none

pub theirs_lack : {X Y Z : Type 0} (f : Y → Z) (a : Option X) (b : Option Y) → option_map f b ≡ None → (is_some a && is_some b) ≡ false
theirs_lack f None b none = refl
theirs_lack f (Some x) None none = refl
theirs_lack f (Some x) (Some y) none = absurd (cc)

module _ {K V : Type 0} {eq : K → K → Bool} (law : IsEquivalence eq) {F E : Type 0} (g : Shared F (Bor K × (Bor V × (Bor V × Unit {0}))) (Result V E)) (f : F)
    (ours theirs : List (K × V)) where
  -- the pair of either map, ours where both have one
  abbrev pub either : K → Option (K × V)
  either k = option_or (find eq k ours) (find eq k theirs)

  abbrev pub in_both : K → Bool
  in_both k = is_some (find eq k ours) && is_some (find eq k theirs)

  abbrev pub UnitedAt : K → Option (K × V) → Type 0
  UnitedAt k found = IsUnitedAt g f (find eq k ours) (find eq k theirs) found

  -- what k has, where the keys of `rest` are left to go over: the pair of either, or both values in one
  abbrev pub IsUnitedSoFar : List (K × V) → K → Option (K × V) → Type 0
  IsUnitedSoFar rest k found = MatchBool (is_some (find eq k rest)) (found ≡ either k) (UnitedAt k found)

  -- what isn't in both maps is as in either
  alone : (a b found : Option (K × V)) → (is_some a && is_some b) ≡ false → found ≡ option_or a b → IsUnitedAt g f a b found
  alone None b found one is = is
  alone (Some p) None found one is = is
  alone (Some p) (Some q) found one is = absurd (cc)

  -- what isn't left to go over is in one map alone
  pub united_start : (rest was : List (K × V)) → ((k : K) → find eq k rest ≡ None → in_both k ≡ false) → ((k : K) → find eq k was ≡ either k) → (k : K)
      → IsUnitedSoFar rest k (find eq k was)
  united_start rest was others is k = go (find eq k rest) refl
    where
      go : (found : Option (K × V)) → find eq k rest ≡ found → MatchBool (is_some found) (find eq k was ≡ either k) (UnitedAt k (find eq k was))
      go (Some p) there = is k
      go None gone = alone (find eq k ours) (find eq k theirs) (find eq k was) (others k gone) (is k)

  -- the first of the keys that are left has the pair of either still
  pub still_either : (x : K × V) (rest was : List (K × V)) → IsUnitedSoFar (x ∷ rest) x.0 (find eq x.0 was) → find eq x.0 was ≡ either x.0
  still_either x rest was is = subst
      (λ b. MatchBool (is_some (cond b (Some x) (find eq x.0 rest))) (find eq x.0 was ≡ either x.0) (UnitedAt x.0 (find eq x.0 was))) (law.refl x.0) is

  -- the step at the first of the keys that are left
  pub united_step : (x : K × V) (rest was new : List (K × V)) (k : K) → IsDistinct eq (keys_of (x ∷ rest)) → IsUnitedSoFar (x ∷ rest) k (find eq k was)
      → MatchBool (eq x.0 k) (UnitedAt k (find eq k new)) (find eq k new ≡ find eq k was) → IsUnitedSoFar rest k (find eq k new)
  united_step x rest was new k distinct = go (eq x.0 k) (find eq k rest) (λ here. none_there law x.0 k rest here (IsDistinct-head eq x.0 (keys_of rest) distinct))
    where
      go : (here : Bool) (left : Option (K × V)) → (here ≡ true → left ≡ None)
          → MatchBool (is_some (cond here (Some x) left)) (find eq k was ≡ either k) (UnitedAt k (find eq k was))
          → MatchBool here (UnitedAt k (find eq k new)) (find eq k new ≡ find eq k was)
          → MatchBool (is_some left) (find eq k new ≡ either k) (UnitedAt k (find eq k new))
      go true None once before step = step
      go true (Some y) once before step = absurd (cc (once refl))
      go false None once before step = subst (UnitedAt k) (sym step) before
      go false (Some y) once before step = step ∙ before

  -- a call at a key and two values
  pub combines : (key : Bor K) (our their : Bor V) (said : V) → g.post f (key, (our, (their, tt))) (Ok said)
      → CombinesTo g f key.now our.now their.now said
  combines key our their said met = record {
    key = key;
    our_value = our;
    their_value = their;
    shows = (refl, refl, refl);
    says = record { met = met };
  }

  -- what a key has by what the calls answer
  pub found_by : (combine : K → V → V → V) → CombinesBy g f combine → (a b found : Option (K × V)) → IsUnitedAt g f a b found → found ≡ united_by combine a b
  found_by combine calls None b found is = is
  found_by combine calls (Some p) None found is = is
  found_by combine calls (Some p) (Some q) found is =
      let says = is.1 in
      is.2 ∙ ap (λ value. Some (p.0, value)) (calls says.key says.our_value says.their_value is.0 says.says
      ∙ (λ i. combine (says.shows.0 i) (says.shows.1 i) (says.shows.2 i)))

  module _ (key : K) where
    -- a key of both with a new value
    combined_one : (p q : K × V) → find eq key ours ≡ Some p → find eq key theirs ≡ Some q → (value : V) → CombinesTo g f p.0 p.1 q.1 value
        → (was new : List (K × V)) → ((k : K) → find eq k new ≡ find eq k ((p.0, value) ∷ was)) → (k : K)
        → MatchBool (eq key k) (UnitedAt k (find eq k new)) (find eq k new ≡ find eq k was)
    combined_one p q is_p is_q value says was new put k = go (eq key k) refl
      where
        near : eq p.0 k ≡ eq key k
        near = law.congr p.0 key k (find_tied law key ours p is_p)

        go : (here : Bool) → eq key k ≡ here → MatchBool here (UnitedAt k (find eq k new)) (find eq k new ≡ find eq k was)
        go false e = put k ∙ ap (λ b. cond b (Some (p.0, value)) (find eq k was)) (near ∙ e)
        go true e =
            let here : find eq k new ≡ Some (p.0, value) = put k ∙ ap (λ b. cond b (Some (p.0, value)) (find eq k was)) (near ∙ e) in
            let at : IsUnitedAt g f (Some p) (Some q) (find eq k new) = (value, says, here) in
            subst (λ a. IsUnitedAt g f a (find eq k theirs) (find eq k new)) (sym is_p ∙ find_same law key k ours e)
            (subst (λ b. IsUnitedAt g f (Some p) b (find eq k new)) (sym is_q ∙ find_same law key k theirs e) at)

    -- the same, by their value
    pub combined_at : (p : K × V) (their : V) → find eq key ours ≡ Some p → option_map (λ q. q.1) (find eq key theirs) ≡ Some their → (value : V)
        → CombinesTo g f p.0 p.1 their value → (was new : List (K × V)) → ((k : K) → find eq k new ≡ find eq k ((p.0, value) ∷ was)) → (k : K)
        → MatchBool (eq key k) (UnitedAt k (find eq k new)) (find eq k new ≡ find eq k was)
    combined_at p their is_p is_their value says was new put k = go (find eq key theirs) refl is_their
      where
        go : (found : Option (K × V)) → find eq key theirs ≡ found → option_map (λ q. q.1) found ≡ Some their
            → MatchBool (eq key k) (UnitedAt k (find eq k new)) (find eq k new ≡ find eq k was)
        go None is_q at = absurd (cc)
        go (Some q) is_q at =
            let same : their ≡ q.1 = cc in
            combined_one p q is_p is_q value (subst (λ v. CombinesTo g f p.0 p.1 v value) same says) was new put k

    -- a key of one alone stays
    pub left_alone : in_both key ≡ false → (was : List (K × V)) → find eq key was ≡ either key → (k : K)
        → MatchBool (eq key k) (UnitedAt k (find eq k was)) (find eq k was ≡ find eq k was)
    left_alone one was is k = go (eq key k) refl
      where
        go : (here : Bool) → eq key k ≡ here → MatchBool here (UnitedAt k (find eq k was)) (find eq k was ≡ find eq k was)
        go false e = refl
        go true e =
            let our = find_same law key k ours e in
            let their = find_same law key k theirs e in
            alone (find eq k ours) (find eq k theirs) (find eq k was) ((λ i. is_some (sym our i) && is_some (sym their i)) ∙ one)
            (sym (find_same law key k was e) ∙ is ∙ (λ i. option_or (our i) (their i)))
