-- Steps of a merge, and of a union that combines values.
use Rattle.std.proofs.Common.{◌≡◌, ◌&&◌, not, Bool, MatchBool, true, false, cond, if◌then◌else◌, Option, Some, None, is_some, List, [], ◌∷◌, ◌++◌, filter, map, append_assoc, Result, Ok, refl, sym, ap, subst, ◌∙◌}
use Rattle.std.proofs.lemmas.Cmp.{tied_back, tied_itself}
use Rattle.std.specs.Borrow.{Bor}
use Rattle.std.specs.Cmp.{IsTotalOrder}
use Rattle.std.specs.Fn.{FnReturns}
use Rattle.std.specs.Option.{option_copied, option_map}
use Rattle.std.specs.Ordering.{is_eq, ordering_reverse}
use Rattle.std.specs.declared.cmp.Ordering.{Ordering}
use Rattle.std.specs.declared.cmp.Ordering.TheVariants.{Less, Equal, Greater}
use Rattle.rpds_red_black.proofs.Cutting.{none_at}
use Rattle.rpds_red_black.proofs.Pairs.{find_put, find_same, find_without, find_without_other}
use Rattle.rpds_red_black.specs.Pairs.{IsAscending, find, put, without}
use Rattle.rpds_tree.proofs.MapLaws.{find_put_other}
use Rattle.rpds_tree.specs.Differences.{differ, value_of}
use Rattle.rpds_tree.specs.Merges.{IsMergedAt, IsResolved, SettlesBy, is_conflict, is_conflict_at, is_theirs, is_theirs_at, merged_at, merged_value}
use denote.Param.Members.{Shared}

-- a step at one key, where that key had ours so far, and the others are left as they are
pub one_less : {X Y : Type 0} (here : Bool) (x : X) (rest : Option X) (merge : Y → Y) (our was is : Y) → (here ≡ true → rest ≡ None)
    → was ≡ (if is_some (cond here (Some x) rest) then our else merge our) → is ≡ (if here then merge was else was)
    → is ≡ (if is_some rest then our else merge our)
one_less true x None merge our was is once before step = step ∙ ap merge before
one_less true x (Some y) merge our was is once before step = absurd (cc (once refl))
one_less false x rest merge our was is once before step = step ∙ before

-- the same, of a step that makes P true of that key
pub one_less_of : {X Y : Type 0} (here : Bool) (x : X) (rest : Option X) (P : Y → Y → Type 0) (our was is : Y) → (here ≡ true → rest ≡ None)
    → MatchBool (is_some (cond here (Some x) rest)) (was ≡ our) (P our was) → MatchBool here (P was is) (is ≡ was)
    → MatchBool (is_some rest) (is ≡ our) (P our is)
one_less_of true x None P our was is once before step = subst (λ was. P was is) before step
one_less_of true x (Some y) P our was is once before step = absurd (cc (once refl))
one_less_of false x None P our was is once before step = subst (P our) (sym step) before
one_less_of false x (Some y) P our was is once before step = step ∙ before

-- a key comes but once
pub only_once : {K W : Type 0} {R : K → K → Ordering} (o : IsTotalOrder R) (x : K × W) (rest : List (K × W)) → IsAscending R (x ∷ rest) → (k : K)
    → is_eq (R k x.0) ≡ true → find R k rest ≡ None
only_once {R = R} o x rest up k here = none_at R o k x.0 rest (equal (R k x.0) here) up.0
  where
    equal : (c : Ordering) → is_eq c ≡ true → c ≡ Equal
    equal Less h = absurd (cc)
    equal Equal h = refl
    equal Greater h = absurd (cc)

-- the keys behind references, one more
pub shown_more : {K : Type 0} (ks : List (Bor K)) (k : Bor K) → map (λ j. j.now) (ks ++ k ∷ []) ≡ map (λ j. j.now) ks ++ k.now ∷ []
shown_more [] k = refl
shown_more (j ∷ ks) k = ap (λ l. j.now ∷ l) (shown_more ks k)

-- of the conflicts that are left, one more is told, or is none
pub one_told : {K : Type 0} (c : K → Bool) (x : K) (told rest : List K) → c x ≡ true → (told ++ x ∷ []) ++ filter c rest ≡ told ++ filter c (x ∷ rest)
one_told c x told rest is = append_assoc told (x ∷ []) (filter c rest) ∙ ap (λ b. told ++ cond b (x ∷ filter c rest) (filter c rest)) (sym is)

pub none_told : {K : Type 0} (c : K → Bool) (x : K) (told rest : List K) → c x ≡ false → told ++ filter c rest ≡ told ++ filter c (x ∷ rest)
none_told c x told rest is = ap (λ b. told ++ cond b (x ∷ filter c rest) (filter c rest)) (sym is)

module _ {V : Type 0} (same : V → V → Bool) (base ours theirs : Option V) where
  -- what they didn't change isn't theirs, and no conflict
  pub not_theirs : differ same base theirs ≡ false → is_theirs same base ours theirs ≡ false
  not_theirs is = rw is (go (not (differ same base ours)))
    where
      go : (a : Bool) → (a && false) ≡ false
      go true = refl
      go false = refl

  pub not_apart : differ same base theirs ≡ false → is_conflict same base ours theirs ≡ false
  not_apart is = rw is (go (differ same base ours) (differ same ours theirs))
    where
      go : (a b : Bool) → (a && false && b) ≡ false
      go true b = refl
      go false b = refl

  -- what we didn't change is theirs where they did, and no conflict
  pub theirs_alone : differ same base ours ≡ false → differ same base theirs ≡ true → is_theirs same base ours theirs ≡ true
  theirs_alone our their = rw (our, their) refl

  pub no_conflict_alone : differ same base ours ≡ false → is_conflict same base ours theirs ≡ false
  no_conflict_alone our = rw our refl

  -- what we changed isn't theirs, and a conflict where they changed it otherwise
  pub not_theirs_of_ours : differ same base ours ≡ true → is_theirs same base ours theirs ≡ false
  not_theirs_of_ours our = rw our refl

  pub conflict_of_both : differ same base ours ≡ true → differ same base theirs ≡ true → is_conflict same base ours theirs ≡ differ same ours theirs
  conflict_of_both our their = rw (our, their) refl

module _ {K V W : Type 0} (R : K → K → Ordering) (same : V → V → Bool) (base ours theirs : List (K × V)) (changed : List (K × W))
    (others : (k : K) → find R k changed ≡ None → differ same (value_of R k base) (value_of R k theirs) ≡ false) where
  -- a key that they didn't change stays as ours is, and is no conflict
  pub spared : (k : K) → find R k ours ≡ (if is_some (find R k changed) then find R k ours else merged_at R same base ours theirs k)
  spared k = go (find R k changed) refl
    where
      go : (found : Option (K × W)) → find R k changed ≡ found → find R k ours ≡ (if is_some found then find R k ours else merged_at R same base ours theirs k)
      go (Some p) is = refl
      go None is = rw (not_theirs same (value_of R k base) (value_of R k ours) (value_of R k theirs) (others k is)) refl

  pub no_conflict_at : (k : K) → find R k changed ≡ None → is_conflict_at R same base ours theirs k ≡ false
  no_conflict_at k none = not_apart same (value_of R k base) (value_of R k ours) (value_of R k theirs) (others k none)

  -- the same, where conflicts are settled
  pub spared_of : (P : K → Type 0) (k : K) → MatchBool (is_some (find R k changed)) (find R k ours ≡ find R k ours)
      (MatchBool (is_conflict_at R same base ours theirs k) (P k) (find R k ours ≡ merged_at R same base ours theirs k))
  spared_of P k = go (find R k changed) refl
    where
      go : (found : Option (K × W)) → find R k changed ≡ found → MatchBool (is_some found) (find R k ours ≡ find R k ours)
          (MatchBool (is_conflict_at R same base ours theirs k) (P k) (find R k ours ≡ merged_at R same base ours theirs k))
      go (Some p) is = refl
      go None is = rw (no_conflict_at k is)
          (spared k ∙ ap (λ (f : Option (K × W)). if is_some f then find R k ours else merged_at R same base ours theirs k) is)

module _ {K V : Type 0} {R : K → K → Ordering} (o : IsTotalOrder R) (same : V → V → Bool) (base ours theirs : List (K × V)) (key : K) where
  theirs_alike : (k : K) → R k key ≡ Equal → is_theirs_at R same base ours theirs k ≡ is_theirs_at R same base ours theirs key
  theirs_alike k is = λ i. is_theirs same (option_map (λ p. p.1) (find_same o k key base is i)) (option_map (λ p. p.1) (find_same o k key ours is i))
      (option_map (λ p. p.1) (find_same o k key theirs is i))

  -- what all keys find once theirs is copied at a key that they alone changed
  pub taken : is_theirs_at R same base ours theirs key ≡ true → (new : List (K × V)) (k : K)
      → find R k new ≡ (if is_eq (R key k) then find R k theirs else find R k ours)
      → find R k new ≡ (if is_eq (R k key) then merged_at R same base ours theirs k else find R k ours)
  taken alone new k is = go (R k key) refl
    where
      turned : (c : Ordering) → R key k ≡ c → find R k new ≡ (if is_eq c then find R k theirs else find R k ours)
      turned c e = is ∙ ap (λ c. if is_eq c then find R k theirs else find R k ours) e

      go : (c : Ordering) → R k key ≡ c → find R k new ≡ (if is_eq c then merged_at R same base ours theirs k else find R k ours)
      go Less e = turned Greater (o.antisymm key k ∙ ap ordering_reverse e)
      go Greater e = turned Less (o.antisymm key k ∙ ap ordering_reverse e)
      go Equal e = turned Equal (tied_back o k key e) ∙ sym (ap (λ b. if b then find R k theirs else find R k ours) (theirs_alike k e ∙ alone))

  -- and of a key that they didn't change alone
  pub left : is_theirs_at R same base ours theirs key ≡ false → (k : K)
      → find R k ours ≡ (if is_eq (R k key) then merged_at R same base ours theirs k else find R k ours)
  left not_alone k = go (R k key) refl
    where
      go : (c : Ordering) → R k key ≡ c → find R k ours ≡ (if is_eq c then merged_at R same base ours theirs k else find R k ours)
      go Less e = refl
      go Greater e = refl
      go Equal e = sym (ap (λ b. if b then find R k theirs else find R k ours) (theirs_alike k e ∙ not_alone))

  -- what all keys find once a key has a value, or has none
  pub settled_in : (v : V) (es : List (K × V)) (k : K)
      → MatchBool (is_eq (R k key)) (value_of R k (put R (key, v) es) ≡ Some v) (find R k (put R (key, v) es) ≡ find R k es)
  settled_in v es k = go (R k key) refl
    where
      go : (c : Ordering) → R k key ≡ c → MatchBool (is_eq c) (value_of R k (put R (key, v) es) ≡ Some v) (find R k (put R (key, v) es) ≡ find R k es)
      go Less e = find_put_other o (key, v) es k (λ h. (let back = tied_back o key k h in cc (back, e)))
      go Greater e = find_put_other o (key, v) es k (λ h. (let back = tied_back o key k h in cc (back, e)))
      go Equal e = ap (option_map (λ p. p.1)) (find_same o k key (put R (key, v) es) e ∙ find_put R o (key, v) es)

  pub settled_out : (es : List (K × V)) (k : K)
      → MatchBool (is_eq (R k key)) (value_of R k (without R key es) ≡ None) (find R k (without R key es) ≡ find R k es)
  settled_out es k = go (R k key) refl
    where
      go : (c : Ordering) → R k key ≡ c → MatchBool (is_eq c) (value_of R k (without R key es) ≡ None) (find R k (without R key es) ≡ find R k es)
      go Less e = find_without_other R o k key es (λ h. (let back = tied_back o key k h in cc (back, e)))
      go Greater e = find_without_other R o k key es (λ h. (let back = tied_back o key k h in cc (back, e)))
      go Equal e = ap (option_map (λ p. p.1)) (find_same o k key (without R key es) e ∙ find_without R o key es)

  -- the step of a merge at the first of the keys that are left
  pub ours_step : {W : Type 0} (x : K × W) (rest : List (K × W)) (was new : List (K × V)) (k : K) → IsAscending R (x ∷ rest)
      → find R k was ≡ (if is_some (find R k (x ∷ rest)) then find R k ours else merged_at R same base ours theirs k)
      → find R k new ≡ (if is_eq (R k x.0) then merged_at R same base was theirs k else find R k was)
      → find R k new ≡ (if is_some (find R k rest) then find R k ours else merged_at R same base ours theirs k)
  ours_step x rest was new k up = one_less (is_eq (R k x.0)) x (find R k rest)
      (λ our. if is_theirs same (value_of R k base) (option_map (λ p. p.1) our) (value_of R k theirs) then find R k theirs else our) (find R k ours) (find R k was)
      (find R k new) (only_once o x rest up k)

  -- the first of the keys that are left has ours still
  pub still_ours : {W : Type 0} (x : K × W) (rest : List (K × W)) (was : List (K × V))
      → find R x.0 was ≡ (if is_some (find R x.0 (x ∷ rest)) then find R x.0 ours else merged_at R same base ours theirs x.0)
      → is_conflict_at R same base was theirs x.0 ≡ is_conflict_at R same base ours theirs x.0
  still_ours x rest was is =
      let here = ap (λ c. if is_some (cond (is_eq c) (Some x) (find R x.0 rest)) then find R x.0 ours else merged_at R same base ours theirs x.0)
      (tied_itself o x.0) in
      ap (λ (f : Option (K × V)). is_conflict same (value_of R x.0 base) (option_map (λ p. p.1) f) (value_of R x.0 theirs)) (is ∙ here)

  pub both_alike : (k : K) → R k key ≡ Equal → is_conflict_at R same base ours theirs k ≡ is_conflict_at R same base ours theirs key
  both_alike k is = λ i. is_conflict same (option_map (λ p. p.1) (find_same o k key base is i)) (option_map (λ p. p.1) (find_same o k key ours is i))
      (option_map (λ p. p.1) (find_same o k key theirs is i))

  -- a merge of a key that is no conflict
  pub merged_one : is_conflict_at R same base ours theirs key ≡ false → (P : Type 0) (new : List (K × V)) (k : K)
      → find R k new ≡ (if is_eq (R k key) then merged_at R same base ours theirs k else find R k ours)
      → MatchBool (is_eq (R k key)) (MatchBool (is_conflict_at R same base ours theirs k) P (find R k new ≡ merged_at R same base ours theirs k))
      (find R k new ≡ find R k ours)
  merged_one settled P new k is = go (R k key) refl is
    where
      go : (c : Ordering) → R k key ≡ c → find R k new ≡ (if is_eq c then merged_at R same base ours theirs k else find R k ours)
          → MatchBool (is_eq c) (MatchBool (is_conflict_at R same base ours theirs k) P (find R k new ≡ merged_at R same base ours theirs k))
          (find R k new ≡ find R k ours)
      go Less e is = is
      go Greater e is = is
      go Equal e is = subst (λ b. MatchBool b P (find R k new ≡ merged_at R same base ours theirs k)) (sym (both_alike k e ∙ settled)) is

  not_alone : (b o t : Option V) → is_conflict same b o t ≡ true → is_theirs same b o t ≡ false
  not_alone b o t both = go (differ same b o) (differ same b t) (differ same o t) both
    where
      go : (x y z : Bool) → (x && y && z) ≡ true → (not x && y) ≡ false
      go true y z h = refl
      go false true z h = absurd (cc)
      go false false z h = refl

  -- a merge leaves a conflict as ours is
  stays : is_conflict_at R same base ours theirs key ≡ true → (mid : List (K × V)) (k : K)
      → find R k mid ≡ (if is_eq (R k key) then merged_at R same base ours theirs k else find R k ours) → find R k mid ≡ find R k ours
  stays both mid k is = is ∙ go (R k key) refl
    where
      go : (c : Ordering) → R k key ≡ c → (if is_eq c then merged_at R same base ours theirs k else find R k ours) ≡ find R k ours
      go Less e = refl
      go Greater e = refl
      go Equal e = ap (λ b. if b then find R k theirs else find R k ours)
          (theirs_alike k e ∙ not_alone (value_of R key base) (value_of R key ours) (value_of R key theirs) both)

  module _ {F E : Type 0} (g : Shared F (Bor K × (Option (Bor V) × (Option (Bor V) × (Option (Bor V) × Unit {0})))) (Result (Option V) E)) (f : F) where
    -- a conflict that is settled
    pub settled_one : is_conflict_at R same base ours theirs key ≡ true → (mid new : List (K × V)) (answer : Option V)
        → ((k : K) → find R k mid ≡ (if is_eq (R k key) then merged_at R same base ours theirs k else find R k ours))
        → IsResolved R g f key (value_of R key base) (value_of R key mid) (value_of R key theirs) answer
        → ((k : K) → MatchBool (is_eq (R k key)) (value_of R k new ≡ answer) (find R k new ≡ find R k mid))
        → (k : K) → MatchBool (is_eq (R k key)) (IsMergedAt R same g f base ours theirs k (find R k new)) (find R k new ≡ find R k ours)
    settled_one both mid new answer merge r settle k = go (R k key) refl (settle k)
      where
        values : (es fs : List (K × V)) (k : K) → find R key es ≡ find R k fs → value_of R key es ≡ value_of R k fs
        values es fs k is = ap (option_map (λ p. p.1)) is

        go : (c : Ordering) → R k key ≡ c → MatchBool (is_eq c) (value_of R k new ≡ answer) (find R k new ≡ find R k mid)
            → MatchBool (is_eq c) (IsMergedAt R same g f base ours theirs k (find R k new)) (find R k new ≡ find R k ours)
        go Less e is = is ∙ stays both mid k (merge k)
        go Greater e is = is ∙ stays both mid k (merge k)
        go Equal e is =
            let back = tied_back o k key e in
            let at : IsResolved R g f k (value_of R k base) (value_of R k ours) (value_of R k theirs) (value_of R k new) = record {
              key = r.key;
              equal = o.congr k key r.key.now e ∙ r.equal;
              before = r.before;
              our = r.our;
              their = r.their;
              shows = (
                r.shows.0 ∙ values base base k (find_same o key k base back),
                r.shows.1 ∙ values mid ours k (stays both mid key (merge key) ∙ find_same o key k ours back),
                r.shows.2 ∙ values theirs theirs k (find_same o key k theirs back),
              );
              says = subst (λ a. FnReturns g f (r.key, (r.before, (r.our, (r.their, tt)))) (Ok a)) (sym is) r.says;
            } in
            subst (λ b. MatchBool b (IsResolved R g f k (value_of R k base) (value_of R k ours) (value_of R k theirs) (value_of R k new))
            (find R k new ≡ merged_at R same base ours theirs k)) (sym (both_alike k e ∙ both)) at

    -- what a call of `resolve` answered
    pub resolved : (k : Bor K) (before our their : Option (Bor V)) (b o' t said answer : Option V) → option_copied before ≡ b → option_copied our ≡ o'
        → option_copied their ≡ t → g.post f (k, (before, (our, (their, tt)))) (Ok said) → said ≡ answer → IsResolved R g f k.now b o' t answer
    resolved k before our their b o' t said answer is_b is_o is_t met is = record {
      key = k;
      equal = tied_itself o k.now;
      before = before;
      our = our;
      their = their;
      shows = (is_b, is_o, is_t);
      says = record { met = subst (λ a. g.post f (k, (before, (our, (their, tt)))) (Ok a)) is met };
    }

    -- the step of a merge at the first of the keys that are left
    pub merged_step : {W : Type 0} (x : K × W) (rest : List (K × W)) (was new : List (K × V)) (k : K) → IsAscending R (x ∷ rest)
        → MatchBool (is_some (find R k (x ∷ rest))) (find R k was ≡ find R k ours) (IsMergedAt R same g f base ours theirs k (find R k was))
        → MatchBool (is_eq (R k x.0)) (IsMergedAt R same g f base was theirs k (find R k new)) (find R k new ≡ find R k was)
        → MatchBool (is_some (find R k rest)) (find R k new ≡ find R k ours) (IsMergedAt R same g f base ours theirs k (find R k new))
    merged_step x rest was new k up = one_less_of (is_eq (R k x.0)) x (find R k rest) (λ our found.
        MatchBool (is_conflict same (value_of R k base) (option_map (λ p. p.1) our) (value_of R k theirs))
        (IsResolved R g f k (value_of R k base) (option_map (λ p. p.1) our) (value_of R k theirs) (option_map (λ p. p.1) found))
        (found ≡ (if is_theirs same (value_of R k base) (option_map (λ p. p.1) our) (value_of R k theirs) then find R k theirs else our))) (find R k ours)
        (find R k was) (find R k new) (only_once o x rest up k)

    -- values of a merge by what `resolve` answers
    pub valued : (settle : Option V → Option V → Option V → Option V) → SettlesBy g f settle → (k : K) (found : Option (K × V))
        → IsMergedAt R same g f base ours theirs k found
        → option_map (λ p. p.1) found ≡ merged_value same settle (value_of R k base) (value_of R k ours) (value_of R k theirs)
    valued settle settles k found = go (is_conflict_at R same base ours theirs k) refl (is_theirs_at R same base ours theirs k) refl
      where
        b : Option V
        b = value_of R k base

        u : Option V
        u = value_of R k ours

        t : Option V
        t = value_of R k theirs

        go : (c : Bool) → is_conflict same b u t ≡ c → (a : Bool) → is_theirs same b u t ≡ a
            → MatchBool c (IsResolved R g f k b u t (option_map (λ p. p.1) found)) (found ≡ (if a then find R k theirs else find R k ours))
            → option_map (λ p. p.1) found ≡ (if c then settle b u t else (if a then t else u))
        go true both a alone r =
            settles r.key r.before r.our r.their (option_map (λ p. p.1) found) r.says ∙ (λ i. settle (r.shows.0 i) (r.shows.1 i) (r.shows.2 i))
        go false both true alone is = ap (option_map (λ p. p.1)) is
        go false both false alone is = ap (option_map (λ p. p.1)) is
