-- Steps of a merge of two hashed maps, key by key.
use Rattle.rpds_hash.proofs.Words.{◌≡◌, ◌&&◌, not, Bool, true, false, cond, is_some, List, [], ◌∷◌, Some, None, Result, Ok, refl, sym, ap, subst, ◌∙◌, Option, option_map, IsEquivalence, keys_of, HashedMap, find, without}
use Rattle.std.proofs.Common.{is_none, if◌then◌else◌}
use Rattle.std.specs.Borrow.{Bor}
use Rattle.std.specs.Fn.{FnReturns}
use Rattle.std.specs.List.{IsDistinct}
use Rattle.std.specs.Option.{option_copied}
use Rattle.std.specs.Prelude.{MatchBool}
use Rattle.std.proofs.lemmas.Map.Keys.{IsDistinct-head}
use Rattle.rpds_hash.specs.Altered.{IsGiven}
use Rattle.rpds_hash.specs.HashMerges.{IsMergedAt, IsResolved, SettlesBy, differ, is_conflict, is_conflict_at, is_theirs, merged_at, merged_value, value_of}
use Rattle.rpds_hash_trie.proofs.FromIter.{find_without, find_without_other}
use Rattle.rpds_hash_trie.proofs.KeyLaws.{find_same, find_tied, none_there}
use denote.Param.Members.{Shared}

-- what a key finds once another key was given what it has among others
pub given_found : {K V H : Type 0} {eq : K → K → Bool} (law : IsEquivalence eq) (key : K) (others : List (K × V)) (old new : HashedMap K V H)
    → IsGiven eq eq key (find eq key others) old new → (k : K) → find eq k new.entries ≡ (if eq key k then find eq k others else find eq k old.entries)
given_found {K} {V} {H} {eq} law key others old new given k = go (find eq key others) refl given (eq key k) refl
  where
    go : (o : Option (K × V)) → find eq key others ≡ o → IsGiven eq eq key o old new → (here : Bool) → eq key k ≡ here
        → find eq k new.entries ≡ (if here then find eq k others else find eq k old.entries)
    go (Some p) is given true e =
        let near : eq p.0 k ≡ true = law.congr p.0 key k (find_tied law key others p is) ∙ e in
        given.1 k ∙ ap (λ b. cond b (Some p) (find eq k old.entries)) near ∙ sym is ∙ find_same law key k others e
    go (Some p) is given false e =
        let apart : eq p.0 k ≡ false = law.congr p.0 key k (find_tied law key others p is) ∙ e in
        given.1 k ∙ ap (λ b. cond b (Some p) (find eq k old.entries)) apart
    go None is given true e =
        ap (λ (m : HashedMap K V H). find eq k m.entries) given ∙ sym (find_same law key k (without eq key old.entries) e)
        ∙ find_without eq law key old.entries ∙ sym is ∙ find_same law key k others e
    go None is given false e = ap (λ (m : HashedMap K V H). find eq k m.entries) given ∙ find_without_other eq law k key old.entries e

module _ {K V : Type 0} {eq : K → K → Bool} (law : IsEquivalence eq) where
  -- the first of the keys that are left is among them, and so are the others
  pub first_left : (x : K × V) (rest : List (K × V)) → is_some (find eq x.0 (x ∷ rest)) ≡ true
  first_left x rest = ap (λ b. is_some (cond b (Some x) (find eq x.0 rest))) (law.refl x.0)

  pub others_left : (x : K × V) (rest : List (K × V)) (k : K) → is_some (find eq k rest) ≡ true → is_some (find eq k (x ∷ rest)) ≡ true
  others_left x rest k = go (eq x.0 k)
    where
      go : (here : Bool) → is_some (find eq k rest) ≡ true → is_some (cond here (Some x) (find eq k rest)) ≡ true
      go true there = refl
      go false there = there

-- whether a key is in theirs alone
pub of_both : {X Y : Type 0} (base : Option X) (theirs : Option Y) → (is_none base && is_some theirs) ≡ true → is_some theirs ≡ true
of_both None theirs added = added
of_both (Some p) theirs added = absurd (cc)

pub is_added : {X Y : Type 0} (base : Option X) (theirs : Option Y) → is_some base ≡ false → is_some theirs ≡ true → (is_none base && is_some theirs) ≡ true
is_added None theirs lacks there = there
is_added (Some p) theirs lacks there = absurd (cc)

pub is_stored : {X Y : Type 0} (base : Option X) (theirs : Option Y) → is_some base ≡ true → (is_none base && is_some theirs) ≡ false
is_stored (Some p) theirs has = refl
is_stored None theirs has = absurd (cc)

module _ {V : Type 0} (same : V → V → Bool) (base ours theirs : Option V) where
  -- they didn't change the value
  pub unchanged : differ same base theirs ≡ false → (is_conflict same base ours theirs ≡ false) × (is_theirs same base ours theirs ≡ false)
  unchanged = go (differ same base ours) (differ same base theirs) (differ same ours theirs)
    where
      go : (x y z : Bool) → y ≡ false → ((x && y && z) ≡ false) × ((not x && y) ≡ false)
      go x true z h = absurd (cc)
      go true false z h = (refl, refl)
      go false false z h = (refl, refl)

  -- they alone changed it
  pub changed_alone : differ same base theirs ≡ true → differ same base ours ≡ false
      → (is_conflict same base ours theirs ≡ false) × (is_theirs same base ours theirs ≡ true)
  changed_alone = go (differ same base ours) (differ same base theirs) (differ same ours theirs)
    where
      go : (x y z : Bool) → y ≡ true → x ≡ false → ((x && y && z) ≡ false) × ((not x && y) ≡ true)
      go true y z h l = absurd (cc)
      go false false z h l = absurd (cc)
      go false true z h l = (refl, refl)

  -- both changed it alike
  pub changed_alike : differ same base ours ≡ true → differ same ours theirs ≡ false
      → (is_conflict same base ours theirs ≡ false) × (is_theirs same base ours theirs ≡ false)
  changed_alike = go (differ same base ours) (differ same base theirs) (differ same ours theirs)
    where
      go : (x y z : Bool) → x ≡ true → z ≡ false → ((x && y && z) ≡ false) × ((not x && y) ≡ false)
      go false y z h l = absurd (cc)
      go true y true h l = absurd (cc)
      go true true false h l = (refl, refl)
      go true false false h l = (refl, refl)

  -- both changed it, and not alike
  pub changed_apart : differ same base theirs ≡ true → differ same base ours ≡ true → differ same ours theirs ≡ true → is_conflict same base ours theirs ≡ true
  changed_apart = go (differ same base ours) (differ same base theirs) (differ same ours theirs)
    where
      go : (x y z : Bool) → y ≡ true → x ≡ true → z ≡ true → (x && y && z) ≡ true
      go true true true h l m = refl
      go false y z h l m = absurd (cc)
      go true false z h l m = absurd (cc)
      go true true false h l m = absurd (cc)

module _ {K V : Type 0} (eq : K → K → Bool) (same : V → V → Bool) (base ours theirs : List (K × V)) {F E : Type 0}
    (g : Shared F (Bor K × (Option (Bor V) × (Option (Bor V) × (Option (Bor V) × Unit {0})))) (Result (Option V) E)) (f : F) where
  -- what the key has in a merge, in which ours is this
  abbrev pub MergedTo : K → Option (K × V) → Option (K × V) → Type 0
  MergedTo k our found = MatchBool (is_conflict same (value_of eq k base) (option_map (λ p. p.1) our) (value_of eq k theirs))
      (IsResolved eq g f k (value_of eq k base) (option_map (λ p. p.1) our) (value_of eq k theirs) (option_map (λ p. p.1) found))
      (found ≡ (if is_theirs same (value_of eq k base) (option_map (λ p. p.1) our) (value_of eq k theirs) then find eq k theirs else our))

  -- the same of the keys that pass a test, where those of `rest` are left to go over
  abbrev pub IsMergedSoFar : (K → Bool) → List (K × V) → K → Option (K × V) → Type 0
  IsMergedSoFar test rest k found = MatchBool (test k && is_none (find eq k rest)) (MergedTo k (find eq k ours) found) (found ≡ find eq k ours)

module _ {K V : Type 0} {eq : K → K → Bool} (law : IsEquivalence eq) (same : V → V → Bool) (base ours theirs : List (K × V)) {F E : Type 0}
    (g : Shared F (Bor K × (Option (Bor V) × (Option (Bor V) × (Option (Bor V) × Unit {0})))) (Result (Option V) E)) (f : F) where
  module _ (key : K) where
    at_one : (k : K) → eq key k ≡ true → (es : List (K × V)) → value_of eq key es ≡ value_of eq k es
    at_one k e es = ap (option_map (λ p. p.1)) (find_same law key k es e)

    conflict_alike : (k : K) → eq key k ≡ true → is_conflict_at eq same base ours theirs key ≡ is_conflict_at eq same base ours theirs k
    conflict_alike k e = λ i. is_conflict same (at_one k e base i) (at_one k e ours i) (at_one k e theirs i)

    theirs_alike : (k : K) → eq key k ≡ true → is_theirs same (value_of eq key base) (value_of eq key ours) (value_of eq key theirs)
        ≡ is_theirs same (value_of eq k base) (value_of eq k ours) (value_of eq k theirs)
    theirs_alike k e = λ i. is_theirs same (at_one k e base i) (at_one k e ours i) (at_one k e theirs i)

    -- a key that is no conflict
    settled : is_conflict_at eq same base ours theirs key ≡ false → (new : List (K × V)) → (k : K) → eq key k ≡ true
        → find eq k new ≡ merged_at eq same base ours theirs k → IsMergedAt eq same g f base ours theirs k (find eq k new)
    settled none new k e is = subst
        (λ b. MatchBool b (IsResolved eq g f k (value_of eq k base) (value_of eq k ours) (value_of eq k theirs) (value_of eq k new))
        (find eq k new ≡ merged_at eq same base ours theirs k)) (sym none ∙ conflict_alike k e) is

    -- a key that stays as ours is
    pub kept : is_conflict_at eq same base ours theirs key ≡ false
        → is_theirs same (value_of eq key base) (value_of eq key ours) (value_of eq key theirs) ≡ false → (k : K)
        → MatchBool (eq key k) (IsMergedAt eq same g f base ours theirs k (find eq k ours)) (find eq k ours ≡ find eq k ours)
    kept none not_theirs k = go (eq key k) refl
      where
        go : (here : Bool) → eq key k ≡ here → MatchBool here (IsMergedAt eq same g f base ours theirs k (find eq k ours)) (find eq k ours ≡ find eq k ours)
        go false e = refl
        go true e = settled none ours k e
            (sym (ap (λ b. if b then find eq k theirs else find eq k ours) (sym (theirs_alike k e) ∙ not_theirs)))

    -- one that is taken over from theirs
    pub taken : is_conflict_at eq same base ours theirs key ≡ false
        → is_theirs same (value_of eq key base) (value_of eq key ours) (value_of eq key theirs) ≡ true → (new : List (K × V))
        → ((k : K) → find eq k new ≡ (if eq key k then find eq k theirs else find eq k ours)) → (k : K)
        → MatchBool (eq key k) (IsMergedAt eq same g f base ours theirs k (find eq k new)) (find eq k new ≡ find eq k ours)
    taken none alone new found k = go (eq key k) refl (found k)
      where
        go : (here : Bool) → eq key k ≡ here → find eq k new ≡ (if here then find eq k theirs else find eq k ours)
            → MatchBool here (IsMergedAt eq same g f base ours theirs k (find eq k new)) (find eq k new ≡ find eq k ours)
        go false e is = is
        go true e is = settled none new k e
            (is ∙ sym (ap (λ b. if b then find eq k theirs else find eq k ours) (sym (theirs_alike k e) ∙ alone)))

    -- one that is settled
    pub resolved_at : is_conflict_at eq same base ours theirs key ≡ true → (new : List (K × V)) (answer : Option V)
        → IsResolved eq g f key (value_of eq key base) (value_of eq key ours) (value_of eq key theirs) answer
        → ((k : K) → MatchBool (eq key k) (value_of eq k new ≡ answer) (find eq k new ≡ find eq k ours)) → (k : K)
        → MatchBool (eq key k) (IsMergedAt eq same g f base ours theirs k (find eq k new)) (find eq k new ≡ find eq k ours)
    resolved_at both new answer r settles k = go (eq key k) refl (settles k)
      where
        go : (here : Bool) → eq key k ≡ here → MatchBool here (value_of eq k new ≡ answer) (find eq k new ≡ find eq k ours)
            → MatchBool here (IsMergedAt eq same g f base ours theirs k (find eq k new)) (find eq k new ≡ find eq k ours)
        go false e is = is
        go true e is =
            let at : IsResolved eq g f k (value_of eq k base) (value_of eq k ours) (value_of eq k theirs) (value_of eq k new) = record {
              key = r.key;
              equal = law.congr r.key.now key k r.equal ∙ e;
              before = r.before;
              our = r.our;
              their = r.their;
              shows = (r.shows.0 ∙ at_one k e base, r.shows.1 ∙ at_one k e ours, r.shows.2 ∙ at_one k e theirs);
              says = subst (λ a. FnReturns g f (r.key, (r.before, (r.our, (r.their, tt)))) (Ok a)) (sym is) r.says;
            } in
            subst (λ b. MatchBool b (IsResolved eq g f k (value_of eq k base) (value_of eq k ours) (value_of eq k theirs) (value_of eq k new))
            (find eq k new ≡ merged_at eq same base ours theirs k)) (sym both ∙ conflict_alike k e) at

    -- what all keys find once a key has a value, or has none
    pub settled_in : (v : V) (new : List (K × V)) → ((k : K) → find eq k new ≡ find eq k ((key, v) ∷ ours)) → (k : K)
        → MatchBool (eq key k) (value_of eq k new ≡ Some v) (find eq k new ≡ find eq k ours)
    settled_in v new put k = go (eq key k) (put k)
      where
        go : (here : Bool) → find eq k new ≡ cond here (Some (key, v)) (find eq k ours)
            → MatchBool here (value_of eq k new ≡ Some v) (find eq k new ≡ find eq k ours)
        go true is = ap (option_map (λ p. p.1)) is
        go false is = is

    pub settled_out : (k : K) → MatchBool (eq key k) (value_of eq k (without eq key ours) ≡ None) (find eq k (without eq key ours) ≡ find eq k ours)
    settled_out k = go (eq key k) refl
      where
        go : (here : Bool) → eq key k ≡ here → MatchBool here (value_of eq k (without eq key ours) ≡ None) (find eq k (without eq key ours) ≡ find eq k ours)
        go true e = ap (option_map (λ p. p.1)) (sym (find_same law key k (without eq key ours) e) ∙ find_without eq law key ours)
        go false e = find_without_other eq law k key ours e

    -- what a call of `resolve` answered
    pub resolved : (k : Bor K) (before our their : Option (Bor V)) (b o' t said answer : Option V) → option_copied before ≡ b → option_copied our ≡ o'
        → option_copied their ≡ t → g.post f (k, (before, (our, (their, tt)))) (Ok said) → said ≡ answer → IsResolved eq g f k.now b o' t answer
    resolved k before our their b o' t said answer is_b is_o is_t met is = record {
      key = k;
      equal = law.refl k.now;
      before = before;
      our = our;
      their = their;
      shows = (is_b, is_o, is_t);
      says = record { met = subst (λ a. g.post f (k, (before, (our, (their, tt)))) (Ok a)) is met };
    }

  -- a loop over the keys of a list, which merges those that pass a test
  module _ (test : K → Bool) where
    abbrev Merged : List (K × V) → K → Option (K × V) → Type 0
    Merged rest k found = IsMergedSoFar eq same base ours theirs g f test rest k found

    abbrev To : K → Option (K × V) → Option (K × V) → Type 0
    To k our found = MergedTo eq same base ours theirs g f k our found

    pub merged_start : (all : List (K × V)) → ((k : K) → test k ≡ true → is_some (find eq k all) ≡ true) → (k : K) → Merged all k (find eq k ours)
    merged_start all others k = go (test k) (find eq k all) (others k)
      where
        go : (t : Bool) (o : Option (K × V)) → (t ≡ true → is_some o ≡ true)
            → MatchBool (t && is_none o) (To k (find eq k ours) (find eq k ours)) (find eq k ours ≡ find eq k ours)
        go false o h = refl
        go true (Some p) h = refl
        go true None h = absurd (cc (h refl))

    pub merged_all : (was : List (K × V)) (k : K) → Merged [] k (find eq k was)
        → MatchBool (test k) (IsMergedAt eq same g f base ours theirs k (find eq k was)) (find eq k was ≡ find eq k ours)
    merged_all was k = go (test k)
      where
        go : (t : Bool) → MatchBool (t && true) (To k (find eq k ours) (find eq k was)) (find eq k was ≡ find eq k ours)
            → MatchBool t (To k (find eq k ours) (find eq k was)) (find eq k was ≡ find eq k ours)
        go true h = h
        go false h = h

    module _ (alike : (j k : K) → eq j k ≡ true → test j ≡ test k) (x : K × V) (rest was : List (K × V)) (k : K) where
      -- the first of the keys that are left, where it is merged
      pub merged_step : (new : List (K × V)) → IsDistinct eq (keys_of (x ∷ rest)) → test x.0 ≡ true → Merged (x ∷ rest) k (find eq k was)
          → MatchBool (eq x.0 k) (IsMergedAt eq same g f base was theirs k (find eq k new)) (find eq k new ≡ find eq k was)
          → Merged rest k (find eq k new)
      merged_step new distinct passes = go (eq x.0 k) refl (find eq k rest)
          (λ here. none_there law x.0 k rest here (IsDistinct-head eq x.0 (keys_of rest) distinct)) (test k) (λ here. sym (alike x.0 k here) ∙ passes)
        where
          go : (here : Bool) → eq x.0 k ≡ here → (left : Option (K × V)) → (here ≡ true → left ≡ None) → (t : Bool) → (here ≡ true → t ≡ true)
              → MatchBool (t && is_none (cond here (Some x) left)) (To k (find eq k ours) (find eq k was)) (find eq k was ≡ find eq k ours)
              → MatchBool here (To k (find eq k was) (find eq k new)) (find eq k new ≡ find eq k was)
              → MatchBool (t && is_none left) (To k (find eq k ours) (find eq k new)) (find eq k new ≡ find eq k ours)
          go true e None once true passes before step = subst (λ our. To k our (find eq k new)) before step
          go true e (Some y) once t passes before step = absurd (cc (once refl))
          go true e None once false passes before step = absurd (cc (passes refl))
          go false e None once true passes before step = subst (To k (find eq k ours)) (sym step) before
          go false e (Some y) once true passes before step = step ∙ before
          go false e left once false passes before step = step ∙ before

      -- and where it doesn't pass
      pub merged_skip : test x.0 ≡ false → Merged (x ∷ rest) k (find eq k was) → Merged rest k (find eq k was)
      merged_skip fails = go (eq x.0 k) (find eq k rest) (test k) (λ here. sym (alike x.0 k here) ∙ fails)
        where
          go : (here : Bool) (left : Option (K × V)) (t : Bool) → (here ≡ true → t ≡ false)
              → MatchBool (t && is_none (cond here (Some x) left)) (To k (find eq k ours) (find eq k was)) (find eq k was ≡ find eq k ours)
              → MatchBool (t && is_none left) (To k (find eq k ours) (find eq k was)) (find eq k was ≡ find eq k ours)
          go true left true fails before = absurd (cc (fails refl))
          go true left false fails before = before
          go false left t fails before = before

  -- the keys that were there before, and then those that they added
  pub merged_both : (mid new : List (K × V)) (k : K)
      → MatchBool (is_some (find eq k base)) (IsMergedAt eq same g f base ours theirs k (find eq k mid)) (find eq k mid ≡ find eq k ours)
      → MatchBool (is_none (find eq k base) && is_some (find eq k theirs)) (IsMergedAt eq same g f base mid theirs k (find eq k new))
      (find eq k new ≡ find eq k mid) → IsMergedAt eq same g f base ours theirs k (find eq k new)
  merged_both mid new k = go (find eq k base) (find eq k theirs) (find eq k ours)
    where
      To : Option (K × V) → Option (K × V) → Option (K × V) → Option (K × V) → Type 0
      To b t our found = MatchBool (is_conflict same (option_map (λ p. p.1) b) (option_map (λ p. p.1) our) (option_map (λ p. p.1) t))
          (IsResolved eq g f k (option_map (λ p. p.1) b) (option_map (λ p. p.1) our) (option_map (λ p. p.1) t) (option_map (λ p. p.1) found))
          (found ≡ (if is_theirs same (option_map (λ p. p.1) b) (option_map (λ p. p.1) our) (option_map (λ p. p.1) t) then t else our))

      neither : (our found : Option (K × V)) → found ≡ our → To None None our found
      neither None found is = is
      neither (Some p) found is = is

      go : (b t our : Option (K × V)) → MatchBool (is_some b) (To b t our (find eq k mid)) (find eq k mid ≡ our)
          → MatchBool (is_none b && is_some t) (To b t (find eq k mid) (find eq k new)) (find eq k new ≡ find eq k mid) → To b t our (find eq k new)
      go (Some p) t our stored added = subst (To (Some p) t our) (sym added) stored
      go None (Some q) our stored added = subst (λ our. To None (Some q) our (find eq k new)) stored added
      go None None our stored added = neither our (find eq k new) (added ∙ stored)

  -- values of a merge by what `resolve` answers
  pub valued : (settle : Option V → Option V → Option V → Option V) → SettlesBy g f settle → (k : K) (found : Option (K × V))
      → IsMergedAt eq same g f base ours theirs k found
      → option_map (λ p. p.1) found ≡ merged_value same settle (value_of eq k base) (value_of eq k ours) (value_of eq k theirs)
  valued settle settles k found = go (is_conflict_at eq same base ours theirs k) refl (is_theirs same b u t) refl
    where
      b : Option V
      b = value_of eq k base

      u : Option V
      u = value_of eq k ours

      t : Option V
      t = value_of eq k theirs

      go : (c : Bool) → is_conflict same b u t ≡ c → (a : Bool) → is_theirs same b u t ≡ a
          → MatchBool c (IsResolved eq g f k b u t (option_map (λ p. p.1) found)) (found ≡ (if a then find eq k theirs else find eq k ours))
          → option_map (λ p. p.1) found ≡ (if c then settle b u t else (if a then t else u))
      go true both a alone r =
          settles r.key r.before r.our r.their (option_map (λ p. p.1) found) r.says ∙ (λ i. settle (r.shows.0 i) (r.shows.1 i) (r.shows.2 i))
      go false both true alone is = ap (option_map (λ p. p.1)) is
      go false both false alone is = ap (option_map (λ p. p.1)) is
