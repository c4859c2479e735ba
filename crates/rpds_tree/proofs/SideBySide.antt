-- Two walks over ascending members, side by side: what was passed decides nothing about what is left.
use Rattle.std.proofs.Common.{filter}
use Rattle.std.proofs.lemmas.Bool.{and_parts}
use Rattle.std.proofs.lemmas.List.Kept.{IsStrictlySortedBy-filter}
use Rattle.rpds_tree.proofs.Words.{◌≡◌, ◌≢◌, ◌<◌, ◌≤◌, Bool, true, false, cond, ◌&&◌, Option, Some, None, List, [], ◌∷◌, IsSome, is_some, is_none, length}
use Rattle.rpds_tree.proofs.Words.{refl, sym, ap, ◌∙◌, arith, tied_back, Ordering, Less, Equal, Greater, Bor, IsTotalOrder, AllByRecursion}
use Rattle.rpds_tree.proofs.Words.{IsStrictlySortedBy, TakesFirst, deref, is_eq, is_lt, is_gt, ordering_reverse, find_member, without_member, is_subset}
use Rattle.rpds_tree.proofs.Words.{is_disjoint}
use Rattle.rpds_tree.proofs.MemberLaws.{apart_disjoint, disjoint_of_members, find_without_other_member, length_without_member, sorted_without_member}

-- an item that an iterator gave, and what it has left
abbrev pub pending : {T : Type 0} → Option (Bor T) → List T → List T
pending None ms = []
pending (Some m) ms = m.now ∷ ms

pub took : {T : Type 0} (old : List T) (next : Option (Bor T)) (new : List T) → TakesFirst deref old next new → old ≡ pending next new
took old None new t = t.0
took old (Some m) new t = t

as_true : (a b : Bool) → (a ≡ true → b ≡ true) → (b ≡ true → a ≡ true) → a ≡ b
as_true true b there back = sym (there refl)
as_true false true there back = back refl
as_true false false there back = refl

module _ {T : Type 0} {R : T → T → Ordering} (o : IsTotalOrder R) where
  over : (a b : T) → R a b ≡ Less → R b a ≡ Greater
  over a b less = o.antisymm b a ∙ ap ordering_reverse less

  under : (a b : T) → R a b ≡ Greater → R b a ≡ Less
  under a b greater = o.antisymm b a ∙ ap ordering_reverse greater

  -- a value below all members isn't one of them
  none_below : (x : T) (ms : List T) → AllByRecursion (λ m. R x m ≡ Less) ms → find_member R x ms ≡ None
  none_below x [] below = refl
  none_below x (m ∷ ms) below = rw below.0 (none_below x ms below.1)

  through : (x m : T) (ms : List T) → R x m ≡ Less → AllByRecursion (λ y. R m y ≡ Less) ms → AllByRecursion (λ y. R x y ≡ Less) ms
  through x m [] less below = tt
  through x m (y ∷ ms) less below = (o.trans x m y less below.0, through x m ms less below.1)

  tied : (x m : T) (ms : List T) → R x m ≡ Equal → AllByRecursion (λ y. R m y ≡ Less) ms → AllByRecursion (λ y. R x y ≡ Less) ms
  tied x m [] same below = tt
  tied x m (y ∷ ms) same below = (o.congr x m y same ∙ below.0, tied x m ms same below.1)

  -- the members above a value
  abbrev above : T → List T → List T
  above v ms = filter (λ m. is_gt (R m v)) ms

  all_above : (v : T) (ms : List T) → AllByRecursion (λ m. R v m ≡ Less) ms → above v ms ≡ ms
  all_above v [] below = refl
  all_above v (m ∷ ms) below = rw (over v m below.0) (ap (λ l. m ∷ l) (all_above v ms below.1))

  find_above : (v x : T) → R v x ≡ Less → (ms : List T) → find_member R x (above v ms) ≡ find_member R x ms
  find_above v x less [] = refl
  find_above v x less (m ∷ ms) = go (find_above v x less ms) (R m v) refl
    where
      go : find_member R x (above v ms) ≡ find_member R x ms → (c : Ordering) → R m v ≡ c
          → find_member R x (cond (is_gt c) (m ∷ above v ms) (above v ms)) ≡ cond (is_eq (R x m)) (Some m) (find_member R x ms)
      go rest Less is = rw (over m x (o.trans m v x is less)) rest
      go rest Equal is = rw (over m x (o.congr m v x is ∙ less)) rest
      go rest Greater is = ap (cond (is_eq (R x m)) (Some m)) rest

  -- a member below the value is passed
  pub record IsPassed (v m : T) (ms : List T) : Type 0 where
    pub found : find_member R v (m ∷ ms) ≡ find_member R v ms
    pub rest : filter (λ m. is_gt (R m v)) (m ∷ ms) ≡ filter (λ m. is_gt (R m v)) ms

  pub passed : (v m : T) (ms : List T) → is_lt (R m v) ≡ true → IsPassed v m ms
  passed v m ms less = go (R m v) refl less
    where
      go : (c : Ordering) → R m v ≡ c → is_lt c ≡ true → IsPassed v m ms
      go Less is less = record { found = rw (over m v is) refl; rest = rw is refl }
      go Equal is less = absurd (cc)
      go Greater is less = absurd (cc)

  -- at the first one that isn't, the search ends
  pub record IsEnd (v m : T) (ms : List T) : Type 0 where
    pub found : is_eq (R m v) ≡ is_some (find_member R v (m ∷ ms))
    pub rest : is_eq (R m v) ≡ true → ms ≡ filter (λ m. is_gt (R m v)) (m ∷ ms)

  pub ends : (v m : T) (ms : List T) → IsStrictlySortedBy R (m ∷ ms) → is_lt (R m v) ≡ false → IsEnd v m ms
  unfolding IsStrictlySortedBy
  ends v m ms up not_less = go (R m v) refl not_less
    where
      go : (c : Ordering) → R m v ≡ c → is_lt c ≡ false → IsEnd v m ms
      go Less is not_less = absurd (cc)
      go Equal is not_less = record {
        found = rw (is, tied_back o m v is) refl;
        rest = λ _. rw is (sym (all_above v ms (tied v m ms (tied_back o m v is) up.0)));
      }
      go Greater is not_less =
          let below = under m v is in
          record {
            found = rw (is, below, none_below v ms (through v m ms below up.0)) refl;
            rest = λ eq. absurd (cc (ap is_eq is));
          }

  subset_above : (v : T) (ms others : List T) → AllByRecursion (λ m. R v m ≡ Less) ms → is_subset R ms (above v others) ≡ is_subset R ms others
  subset_above v [] others below = refl
  subset_above v (m ∷ ms) others below = λ i. is_some (find_above v m below.0 others i) && subset_above v ms others below.1 i

  -- a member that was found leaves the members behind it, here and there
  pub subset_goes_on : (m : T) (ms others rest : List T) → IsStrictlySortedBy R (m ∷ ms) → is_some (find_member R m others) ≡ true
      → rest ≡ filter (λ x. is_gt (R x m)) others → is_subset R (m ∷ ms) others ≡ is_subset R ms rest
  unfolding IsStrictlySortedBy
  subset_goes_on m ms others rest up there is = rw there (sym (subset_above m ms others up.0) ∙ ap (is_subset R ms) (sym is))

  pub sorted_above : (v : T) (ms rest : List T) → IsStrictlySortedBy R ms → rest ≡ filter (λ x. is_gt (R x v)) ms → IsStrictlySortedBy R rest
  sorted_above v ms rest up is = rw is (IsStrictlySortedBy-filter R (λ x. is_gt (R x v)) ms up)

  -- a subset has no more members
  pub subset_length : (ms others : List T) → IsStrictlySortedBy R ms → IsStrictlySortedBy R others → is_subset R ms others ≡ true → length ms ≤ length others
  unfolding IsStrictlySortedBy
  subset_length [] others up ups all = omega arith
  subset_length (m ∷ ms) others up ups all =
      let here = and_parts (is_some (find_member R m others)) (is_subset R ms others) all in
      let rest = subset_length ms (without_member R m others) up.1 (sorted_without_member o m others ups) (without ms up.0 here.1) in
      let one = rw here.0 at (length_without_member o m others ups) in
      omega (arith, rest, one)
    where
      without : (ms : List T) → AllByRecursion (λ x. R m x ≡ Less) ms → is_subset R ms others ≡ true → is_subset R ms (without_member R m others) ≡ true
      without [] below all = refl
      without (x ∷ ms) below all =
          let here = and_parts (is_some (find_member R x others)) (is_subset R ms others) all in
          let other : R m x ≢ Equal = λ e. cc (below.0, e) in
          λ i. (ap is_some (find_without_other_member o m x others other) ∙ here.0) i && without ms below.1 here.1 i

  pub not_subset : (ms others : List T) → IsStrictlySortedBy R ms → IsStrictlySortedBy R others → length others < length ms → false ≡ is_subset R ms others
  not_subset ms others up ups more = go (is_subset R ms others) refl
    where
      go : (b : Bool) → is_subset R ms others ≡ b → false ≡ b
      go true is = absurd (omega (arith, more, subset_length ms others up ups is))
      go false is = refl

  -- the members of two sets may change places
  turn : (ms others : List T) → is_disjoint R ms others ≡ true → is_disjoint R others ms ≡ true
  turn ms others apart = disjoint_of_members o others ms (λ x there. none x (find_member R x ms) refl there)
    where
      none : (x : T) (f : Option T) → find_member R x ms ≡ f → IsSome (find_member R x others) → find_member R x ms ≡ None
      none x None is there = is
      none x (Some m) is there = let gone : find_member R x others ≡ None = apart_disjoint o ms others apart x (ap is_some is) in
          absurd (cc (ap is_some gone, there))

  pub disjoint_turned : (ms others : List T) → is_disjoint R ms others ≡ is_disjoint R others ms
  disjoint_turned ms others = as_true (is_disjoint R ms others) (is_disjoint R others ms) (turn ms others) (turn others ms)

  pub disjoint_from_none : (ms : List T) → is_disjoint R ms [] ≡ true
  disjoint_from_none [] = refl
  disjoint_from_none (m ∷ ms) = disjoint_from_none ms

  drop_other : (b : T) (ms others : List T) → AllByRecursion (λ m. R b m ≡ Less) ms → is_disjoint R ms (b ∷ others) ≡ is_disjoint R ms others
  drop_other b [] others below = refl
  drop_other b (m ∷ ms) others below = rw (over b m below.0) (ap (λ t. is_none (find_member R m others) && t) (drop_other b ms others below.1))

  -- of two members the lesser one is passed
  pub disjoint_lesser : (a b : T) (ms others : List T) → IsStrictlySortedBy R (b ∷ others) → is_lt (R a b) ≡ true
      → is_disjoint R (a ∷ ms) (b ∷ others) ≡ is_disjoint R ms (b ∷ others)
  unfolding IsStrictlySortedBy
  disjoint_lesser a b ms others up less = go (R a b) refl less
    where
      go : (c : Ordering) → R a b ≡ c → is_lt c ≡ true → is_disjoint R (a ∷ ms) (b ∷ others) ≡ is_disjoint R ms (b ∷ others)
      go Less is less = rw (is, none_below a others (through a b others is up.0)) refl
      go Equal is less = absurd (cc)
      go Greater is less = absurd (cc)

  pub disjoint_greater : (a b : T) (ms others : List T) → IsStrictlySortedBy R (a ∷ ms) → is_eq (R a b) ≡ false → is_lt (R a b) ≡ false
      → is_disjoint R (a ∷ ms) (b ∷ others) ≡ is_disjoint R (a ∷ ms) others
  unfolding IsStrictlySortedBy
  disjoint_greater a b ms others up not_equal not_less = go (R a b) refl not_equal not_less
    where
      go : (c : Ordering) → R a b ≡ c → is_eq c ≡ false → is_lt c ≡ false → is_disjoint R (a ∷ ms) (b ∷ others) ≡ is_disjoint R (a ∷ ms) others
      go Less is not_equal not_less = absurd (cc)
      go Equal is not_equal not_less = absurd (cc)
      go Greater is not_equal not_less = let below = under a b is in drop_other b (a ∷ ms) others (below, through b a ms below up.0)

  -- and two equal ones end the walk
  pub not_disjoint : (a b : T) (ms others : List T) → is_eq (R a b) ≡ true → is_disjoint R (a ∷ ms) (b ∷ others) ≡ false
  not_disjoint a b ms others equal = rw equal refl
