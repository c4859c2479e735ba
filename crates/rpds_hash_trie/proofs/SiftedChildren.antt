-- A branch's children while their entries go.
use Rattle.rpds_hash_trie.proofs.Words.{nat_tests, ◌≡◌, ℕ, suc, ◌+◌, ◌≤◌, ◌<◌, ◌^◌, Bool, false, cond, inl, inr, List, [], ◌∷◌, ◌++◌, ◌-◌, ◌/◌, Some, None, length, Option}
use Rattle.rpds_hash_trie.proofs.Words.{refl, sym, ap, ◌∙◌, subst, arith, Rc, eqb_tells, append_assoc, append-nil, length-append, AllByRecursion, item_at}
use Rattle.rpds_hash_trie.proofs.Words.{put_at, seen, agree, digit, Stored, Trie, flat, AllChildren, IsChildAt, IsSound, IsLoose, AllDigit, AllAgree}
use Rattle.rpds_hash_trie.proofs.Words.{unmatched, branch_of, mod-lt}
use Rattle.std.proofs.lemmas.Nat.{pow_pos}
use Rattle.std.specs.Prelude.{IfSome}
use Rattle.rpds_hash_trie.specs.HashSift.{goes, AreCounted, AreKeptOn, AreThese, IsBranchLeft, IsRestOf, IsSifted, IsSoundLeft, PlacesAscend, children_below, kept_or}
use Rattle.rpds_hash_trie.specs.HashTrie.{level_count}
use Rattle.rpds_hash_trie.specs.HashUnion.{AllOnce, CanUnite}
use Rattle.rpds_hash_trie.specs.declared.remove.Removal.{Removal}
use Rattle.rpds_hash_trie.specs.declared.remove.Removal.TheVariants.{Absent, Empty, Left}
use Rattle.rpds_hash_trie.proofs.Flat.{deeper, each_without, ltb_tells, without_append, IsToldEqual, IsToldLess}
use Rattle.rpds_hash_trie.proofs.Children.{under, found_under}
use Rattle.rpds_hash_trie.proofs.NodeRemove.{length_seen, many_children}
use Rattle.rpds_hash_trie.proofs.OpenNodes.{IsOpenBranch}
use Rattle.rpds_hash_trie.proofs.Sifted.{counted_most, counted_on}
use Rattle.rpds_hash_trie.proofs.UnitedChildren.{agree_with, once_append}

module _ {K V : Type 0} where
  -- the places of children
  pub ascend_of : (bits d low : ℕ) (cs : List (ℕ × Trie K V)) → AllChildren bits d low cs → PlacesAscend low cs
  ascend_of bits d low [] a = tt
  ascend_of bits d low (c ∷ cs) a = (a.0, ascend_of bits d (suc c.0) cs a.1.1)

  none_at : (p low : ℕ) (cs : List (ℕ × Trie K V)) → PlacesAscend low cs → p < low → item_at p cs ≡ None
  none_at p low [] a lt = refl
  none_at p low (c ∷ cs) a lt =
      let le : low ≤ c.0 = a.0 in
      let up : p < suc c.0 = omega arith in
      grind (arith, nat_tests, none_at p (suc c.0) cs a.1 up)

  pub none_below : (p low : ℕ) (cs : List (ℕ × Trie K V)) → PlacesAscend low cs → p ≤ low → children_below p cs ≡ []
  none_below p low [] a le = refl
  none_below p low (c ∷ cs) a le = let up : low ≤ c.0 = a.0 in grind (arith, nat_tests, up, le)

  -- those at places below the next one
  pub below_next : (p low : ℕ) (cs : List (ℕ × Trie K V)) (c : Trie K V) → PlacesAscend low cs → item_at p cs ≡ Some c
      → children_below (suc p) cs ≡ put_at p c (children_below p cs)
  below_next p low [] c a is = cc
  below_next p low (q ∷ qs) c a is = go (ltb_tells q.0 p) (eqb_tells p q.0) (below_next p (suc q.0) qs c a.1)
    where
      go : IsToldLess q.0 p → IsToldEqual p q.0 → (item_at p qs ≡ Some c → children_below (suc p) qs ≡ put_at p c (children_below p qs))
          → children_below (suc p) (q ∷ qs) ≡ put_at p c (children_below p (q ∷ qs))
      go (inl l) (inl s) ih = let lt : q.0 < p = l.1 in let same : p ≡ q.0 = s.1 in absurd (omega arith)
      go (inl l) (inr s) ih =
          let next = ih (ap (λ b. cond b (Some q.1) (item_at p qs)) (sym s.0) ∙ is) in
          let lt : q.0 < p = l.1 in
          grind (arith, nat_tests, next, lt)
      go (inr l) (inl s) ih =
          let here : q.1 ≡ c = cc in
          let at : p ≡ q.0 = s.1 in
          let none : children_below (suc p) qs ≡ [] = none_below (suc p) (suc q.0) qs a.1 (omega (arith, at)) in
          let all : children_below (suc p) (q ∷ qs) ≡ q ∷ [] = grind (arith, nat_tests, none, at) in
          let first : children_below p (q ∷ qs) ≡ [] = grind (arith, nat_tests, at) in
          all ∙ (λ i. (sym at i, here i) ∷ []) ∙ ap (put_at p c) (sym first)
      go (inr l) (inr s) ih =
          let le : p ≤ q.0 = l.1 in
          absurd (lacks (item_at p qs) (none_at p (suc q.0) qs a.1 (omega arith)) (ap (λ b. cond b (Some q.1) (item_at p qs)) (sym s.0) ∙ is))
        where
          lacks : (o : Option (Trie K V)) → o ≡ None → o ≡ Some c → ⊥
          lacks o e f = cc

  pub below_skip : (p low : ℕ) (cs : List (ℕ × Trie K V)) → PlacesAscend low cs → item_at p cs ≡ None → children_below (suc p) cs ≡ children_below p cs
  below_skip p low [] a is = refl
  below_skip p low (q ∷ qs) a is = grind (arith, nat_tests, below_skip p (suc q.0) qs a.1)

  -- all, where all have places below
  below_all : (p : ℕ) (cs : List (ℕ × Trie K V)) → AllByRecursion (λ c. c.0 < p) cs → children_below p cs ≡ cs
  below_all p [] a = refl
  below_all p (c ∷ cs) a = grind (arith, nat_tests, below_all p cs a.1, a.0)

  are_below : (p : ℕ) (cs : List (ℕ × Trie K V)) → AllByRecursion (λ c. c.0 < p) (children_below p cs)
  are_below p [] = tt
  are_below p (c ∷ cs) = grind (arith, nat_tests, are_below p cs)

  below_children : (bits d p low : ℕ) (cs : List (ℕ × Trie K V)) → AllChildren bits d low cs → AllChildren bits d low (children_below p cs)
  below_children bits d p low [] a = tt
  below_children bits d p low (c ∷ cs) a = grind (arith, nat_tests, below_children bits d p (suc c.0) cs a.1.1)

  flat_last : (p : ℕ) (v : Trie K V) (ks : List (ℕ × Trie K V)) → AllByRecursion (λ c. c.0 < p) ks → flat (put_at p v ks) ≡ flat ks ++ v.entries
  flat_last p v [] a = append-nil v.entries
  flat_last p v (k ∷ ks) a = grind (arith, nat_tests, flat_last p v ks a.1, a.0, append_assoc k.1.entries (flat ks) v.entries)

  last_below : (p : ℕ) (v : Trie K V) (ks : List (ℕ × Trie K V)) → AllByRecursion (λ c. c.0 < p) ks → AllByRecursion (λ c. c.0 < suc p) (put_at p v ks)
  last_below p v [] a = (omega arith, tt)
  last_below p v (k ∷ ks) a = grind (arith, nat_tests, last_below p v ks a.1, a.0)

  still_below : (p : ℕ) (ks : List (ℕ × Trie K V)) → AllByRecursion (λ c. c.0 < p) ks → AllByRecursion (λ c. c.0 < suc p) ks
  still_below p [] a = tt
  still_below p (k ∷ ks) a = let lt : k.0 < p = a.0 in (omega arith, still_below p ks a.1)

  last_child : (bits d p low : ℕ) (v : Trie K V) (ks : List (ℕ × Trie K V)) → AllChildren bits d low ks → AllByRecursion (λ c. c.0 < p) ks → low ≤ p → IsChildAt bits d p v
      → AllChildren bits d low (put_at p v ks)
  last_child bits d p low v [] a b le at = (le, (at, tt))
  last_child bits d p low v (k ∷ ks) a b le at =
      let lt : k.0 < p = b.0 in
      let up : suc k.0 ≤ p = omega arith in
      grind (arith, nat_tests, last_child bits d p (suc k.0) v ks a.1.1 b.1 up at, lt)

  child_in : (bits d p low : ℕ) (cs : List (ℕ × Trie K V)) (c : Trie K V) → AllChildren bits d low cs → item_at p cs ≡ Some c → IsChildAt bits d p c
  child_in bits d p low [] c a is = cc
  child_in bits d p low (q ∷ qs) c a is = grind (arith, nat_tests, child_in bits d p (suc q.0) qs c a.1.1)

  -- each child has a place below the degree
  places_fit : (bits d low : ℕ) (cs : List (ℕ × Trie K V)) → AllChildren bits d low cs → AllByRecursion (λ c. c.0 < 2 ^ bits) cs
  places_fit bits d low [] a = tt
  places_fit bits d low (c ∷ cs) a = (fits c.1.entries a.1.0.sound.some a.1.0.digits, places_fit bits d (suc c.0) cs a.1.1)
    where
      fits : (xs : List (Stored K V)) → 0 < length xs → AllDigit bits d c.0 xs → c.0 < 2 ^ bits
      fits [] some all = absurd (omega arith)
      fits (x ∷ xs) some all = subst (λ n. n < 2 ^ bits) all.0 (mod-lt (x.0 / (2 ^ bits) ^ d) (pow_pos bits))

  -- what holds of all entries holds of those of a child
  all_append : (P : Stored K V → Type 0) (xs ys : List (Stored K V)) → AllByRecursion P (xs ++ ys) → AllByRecursion P xs × AllByRecursion P ys
  all_append P [] ys a = (tt, a)
  all_append P (x ∷ xs) ys a = let r = all_append P xs ys a.1 in ((a.0, r.0), r.1)

  all_child : (P : Stored K V → Type 0) (p : ℕ) (cs : List (ℕ × Trie K V)) (c : Trie K V) → item_at p cs ≡ Some c → AllByRecursion P (flat cs)
      → AllByRecursion P c.entries
  all_child P p [] c is a = cc
  all_child P p (q ∷ qs) c is a = grind (arith, nat_tests, all_append P q.1.entries (flat qs) a, all_child P p qs c)

  once_child : (eq : K → K → Bool) (p : ℕ) (cs : List (ℕ × Trie K V)) (c : Trie K V) → item_at p cs ≡ Some c → AllOnce eq (flat cs) → AllOnce eq c.entries
  once_child eq p [] c is a = cc
  once_child eq p (q ∷ qs) c is a = go (eqb_tells p q.0) (once_append eq q.1.entries (flat qs) a) (once_child eq p qs c)
    where
      go : IsToldEqual p q.0 → AllOnce eq q.1.entries × AllOnce eq (flat qs) → (item_at p qs ≡ Some c → AllOnce eq (flat qs) → AllOnce eq c.entries)
          → AllOnce eq c.entries
      go (inl s) both ih =
          let same : Some q.1 ≡ Some c = ap (λ b. cond b (Some q.1) (item_at p qs)) (sym s.0) ∙ is in
          let here : q.1 ≡ c = cc in
          subst (λ (w : Trie K V). AllOnce eq w.entries) here both.0
      go (inr s) both ih = ih (ap (λ b. cond b (Some q.1) (item_at p qs)) (sym s.0) ∙ is) both.1

  some_entry : (xs : List (Stored K V)) → 0 < length xs → (f : Stored K V) × (rest : List (Stored K V)) × (xs ≡ f ∷ rest)
  some_entry [] some = absurd (omega arith)
  some_entry (x ∷ xs) some = (x, xs, refl)

  -- the keys of a child's entries are looked for below its place alone
  goes_below : (eq : K → K → Bool) (both : Bool) (bits d p : ℕ) (ts : List (ℕ × Trie K V)) → AllChildren bits d 0 ts → (xs : List (Stored K V)) → AllDigit bits d p xs
      → unmatched (goes eq both (flat ts)) xs ≡ unmatched (goes eq both (under (item_at p ts))) xs
  goes_below eq both bits d p ts kids [] a = refl
  goes_below eq both bits d p ts kids (x ∷ xs) a =
      let here = found_under eq x.1.0 x.0 bits d p a.0 0 ts kids in
      grind (arith, here, goes_below eq both bits d p ts kids xs a.1)

-- the children `now` have what stays of the entries of those below the place
pub record AreKept {K V : Type 0} (t : Stored K V → Bool) (bits d p : ℕ) (cs now : List (ℕ × Trie K V)) : Type 0 where
  pub kids : AllChildren bits d 0 now
  pub below : AllByRecursion (λ c. c.0 < p) now
  pub entries : flat now ≡ unmatched t (flat (children_below p cs))

module _ {K V A : Type 0} where
  -- the same of children that are kept; all stays where none are listed
  abbrev pub IsKeptBelow : (Stored K V → Bool) → ℕ → ℕ → ℕ → List (ℕ × Trie K V) → Option (List (ℕ × Rc (Trie K V) A)) → Type 0
  IsKeptBelow t bits d p cs None = unmatched t (flat (children_below p cs)) ≡ flat (children_below p cs)
  IsKeptBelow t bits d p cs (Some kept) = AreKept t bits d p cs (seen kept)

-- the children below the place p were sifted by the entries ys
pub record IsSifting {K V A : Type 0} (eq : K → K → Bool) (both : Bool) (bits d p : ℕ) (cs : List (ℕ × Trie K V)) (ys : List (Stored K V))
    (kept : Option (List (ℕ × Rc (Trie K V) A))) (old common : ℕ) : Type 0 where
  pub rest : IsKeptBelow (goes eq both ys) bits d p cs kept
  pub counted : AreCounted eq (flat (children_below p cs)) ys old common

module _ {K V A : Type 0} {eq : K → K → Bool} (both : Bool) {bits d : ℕ} (p : ℕ) (cs ts : List (ℕ × Trie K V)) (kids : AllChildren bits d 0 cs)
    (others : AllChildren bits d 0 ts) {kept : Option (List (ℕ × Rc (Trie K V) A))} {old common : ℕ}
    (s : IsSifting eq both bits d p cs (flat ts) kept old common) where
  abbrev t : Stored K V → Bool
  t = goes eq both (flat ts)

  places : PlacesAscend 0 cs
  places = ascend_of bits d 0 cs kids

  -- no child is at the place
  pub sift_skip : item_at p cs ≡ None → IsSifting eq both bits d (suc p) cs (flat ts) kept old common
  sift_skip none =
      let same : children_below p cs ≡ children_below (suc p) cs = sym (below_skip p 0 cs places none) in
      record { rest = skipped kept s.rest same; counted = subst (λ l. AreCounted eq (flat l) (flat ts) old common) same s.counted }
    where
      skipped : (kept : Option (List (ℕ × Rc (Trie K V) A))) → IsKeptBelow t bits d p cs kept → children_below p cs ≡ children_below (suc p) cs
          → IsKeptBelow t bits d (suc p) cs kept
      skipped None r same = subst (λ l. unmatched t (flat l) ≡ flat l) same r
      skipped (Some ks) r same = record {
        kids = r.kids;
        below = still_below p (seen ks) r.below;
        entries = subst (λ l. flat (seen ks) ≡ unmatched t (flat l)) same r.entries;
      }

  -- the child at the place, and what is left of it
  module _ (c : Trie K V) (is : item_at p cs ≡ Some c) (r : Removal K V A) (common' : ℕ)
      (sifted : IsSifted eq both c (under (item_at p ts)) r common common') where
    held : IsChildAt bits d p c
    held = child_in bits d p 0 cs c kids is

    first : List (Stored K V)
    first = flat (children_below p cs)

    next : flat (children_below (suc p) cs) ≡ flat (children_below p cs) ++ c.entries
    next = ap flat (below_next p 0 cs c places is) ∙ flat_last p c (children_below p cs) (are_below p cs)

    stays : unmatched t (flat (children_below (suc p) cs)) ≡ unmatched t (flat (children_below p cs)) ++ unmatched (goes eq both (under (item_at p ts))) c.entries
    stays =
        ap (unmatched t) next ∙ without_append t (flat (children_below p cs)) c.entries
        ∙ ap (λ l. unmatched t (flat (children_below p cs)) ++ l) (goes_below eq both bits d p ts others c.entries held.digits)

    counts : AreCounted eq (flat (children_below (suc p) cs)) (flat ts) old common'
    counts =
        let below : AreCounted eq c.entries (flat ts) common common' = ap (λ l. common' + length l) (goes_below eq false bits d p ts others c.entries held.digits) ∙ sifted.counted in
        subst (λ l. AreCounted eq l (flat ts) old common') (sym next) (counted_on eq (flat ts) (flat (children_below p cs)) c.entries old common common' s.counted below)

    -- the children that are kept so far, as if they were listed
    now : List (ℕ × Trie K V)
    now = kept_or (children_below p cs) kept

    so_far : (kept : Option (List (ℕ × Rc (Trie K V) A))) → IsKeptBelow t bits d p cs kept → AreKept t bits d p cs (kept_or (children_below p cs) kept)
    so_far None all = record { kids = below_children bits d p 0 cs kids; below = are_below p cs; entries = sym all }
    so_far (Some ks) k = k

    dropped : (ks : List (ℕ × Trie K V)) → AreKept t bits d p cs ks → unmatched (goes eq both (under (item_at p ts))) c.entries ≡ [] → AreKept t bits d (suc p) cs ks
    dropped ks k none = record {
      kids = k.kids;
      below = still_below p ks k.below;
      entries = k.entries ∙ sym (append-nil (unmatched t (flat (children_below p cs)))) ∙ ap (λ l. unmatched t (flat (children_below p cs)) ++ l) (sym none) ∙ sym stays;
    }

    put : (v : Trie K V) (ks : List (ℕ × Trie K V)) → AreKept t bits d p cs ks → IsChildAt bits d p v
        → v.entries ≡ unmatched (goes eq both (under (item_at p ts))) c.entries → AreKept t bits d (suc p) cs (put_at p v ks)
    put v ks k at left = record {
      kids = last_child bits d p 0 v ks k.kids k.below (omega arith) at;
      below = last_below p v ks k.below;
      entries = flat_last p v ks k.below ∙ (λ i. k.entries i ++ left i) ∙ sym stays;
    }

    smaller : (n : Trie K V) → n ≡ record c { entries = unmatched (goes eq both (under (item_at p ts))) c.entries } → IsSound n → IsChildAt bits d p n
    smaller n is sound = record {
      same_bits = ap (λ (w : Trie K V). w.bits) is ∙ held.same_bits;
      lower = ap (λ (w : Trie K V). w.depth) is ∙ held.lower;
      digits = subst (λ (w : Trie K V). AllDigit bits d p w.entries) (sym is) (each_without (λ e. digit (2 ^ bits) d e.0 ≡ p) (goes eq both (under (item_at p ts))) c.entries held.digits);
      sound = sound;
    }

    these : (xs : List (ℕ × Trie K V)) (new : Option (List (ℕ × Rc (Trie K V) A))) → AreThese xs new → AreKept t bits d (suc p) cs xs → IsKeptBelow t bits d (suc p) cs new
    these xs None is k = absurd is
    these xs (Some ks) is k = subst (AreKept t bits d (suc p) cs) (sym is) k

    pub sift_next : (new : Option (List (ℕ × Rc (Trie K V) A))) → AreKeptOn p cs c r kept new → IsSoundLeft r
        → IsSifting eq both bits d (suc p) cs (flat ts) new old common'
    sift_next new on sound = record { rest = go r kept (so_far kept s.rest) s.rest on sound sifted.rest; counted = counts }
      where
        go : (r : Removal K V A) (kept : Option (List (ℕ × Rc (Trie K V) A))) → AreKept t bits d p cs (kept_or (children_below p cs) kept)
            → IsKeptBelow t bits d p cs kept → AreKeptOn p cs c r kept new → IsSoundLeft r → IsRestOf (goes eq both (under (item_at p ts))) c r
            → IsKeptBelow t bits d (suc p) cs new
        go Absent None k all on sound left =
            subst (IsKeptBelow t bits d (suc p) cs) (sym on) (stays ∙ (λ i. all i ++ left i) ∙ sym next)
        go Absent (Some ks) k all on sound left = these (put_at p c (seen ks)) new on (put c (seen ks) k held (sym left))
        go Empty kept k all on sound left = these (kept_or (children_below p cs) kept) new on (dropped (kept_or (children_below p cs) kept) k left)
        go (Left n) kept k all on sound left =
            these (put_at p n.value (kept_or (children_below p cs) kept)) new on (put n.value (kept_or (children_below p cs) kept) k (smaller n.value left sound) (ap (λ (w : Trie K V). w.entries) left))

-- both nodes, opened, and a child of each at one place
module _ {K V : Type 0} {eq : K → K → Bool} {bits d n : ℕ} {v w : Trie K V} {cs ts : List (ℕ × Trie K V)} (o : IsOpenBranch v bits d cs) (q : IsOpenBranch w bits d ts)
    (can : CanUnite eq w v.entries n) (p : ℕ) {c e : Trie K V} (mine : item_at p cs ≡ Some c) (theirs : item_at p ts ≡ Some e) where
  own : IsChildAt bits d p c
  own = child_in bits d p 0 cs c o.sound.children mine

  other : IsChildAt bits d p e
  other = child_in bits d p 0 ts e q.sound.children theirs

  in_mine : AllAgree bits d can.with_root c.entries
  in_mine =
      all_child (λ x. agree (2 ^ bits) d x.0 can.with_root) p cs c mine (subst (λ (u : Trie K V). AllAgree bits d can.with_root u.entries) o.is
      (subst (λ m. AllAgree bits m can.with_root v.entries) (ap (λ (u : Trie K V). u.depth) q.is) (subst (λ m. AllAgree m w.depth can.with_root v.entries)
      (ap (λ (u : Trie K V). u.bits) q.is) can.alike_others)))

  in_theirs : AllAgree bits d can.with_root e.entries
  in_theirs =
      all_child (λ x. agree (2 ^ bits) d x.0 can.with_root) p ts e theirs (subst (λ (u : Trie K V). AllAgree u.bits u.depth can.with_root u.entries) q.is can.alike)

  pub child_can : (m : ℕ) → n + length v.entries < 2 ^ 64 → AreCounted eq (flat (children_below p cs)) w.entries n m → CanUnite eq e c.entries m
  child_can m room counted = go (some_entry c.entries own.sound.some)
    where
      go : (f : Stored K V) × (rest : List (Stored K V)) × (c.entries ≡ f ∷ rest) → CanUnite eq e c.entries m
      go (f, rest, is) =
          let shares : agree (2 ^ bits) d f.0 can.with_root = (subst (AllAgree bits d can.with_root) is in_mine).0 in
          let at : digit (2 ^ bits) d f.0 ≡ p = (subst (AllDigit bits d p) is own.digits).0 in
          let few : m ≤ n + length (flat (children_below p cs)) = counted_most eq (flat (children_below p cs)) w.entries n m counted in
          let next : flat (children_below (suc p) cs) ≡ flat (children_below p cs) ++ c.entries =
          ap flat (below_next p 0 cs c (ascend_of bits d 0 cs o.sound.children) mine) ∙ flat_last p c (children_below p cs) (are_below p cs) in
          let most : length (flat (children_below (suc p) cs)) ≤ length (flat cs) = few_below (suc p) cs in
          let all : length v.entries ≡ length (flat cs) = ap (λ (u : Trie K V). length u.entries) o.is in
          record {
            with_root = f.0;
            alike = rw (other.same_bits, other.lower) (deeper bits d f.0 p e.entries (agree_with bits d can.with_root f.0 e.entries in_theirs shares) other.digits at);
            alike_others = rw (other.same_bits, other.lower) (deeper bits d f.0 p c.entries (agree_with bits d can.with_root f.0 c.entries in_mine shares) own.digits at);
            once = once_child eq p ts e theirs (subst (λ (u : Trie K V). AllOnce eq u.entries) q.is can.once);
            once_others = once_child eq p cs c mine (subst (λ (u : Trie K V). AllOnce eq u.entries) o.is can.once_others);
            room = omega (arith, room, few, most, all, ap length next, length-append (flat (children_below p cs)) c.entries);
          }
        where
          few_below : (p : ℕ) (cs : List (ℕ × Trie K V)) → length (flat (children_below p cs)) ≤ length (flat cs)
          few_below p [] = omega arith
          few_below p (k ∷ ks) = grind (arith, nat_tests, few_below p ks, length-append k.1.entries (flat ks), length-append k.1.entries (flat (children_below p ks)))

  pub child_same : (e.bits ≡ c.bits) × (e.depth ≡ c.depth)
  child_same = (other.same_bits ∙ sym own.same_bits, other.lower ∙ sym own.lower)

  pub child_falls : (level_count c.bits - c.depth) + 1 ≤ level_count bits - d
  child_falls = let left = o.sound.left in omega (arith, left, own.lower, ap level_count own.same_bits)

-- branches of one depth
pub same_open : {K V : Type 0} {v w : Trie K V} {bits d bits' d' : ℕ} {cs ts : List (ℕ × Trie K V)} → IsOpenBranch v bits d cs → IsOpenBranch w bits' d' ts → w.bits ≡ v.bits
    → w.depth ≡ v.depth → IsOpenBranch w bits d ts
same_open {K} {V} {v} {w} {bits} {d} {bits'} {d'} {cs} {ts} o q same_bits same_depth =
    let b : bits' ≡ bits = sym (ap (λ (t : Trie K V). t.bits) q.is) ∙ same_bits ∙ ap (λ (t : Trie K V). t.bits) o.is in
    let e : d' ≡ d = sym (ap (λ (t : Trie K V). t.depth) q.is) ∙ same_depth ∙ ap (λ (t : Trie K V). t.depth) o.is in
    subst (λ m. IsOpenBranch w bits m ts) e (subst (λ m. IsOpenBranch w m d' ts) b q)

-- nothing is sifted yet
pub sift_none : {K V A : Type 0} {eq : K → K → Bool} (both : Bool) {bits d : ℕ} {v : Trie K V} {cs : List (ℕ × Trie K V)} → IsOpenBranch v bits d cs
    → (ys : List (Stored K V)) (old : ℕ) → IsSifting {A = A} eq both bits d 0 cs ys None old old
sift_none {K} {V} {A} {eq} both {bits} {d} {v} {cs} o ys old =
    let none = none_below 0 0 cs (ascend_of bits d 0 cs o.sound.children) (omega arith) in
    record {
      rest = subst (λ (l : List (ℕ × Trie K V)). unmatched (goes eq both ys) (flat l) ≡ flat l) (sym none) refl;
      counted = subst (λ (l : List (ℕ × Trie K V)). AreCounted eq (flat l) ys old old) (sym none) refl;
    }

module _ {K V A : Type 0} {eq : K → K → Bool} (both : Bool) {bits d : ℕ} {v : Trie K V} {cs : List (ℕ × Trie K V)} (o : IsOpenBranch v bits d cs) {ys : List (Stored K V)}
    {kept : Option (List (ℕ × Rc (Trie K V) A))} {old common : ℕ} where
  -- all is sifted
  module _ (s : IsSifting eq both bits d (2 ^ bits) cs ys kept old common) where
    whole : children_below (2 ^ bits) cs ≡ cs
    whole = below_all (2 ^ bits) cs (places_fit bits d 0 cs o.sound.children)

    pub branch_left : (r : Removal K V A) → IsBranchLeft bits d kept r → IsSifted eq both v ys r old common
    branch_left r is = rw o.is (record { rest = go kept r s.rest is; counted = subst (λ l. AreCounted eq (flat l) ys old common) whole s.counted })
      where
        go : (kept : Option (List (ℕ × Rc (Trie K V) A))) (r : Removal K V A) → IsKeptBelow (goes eq both ys) bits d (2 ^ bits) cs kept → IsBranchLeft bits d kept r
            → IsRestOf (goes eq both ys) (branch_of bits d cs) r
        go None Absent k is = subst (λ l. unmatched (goes eq both ys) (flat l) ≡ flat l) whole k
        go None Empty k is = cc
        go None (Left n) k is = cc
        go (Some ks) Absent k is = absurd is
        go (Some ks) Empty k is = ap (λ l. unmatched (goes eq both ys) (flat l)) (sym whole) ∙ sym k.entries ∙ is
        go (Some ks) (Left n) k is =
            let left : flat (seen ks) ≡ unmatched (goes eq both ys) (flat cs) = k.entries ∙ ap (λ l. unmatched (goes eq both ys) (flat l)) whole in
            is ∙ (λ i. record { entries = left i; depth = d; bits = bits })

    pub may_be_left : IfSome kept (λ ks. 0 < length ks → IsLoose bits d (seen ks))
    may_be_left = go kept s.rest
      where
        go : (kept : Option (List (ℕ × Rc (Trie K V) A))) → IsKeptBelow (goes eq both ys) bits d (2 ^ bits) cs kept
            → IfSome kept (λ ks. 0 < length ks → IsLoose bits d (seen ks))
        go None k = tt
        go (Some ks) k = λ some.
            let left : flat (seen ks) ≡ unmatched (goes eq both ys) (flat cs) = k.entries ∙ ap (λ l. unmatched (goes eq both ys) (flat l)) whole in
            record {
              bits_in = o.sound.bits_in;
              left = o.sound.left;
              some = omega (arith, some, length_seen ks, many_children bits d 0 (seen ks) k.kids);
              children = k.kids;
              alike = record {
                with_root = o.sound.alike.with_root;
                all = subst (AllAgree bits d o.sound.alike.with_root) (sym left) (each_without (λ e. agree (2 ^ bits) d e.0 o.sound.alike.with_root) (goes eq both ys) (flat cs) o.sound.alike.all);
              };
            }
