-- A branch's children while another one goes in.
use Rattle.rpds_hash_trie.proofs.Words.{nat_tests, ◌≡◌, ℕ, suc, ◌+◌, ◌^◌, ◌<◌, ◌≤◌, Bool, true, cond, eqb, inl, inr, List, [], ◌∷◌, ◌++◌, Some, None, is_some}
use Rattle.rpds_hash_trie.proofs.Words.{length, refl, sym, ap, ◌∙◌, subst, arith, Rc, eqb_tells, length-append, IsEquivalence, AllByRecursion, item_at, put_at}
use Rattle.rpds_hash_trie.proofs.Words.{seen, agree, digit, Stored, Trie, flat, AllChildren, IsChildAt, IsSound, IsBranch, AllDigit, AllAgree, matches, found}
use Rattle.rpds_hash_trie.proofs.Words.{unmatched, branch_of, items_of, behind, flatten}
use Rattle.std.specs.Option.{option_or}
use Rattle.rpds_hash_trie.specs.HashUnion.{AllOnce, AreSameLeaves, FindsEither, CanUnite, IsUnited}
use Rattle.rpds_hash_trie.proofs.Flat.{deeper, without_append, none_in, without_same, agree_append, IsToldEqual}
use Rattle.rpds_hash_trie.proofs.Children.{under, found_under, once_under, agree_under, digit_under, child_at, put_children}
use Rattle.rpds_hash_trie.proofs.NodeValueMut.{put_same}
use Rattle.rpds_hash_trie.proofs.OpenNodes.{IsOpenBranch}
use Rattle.rpds_hash_trie.proofs.United.{or_none, or_assoc, found_append, each_either, stays_united}

-- the item at a place, once one was put in
item_put : {X : Type 0} (j p : ℕ) (x : X) (cs : List (ℕ × X)) → item_at j (put_at p x cs) ≡ cond (eqb j p) (Some x) (item_at j cs)
item_put j p x [] = refl
item_put j p x (c ∷ cs) = grind (arith, nat_tests, item_put j p x cs)

module _ {K V : Type 0} where
  nothing_below : (bits d p low : ℕ) (cs : List (ℕ × Trie K V)) → AllChildren bits d low cs → p < low → item_at p cs ≡ None
  nothing_below bits d p low [] a lt = refl
  nothing_below bits d p low (x ∷ xs) a lt =
      let le : low ≤ x.0 = a.0 in
      let up : p < suc x.0 = omega arith in
      grind (arith, nat_tests, nothing_below bits d p (suc x.0) xs a.1.1 up)

  -- as many entries come as the child at the place has more
  put_length : (bits d p low : ℕ) (v : Trie K V) (cs : List (ℕ × Trie K V)) → AllChildren bits d low cs
      → length (flat (put_at p v cs)) + length (under (item_at p cs)) ≡ length (flat cs) + length v.entries
  put_length bits d p low v [] a = omega (arith, length-append v.entries [])
  put_length bits d p low v (c ∷ cs) a = grind (
    arith,
    nat_tests,
    put_length bits d p (suc c.0) v cs a.1.1,
    length-append v.entries
        (c.1.entries ++ flat cs),
    length-append v.entries (flat cs),
    length-append c.1.entries (flat cs),
    length-append c.1.entries (flat (put_at p v cs)),
    nothing_below bits d p (suc c.0) cs a.1.1,
  )

  -- entries that agree with a hash agree with one that agrees with it
  pub agree_with : (bits d g h : ℕ) (xs : List (Stored K V)) → AllAgree bits d g xs → agree (2 ^ bits) d h g → AllAgree bits d h xs
  agree_with bits d g h [] all same = tt
  agree_with bits d g h (x ∷ xs) all same = (all.0 ∙ sym same, agree_with bits d g h xs all.1 same)

  pub once_append : (eq : K → K → Bool) (xs ys : List (Stored K V)) → AllOnce eq (xs ++ ys) → AllOnce eq xs × AllOnce eq ys
  once_append eq xs ys once = (λ k h. front k h, λ k h. back k h)
    where
      fewer : (k : K) (h : ℕ) (zs : List (Stored K V)) → length (unmatched (matches eq k h) zs) ≤ length zs
      fewer k h [] = omega arith
      fewer k h (z ∷ zs) = grind (arith, fewer k h zs)

      all : (k : K) (h : ℕ) → length xs + length ys ≤ (length (unmatched (matches eq k h) xs) + length (unmatched (matches eq k h) ys)) + 1
      all k h =
          let t = matches {V = V} eq k h in
          let one : length (xs ++ ys) ≤ length (unmatched t (xs ++ ys)) + 1 = once k h in
          omega (arith, one, length-append xs ys, ap length (without_append t xs ys), length-append (unmatched t xs) (unmatched t ys))

      front : (k : K) (h : ℕ) → length xs ≤ length (unmatched (matches eq k h) xs) + 1
      front k h = omega (arith, all k h, fewer k h ys)

      back : (k : K) (h : ℕ) → length ys ≤ length (unmatched (matches eq k h) ys) + 1
      back k h = omega (arith, all k h, fewer k h xs)

-- one child put in at a place: v has what was below it, and the entries xs
module _ {K V : Type 0} {eq : K → K → Bool} (law : IsEquivalence eq) (bits d p : ℕ) (cs : List (ℕ × Trie K V)) (v : Trie K V) (xs : List (Stored K V))
    (kids : AllChildren bits d 0 cs) (new : AllChildren bits d 0 (put_at p v cs)) (digits : AllDigit bits d p xs) where
  put_finds : FindsEither eq (under (item_at p cs)) xs v.entries → FindsEither eq (flat cs) xs (flat (put_at p v cs))
  put_finds finds k h =
      let q : ℕ = digit (2 ^ bits) d h in
      let f = λ (l : List (Stored K V)). found (matches eq k h) l in
      found_under eq k h bits d q refl 0 (put_at p v cs) new ∙ ap (λ o. f (under o)) (item_put q p v cs) ∙ go (eqb_tells q p)
      ∙ ap (λ o. option_or o (f xs)) (sym (found_under eq k h bits d q refl 0 cs kids))
    where
      go : IsToldEqual (digit (2 ^ bits) d h) p
          → found (matches eq k h) (under (cond (eqb (digit (2 ^ bits) d h) p) (Some v) (item_at (digit (2 ^ bits) d h) cs)))
          ≡ option_or (found (matches eq k h) (under (item_at (digit (2 ^ bits) d h) cs))) (found (matches eq k h) xs)
      go (inl s) = rw s.0 (finds k h ∙ ap (λ n. option_or (found (matches eq k h) (under (item_at n cs))) (found (matches eq k h) xs)) (sym s.1))
      go (inr s) = rw (s.0, none_in eq k h bits d p xs digits s.1) (sym (or_none law (found (matches eq k h) (under (item_at (digit (2 ^ bits) d h) cs)))))

  put_once : AllOnce eq (flat cs) → AllOnce eq v.entries → AllOnce eq (flat (put_at p v cs))
  put_once once once_v k h =
      let q : ℕ = digit (2 ^ bits) d h in
      let t = matches {V = V} eq k h in
      let after = once_under eq k h bits d q refl 0 (put_at p v cs) new in
      let before = once_under eq k h bits d q refl 0 cs kids in
      let one : length (flat cs) ≤ length (unmatched t (flat cs)) + 1 = once k h in
      let mine : length v.entries ≤ length (unmatched t v.entries) + 1 = once_v k h in
      let here = ap (λ o. length (under o)) (item_put q p v cs) in
      let less = ap (λ o. length (unmatched t (under o))) (item_put q p v cs) in
      grind (arith, here, less, after, before, one, mine)

-- the children `now` have what `cs` had, and what was put in of `all`; `rest` is still to be put in
pub record IsUniting {K V : Type 0} (eq : K → K → Bool) (bits d root : ℕ) (cs : List (ℕ × Trie K V)) (all : List (Stored K V)) (now : List (ℕ × Trie K V))
    (rest : List (Trie K V)) (old common : ℕ) : Type 0 where
  pub kids : AllChildren bits d 0 now
  pub others : AllByRecursion (λ v. (p : ℕ) × IsChildAt bits d p v) rest
  pub alike : AllAgree bits d root (flat now)
  pub alike_others : AllAgree bits d root (flatten rest)
  pub once : AllOnce eq (flat now)
  pub once_others : AllOnce eq (flatten rest)
  pub finds : (k : K) → (h : ℕ) → option_or (found (matches eq k h) (flat now)) (found (matches eq k h) (flatten rest))
      ≡ option_or (found (matches eq k h) (flat cs)) (found (matches eq k h) all)
  pub sum : common + (length (flat now) + length (flatten rest)) ≡ old + (length (flat cs) + length all)
  pub most : common + length (flatten rest) ≤ old + length all

-- the child that comes next, and the entry f that it has first
module _ {K V : Type 0} {eq : K → K → Bool} (law : IsEquivalence eq) {bits d root : ℕ} {cs : List (ℕ × Trie K V)} {all : List (Stored K V)}
    {now : List (ℕ × Trie K V)} {e : Trie K V} {rest : List (Trie K V)} {old common : ℕ} (u : IsUniting eq bits d root cs all now (e ∷ rest) old common)
    (f : Stored K V) (fs : List (Stored K V)) (first : e.entries ≡ f ∷ fs) where
  abbrev pub p : ℕ
  p = digit (2 ^ bits) d f.0

  child : IsChildAt bits d p e
  child =
      let c = u.others.0 in
      let same : p ≡ c.0 = (subst (AllDigit bits d c.0) first c.1.digits).0 in
      subst (λ n. IsChildAt bits d n e) (sym same) c.1

  others : AllAgree bits d root e.entries × AllAgree bits d root (flatten rest)
  others = agree_append bits d root e.entries (flatten rest) u.alike_others

  shares : agree (2 ^ bits) d f.0 root
  shares = (subst (AllAgree bits d root) first others.0).0

  pub once_both : AllOnce eq e.entries × AllOnce eq (flatten rest)
  once_both = once_append eq e.entries (flatten rest) u.once_others

  -- what is below the place, and the child, are alike one digit further
  pub alike_child : AllAgree bits (suc d) f.0 e.entries
  alike_child = deeper bits d f.0 p e.entries (agree_with bits d root f.0 e.entries others.0 shares) child.digits refl

  pub alike_under : AllAgree bits (suc d) f.0 (under (item_at p now))
  alike_under = agree_under eq f.1.0 f.0 bits d p refl 0 now u.kids (agree_with bits d root f.0 (flat now) u.alike shares)

  pub once_below : AllOnce eq (under (item_at p now))
  once_below k h =
      let q : ℕ = digit (2 ^ bits) d h in
      let t = matches {V = V} eq k h in
      let one : length (flat now) ≤ length (unmatched t (flat now)) + 1 = u.once k h in
      let below = once_under eq k h bits d q refl 0 now u.kids in
      go (eqb_tells q p) one below
    where
      go : IsToldEqual (digit (2 ^ bits) d h) p → length (flat now) ≤ length (unmatched (matches eq k h) (flat now)) + 1
          → length (flat now) + length (unmatched (matches eq k h) (under (item_at (digit (2 ^ bits) d h) now)))
          ≡ length (unmatched (matches eq k h) (flat now)) + length (under (item_at (digit (2 ^ bits) d h) now))
          → length (under (item_at p now)) ≤ length (unmatched (matches eq k h) (under (item_at p now))) + 1
      go (inl s) one below =
          let here : length (under (item_at (digit (2 ^ bits) d h) now)) ≤ length (unmatched (matches eq k h) (under (item_at (digit (2 ^ bits) d h) now)))
          + 1 = omega arith in
          subst (λ n. length (under (item_at n now)) ≤ length (unmatched (matches eq k h) (under (item_at n now))) + 1) s.1 here
      go (inr s) one below =
          let same : unmatched (matches eq k h) (under (item_at p now)) ≡ under (item_at p now) = without_same eq k h bits d p (under (item_at p now))
          (digit_under eq f.1.0 f.0 bits d p refl 0 now u.kids) s.1 in
          omega (arith, ap length same)

  -- the next child is in, as v; `more` keys are in both
  pub uniting_next : (v : Trie K V) (common' : ℕ) → IsChildAt bits d p v → FindsEither eq (under (item_at p now)) e.entries v.entries → AllOnce eq v.entries
      → common' + length v.entries ≡ common + (length (under (item_at p now)) + length e.entries) → common' ≤ common + length e.entries
      → IsUniting eq bits d root cs all (put_at p v now) rest old common'
  uniting_next v common' at finds once sum most =
      let low : 0 ≤ p = omega arith in
      let new : AllChildren bits d 0 (put_at p v now) = put_children eq f.1.0 f.0 bits d p refl v 0 now u.kids low at in
      let all_finds = put_finds law bits d p now v e.entries u.kids new child.digits finds in
      let before = u.sum in
      let few = u.most in
      record {
        kids = new;
        others = u.others.1;
        alike = each_either law (λ n. agree (2 ^ bits) d n root) (flat now) e.entries (flat (put_at p v now)) all_finds u.alike others.0;
        alike_others = others.1;
        once = put_once law bits d p now v e.entries u.kids new child.digits u.once once;
        once_others = once_both.1;
        finds = (λ k h.
            let g = λ (l : List (Stored K V)). found (matches eq k h) l in
            ap (λ o. option_or o (g (flatten rest))) (all_finds k h) ∙ or_assoc (g (flat now)) (g e.entries) (g (flatten rest))
            ∙ ap (option_or (g (flat now))) (sym (found_append (matches eq k h) e.entries (flatten rest))) ∙ u.finds k h);
        sum = omega (arith, before, sum, put_length bits d p 0 v now u.kids, length-append e.entries (flatten rest));
        most = omega (arith, few, most, length-append e.entries (flatten rest));
      }

  -- no child is at its place
  pub new_child : item_at p now ≡ None → IsUniting eq bits d root cs all (put_at p e now) rest old common
  new_child none =
      uniting_next e common child (subst (λ o. FindsEither eq (under o) e.entries e.entries) (sym none) (λ k h. refl)) once_both.0
      (subst (λ o. common + length e.entries ≡ common + (length (under o) + length e.entries)) (sym none) (omega arith)) (omega arith)

  module _ (c : Trie K V) (there : item_at p now ≡ Some c) where
    pub held : IsChildAt bits d p c
    held = child_at eq f.1.0 f.0 bits d p refl 0 now c u.kids there

    -- both go into one
    pub can_child : old + length all < 2 ^ 64 → CanUnite eq c e.entries common
    can_child room =
        let few = u.most in
        record {
          with_root = f.0;
          alike = rw (held.same_bits, held.lower) (subst (λ o. AllAgree bits (suc d) f.0 (under o)) there alike_under);
          alike_others = rw (held.same_bits, held.lower) alike_child;
          once = subst (λ o. AllOnce eq (under o)) there once_below;
          once_others = once_both.0;
          room = omega (arith, few, room, length-append e.entries (flatten rest));
        }

    pub same_place : (e.bits ≡ c.bits) × (e.depth ≡ c.depth)
    same_place = (child.same_bits ∙ sym held.same_bits, child.lower ∙ sym held.lower)

    module _ (w : Trie K V) (common' : ℕ) (is : IsUnited eq c e.entries w common common') (sound : IsSound w) where
      pub both_children : IsUniting eq bits d root cs all (put_at p w now) rest old common'
      both_children =
          let at : IsChildAt bits d p w = record {
            same_bits = is.bits ∙ held.same_bits;
            lower = is.depth ∙ held.lower;
            digits = each_either law (λ n. digit (2 ^ bits) d n ≡ p) c.entries e.entries w.entries is.found_in held.digits child.digits;
            sound = sound;
          } in
          uniting_next w common' at (subst (λ o. FindsEither eq (under o) e.entries w.entries) (sym there) is.found_in) is.once
          (subst (λ o. common' + length w.entries ≡ common + (length (under o) + length e.entries)) (sym there) is.sum) is.most

    -- nothing is new
    pub same_children : (common' : ℕ) → IsUnited eq c e.entries c common common' → IsUniting eq bits d root cs all now rest old common'
    same_children common' is =
        subst (λ l. IsUniting eq bits d root cs all l rest old common') (put_same eq f.1.0 f.0 bits d p refl 0 now c u.kids there)
        (both_children c common' is held.sound)

    pub same_leaf : AreSameLeaves eq c.entries e.entries → IsUnited eq c e.entries c common (common + 1)
    same_leaf s =
        subst (λ l. IsUnited eq c l c common (common + 1)) (sym s.theirs_is) (stays_united law c s.theirs common
        (subst (λ o. AllOnce eq (under o)) there once_below) (subst (λ l. is_some (found (matches eq s.theirs.1.0 s.theirs.0) l) ≡ true) (sym s.mine_is)
        (ap (λ b. is_some (cond b (Some s.mine) None)) s.same)))

module _ {K V A : Type 0} where
  row_entries : (rcs : List (ℕ × Rc (Trie K V) A)) → flatten (behind (items_of rcs)) ≡ flat (seen rcs)
  row_entries [] = refl
  row_entries (c ∷ cs) = ap (λ l. c.1.value.entries ++ l) (row_entries cs)

  row_children : (bits d low : ℕ) (rcs : List (ℕ × Rc (Trie K V) A)) → AllChildren bits d low (seen rcs)
      → AllByRecursion (λ v. (p : ℕ) × IsChildAt bits d p v) (behind (items_of rcs))
  row_children bits d low [] kids = tt
  row_children bits d low (c ∷ cs) kids = ((c.0, kids.1.0), row_children bits d (suc c.0) cs kids.1.1)

  -- nothing is put in yet
  pub uniting_none : {eq : K → K → Bool} (bits d bits' d' n : ℕ) (v w : Trie K V) (mine theirs : List (ℕ × Rc (Trie K V) A)) (row : List (Rc (Trie K V) A))
      → IsOpenBranch v bits d (seen mine) → IsOpenBranch w bits' d' (seen theirs) → w.bits ≡ v.bits → w.depth ≡ v.depth → (can : CanUnite eq v w.entries n)
      → row ≡ items_of theirs
      → IsUniting eq bits d can.with_root (seen mine) w.entries (seen mine) (behind row) n n
  uniting_none {eq} bits d bits' d' n v w mine theirs row o q same_bits same_depth can is =
      let vb : v.bits ≡ bits = ap (λ (t : Trie K V). t.bits) o.is in
      let vd : v.depth ≡ d = ap (λ (t : Trie K V). t.depth) o.is in
      let ve : v.entries ≡ flat (seen mine) = ap (λ (t : Trie K V). t.entries) o.is in
      let b : bits' ≡ bits = sym (ap (λ (t : Trie K V). t.bits) q.is) ∙ same_bits ∙ vb in
      let e : d' ≡ d = sym (ap (λ (t : Trie K V). t.depth) q.is) ∙ same_depth ∙ vd in
      let all : flatten (behind row) ≡ w.entries = ap (λ l. flatten (behind l)) is ∙ row_entries theirs ∙ sym (ap (λ (t : Trie K V). t.entries) q.is) in
      let kids : AllChildren bits d 0 (seen theirs) = subst (λ m. AllChildren bits m 0 (seen theirs)) e
      (subst (λ m. AllChildren m d' 0 (seen theirs)) b q.sound.children) in
      let room = can.room in
      record {
        kids = o.sound.children;
        others = subst (λ l. AllByRecursion (λ v. (p : ℕ) × IsChildAt bits d p v) (behind l)) (sym is) (row_children bits d 0 theirs kids);
        alike = subst (AllAgree bits d can.with_root) ve (subst (λ m. AllAgree bits m can.with_root v.entries) vd
            (subst (λ m. AllAgree m v.depth can.with_root v.entries) vb can.alike));
        alike_others = subst (AllAgree bits d can.with_root) (sym all) (subst (λ m. AllAgree bits m can.with_root w.entries) vd
            (subst (λ m. AllAgree m v.depth can.with_root w.entries) vb can.alike_others));
        once = subst (AllOnce eq) ve can.once;
        once_others = subst (AllOnce eq) (sym all) can.once_others;
        finds = (λ k h. ap (λ l. option_or (found (matches eq k h) (flat (seen mine))) (found (matches eq k h) l)) all);
        sum = omega (arith, ap length all);
        most = omega (arith, ap length all);
      }

-- all is put in
module _ {K V : Type 0} {eq : K → K → Bool} (law : IsEquivalence eq) (bits d root n m : ℕ) (v : Trie K V) (all : List (Stored K V))
    (cs now : List (ℕ × Trie K V)) (o : IsOpenBranch v bits d cs) (u : IsUniting eq bits d root cs all now [] n m) where
  pub united_branch : IsUnited eq v all (branch_of bits d now) n m
  united_branch =
      let sum = u.sum in
      let most = u.most in
      rw o.is (record {
        bits = refl;
        depth = refl;
        found_in = (λ k h. sym (or_none law (found (matches eq k h) (flat now))) ∙ u.finds k h);
        once = u.once;
        sum = omega arith;
        most = omega arith;
      })

  pub branch_united : IsBranch bits d now
  branch_united =
      let sum = u.sum in
      let most = u.most in
      let several = o.sound.several in
      record { bits_in = o.sound.bits_in; left = o.sound.left; several = omega arith; children = u.kids; alike = record { with_root = root; all = u.alike } }
