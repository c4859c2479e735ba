-- A branch with one child changed or added.
use Rattle.rpds_vector.proofs.Words.{◌≡◌, ℕ, zero, suc, ◌+◌, ◌-◌, ◌*◌, ◌/◌, ◌%◌, ◌^◌, ◌<◌, ◌≤◌, List, [], ◌∷◌, ◌++◌, length, get_or, set, take, refl, sym, ap}
use Rattle.rpds_vector.proofs.Words.{◌∙◌, arith, length-append, append_assoc, append-nil, mod_below, pow_pos, length-set, length-take, mul-le-mul_right}
use Rattle.rpds_vector.proofs.Words.{pow-le-pow_right, take-append-add, Vec, Rc, behind, behind_length, Trie, IsMember, IsRow, IsBranch, IsLeaf, IsSound}
use Rattle.rpds_vector.proofs.Words.{flatten, height_of, span, branch_of, leaf_of, trie_of, IsFull, IsNode, Kind, Branch}
use Rattle.rpds_vector.proofs.OpenNodes.{IsOpenBranch, IsOpenLeaf, open_branch, get_behind}
use Rattle.rpds_vector.proofs.Rows.{row_set, row_more, row_sizes, member_at, flatten_set, flatten_last, flatten_set_last, flatten_append, row_take}
use Rattle.rpds_vector.proofs.Places.{IsInBranch, IsChild, child, child_inside, child_there, there_below, end_last, high, row, same_bits, items, split, total}
use Rattle.rpds_vector.proofs.Spans.{span_pos, leaf_room, whole_nodes, part_fits}

module _ {T : Type 0} where
  -- a branch of the children ks that is seen as v
  pub record IsNewBranch (b : ℕ) (ks : List (Trie T)) (v : Trie T) : Type 0 where
    pub is : branch_of b ks ≡ v
    pub sound : IsBranch b ks

  -- a leaf of the items xs that is seen as v
  pub record IsNewLeaf (b : ℕ) (xs : List T) (v : Trie T) : Type 0 where
    pub is : leaf_of b xs ≡ v
    pub sound : IsLeaf b xs

  height_of_set : (ks : List (Trie T)) (i : ℕ) (k : Trie T) → k.height ≡ height_of ks → height_of (set ks i k) ≡ height_of ks
  height_of_set [] i k e = refl
  height_of_set (a ∷ ks) zero k e = e
  height_of_set (a ∷ ks) (suc i) k e = refl

  height_of_append : (ks ms : List (Trie T)) → 0 < length ks → height_of (ks ++ ms) ≡ height_of ks
  height_of_append [] ms e = absurd (omega arith)
  height_of_append (a ∷ ks) ms e = refl

  -- the child k at i gives way to one of the items ys
  pub replaced : {v : Trie T} {b : ℕ} {ks : List (Trie T)} → IsOpenBranch v b ks → (i : ℕ) (k k' : Trie T) (ys xs : List T) → i < length ks → k ≡ get_or ks i k → k' ≡ record k { items = ys } → 0 < length ys → length ys ≤ span b (height_of ks + 1) → (i + 1 < length ks → length ys ≡ length k.items) → flatten (set ks i k') ≡ xs → IsNewBranch b (set ks i k') (record v { items = xs })
  replaced {v} {b} {ks} o i k k' ys xs inside e f some fits full all =
      let c = span b (height_of ks + 1) in
      let l = length ks - 1 - i in
      let at : i + suc l ≡ length ks = omega arith in
      let m = member_at b (height_of ks) c ks i l k o.sound.row at e in
      let new : IsMember b (height_of ks) c l k' = rw f (record { same_bits = m.same_bits; same_height = m.same_height; some = some; fits = fits; full = λ p. full (omega arith) ∙ m.full p }) in
      let high = height_of_set ks i k' new.same_height in
      record {
        is = rw (o.is, high, all) refl;
        sound = record {
          bits_in = o.sound.bits_in;
          some = omega (arith, o.sound.some, length-set ks i k');
          few = omega (arith, o.sound.few, length-set ks i k');
          row = rw high (row_set b (height_of ks) c ks i l k' o.sound.row at new);
        };
      }

  -- k stands behind them
  pub grown : (v : Trie T) (b : ℕ) (ks : List (Trie T)) → IsOpenBranch v b ks → (k : Trie T) (xs : List T) → length ks < 2 ^ b → length ks * span b (height_of ks + 1) ≤ length (flatten ks) → IsMember b (height_of ks) (span b (height_of ks + 1)) 0 k → flatten ks ++ k.items ≡ xs → IsNewBranch b (ks ++ k ∷ []) (record v { items = xs })
  grown v b ks o k xs few full member e =
      let high = height_of_append ks (k ∷ []) o.sound.some in
      let all : flatten (ks ++ k ∷ []) ≡ xs = flatten_append ks (k ∷ []) ∙ simp append-nil e in
      record {
        is = rw (o.is, high, all) refl;
        sound = record {
          bits_in = o.sound.bits_in;
          some = omega (arith, length-append ks (k ∷ []));
          few = omega (arith, length-append ks (k ∷ []));
          row = rw high (row_more b (height_of ks) (span b (height_of ks + 1)) ks k o.sound.row full member);
        };
      }

module _ {T A : Type 0} {v : Trie T} {b : ℕ} {rcs : List (Rc (Trie T) A)} {n H i : ℕ} (a : IsInBranch v b rcs n H i) where
  -- a write to the child in which the index lies
  pub branch_set : n % span v.bits (H + 1) < length v.items → {rc : Rc (Trie T) A} → rc ≡ get_or rcs i rc → (k : Trie T) (x : T) → k ≡ record rc.value { items = set rc.value.items (n % span rc.value.bits (H - 1 + 1)) x } → IsNewBranch b (set (behind rcs) i k) (record v { items = set v.items (n % span v.bits (H + 1)) x })
  branch_set there {rc} read k x f =
      let e = get_behind rcs i rc read in
      let inside : i < length (behind rcs) = omega (arith, child_inside a there, behind_length rcs) in
      let c = child_there a there read in
      let member = member_at b (height_of (behind rcs)) (span b H) (behind rcs) i (length (behind rcs) - 1 - i) rc.value (row a) (omega arith) e in
      let size = length-set rc.value.items (n % span b H) x in
      let is = rw c.place at f in
      let within : n % span b H < length rc.value.items = rw c.place at (there_below a there read) in
      rw (split a, items a)
      (replaced a.o i rc.value k (set rc.value.items (n % span b H) x) _ inside e is (omega (arith, member.some)) (rw (← high a) (omega (arith, member.fits))) (λ _. size) (flatten_set b (height_of (behind rcs)) (span b H) (behind rcs) i (n % span b H) rc.value k x (row a) inside e within (ap (λ (t : Trie T). t.items) is)))

  -- a path of the items xs behind the last child, where the end isn't in that
  pub branch_more : n % span v.bits (H + 1) ≡ length v.items → {k : Trie T} {xs : List T} {bits : ℕ} → length rcs ≤ i → IsSound k → bits ≡ v.bits → k ≡ record { items = xs; height = H - 1; bits = bits } → IsNewBranch b (behind rcs ++ k ∷ []) (record v { items = v.items ++ xs })
  branch_more end {k} outside sound of_leaf path =
      let bits : k.bits ≡ b = ap (λ (t : Trie T). t.bits) path ∙ of_leaf ∙ same_bits a in
      let height : k.height ≡ H - 1 = ap (λ (t : Trie T). t.height) path in
      let few : i < 2 ^ b = rw a.bucket (mod_below (n / span b H) (2 ^ b) (pow_pos b)) in
      let le : length (behind rcs) * span b H ≤ i * span b H = mul-le-mul_right (span b H) (omega (arith, outside, behind_length rcs)) in
      let full : length (behind rcs) * span b H ≤ length (flatten (behind rcs)) = omega (arith, total a end) in
      let back : k.height + 1 ≡ H = omega (arith, high a) in
      let new : IsMember b (height_of (behind rcs)) (span b H) 0 k = record {
        same_bits = bits;
        same_height = omega (arith, high a);
        some = sound.some;
        fits = rw (bits, back) at sound.room;
        full = λ p. absurd (omega arith);
      } in
      rw (items a, ← ap (λ (t : Trie T). t.items) path) (grown v b (behind rcs) a.o k _ (omega (arith, outside, behind_length rcs)) (rw (← high a) full) (rw (← high a) new) refl)

-- the last child k of a branch, to which rc points
pub record IsLast {T A : Type 0} (v : Trie T) (b : ℕ) (rcs : List (Rc (Trie T) A)) (m : ℕ) (rc : Rc (Trie T) A) : Type 0 where
  pub o : IsOpenBranch v b (behind rcs)
  pub last : m + 1 ≡ length (behind rcs)
  pub read : rc ≡ get_or rcs m rc

module _ {T A : Type 0} {v : Trie T} {b : ℕ} {rc : Rc (Trie T) A} where
  pub last_behind : {kind : Kind T A} {children : Vec (Rc (Trie T) A) A} {len : ℕ} → trie_of b kind ≡ v → kind ≡ Branch children → IsNode b kind → len ≡ children.len → rc ≡ get_or children.items (len - 1) rc → IsLast v b children.items (len - 1) rc
  last_behind {children = children} view is inv size read =
      let o = open_branch view is inv in
      record { o = o; last = omega (arith, o.sound.some, size, behind_length children.items, children.ok.0); read = read }

  pub last_at_end : {rcs : List (Rc (Trie T) A)} {n H i : ℕ} → IsInBranch v b rcs n H i → n % span v.bits (H + 1) ≡ length v.items → i < length rcs → rc ≡ get_or rcs i rc → IsLast v b rcs i rc
  last_at_end {rcs = rcs} a end inside read = record { o = a.o; last = end_last a end (omega (arith, inside, behind_length rcs)); read = read }

take_front : {X : Type 0} (xs ys : List X) → 0 < length ys → take (length (xs ++ ys) - 1) (xs ++ ys) ≡ xs ++ take (length ys - 1) ys
take_front xs ys some =
    let size : length (xs ++ ys) - 1 ≡ length xs + (length ys - 1) = omega (arith, length-append xs ys) in
    rw size (take-append-add xs ys (length ys - 1))

module _ {T A : Type 0} {v : Trie T} {b : ℕ} {rcs : List (Rc (Trie T) A)} {m : ℕ} {rc : Rc (Trie T) A} (l : IsLast v b rcs m rc) where
  at : rc.value ≡ get_or (behind rcs) m rc.value
  at = get_behind rcs m rc l.read

  pub of_row : IsMember b (height_of (behind rcs)) (span b (height_of (behind rcs) + 1)) 0 rc.value
  of_row = member_at b (height_of (behind rcs)) (span b (height_of (behind rcs) + 1)) (behind rcs) m 0 rc.value l.o.sound.row (omega (arith, l.last)) at

  pub last_sizes : length (flatten (behind rcs)) ≡ m * span b (height_of (behind rcs) + 1) + length rc.value.items
  last_sizes = row_sizes b (height_of (behind rcs)) (span b (height_of (behind rcs) + 1)) (behind rcs) m rc.value l.o.sound.row l.last at

  pub last_height : v.height ≡ rc.value.height + 1
  last_height = omega (arith, of_row.same_height, ap (λ (t : Trie T). t.height) l.o.is)

  -- the last leaf of the branch is that of its last child
  pub last_part : length v.items % 2 ^ v.bits ≡ length rc.value.items % 2 ^ rc.value.bits
  last_part = rw (of_row.same_bits, l.o.is, last_sizes) (whole_nodes b (height_of (behind rcs)) m (length rc.value.items))

  pub last_fits : (more : ℕ) → length v.items % 2 ^ v.bits + more ≤ 2 ^ v.bits → length rc.value.items % 2 ^ rc.value.bits + more ≤ 2 ^ rc.value.bits
  last_fits more fits =
      let bits : v.bits ≡ rc.value.bits = ap (λ (t : Trie T). t.bits) l.o.is ∙ sym of_row.same_bits in
      omega (arith, last_part, ap (λ n. 2 ^ n) bits, fits)

  items_are : v.items ≡ flatten (take m (behind rcs)) ++ rc.value.items
  items_are = ap (λ (t : Trie T). t.items) l.o.is ∙ flatten_last (behind rcs) m rc.value l.last at

  module _ {n H : ℕ} (a : IsInBranch v b rcs n H m) where
    pub last_child : IsChild v b n H rc.value
    last_child = child a (omega (arith, l.last)) at

    module _ (end : n % span v.bits (H + 1) ≡ length v.items) where
      last_end : n % span b H ≡ length rc.value.items
      last_end = omega (arith, rw (← high a) at last_sizes, total a end)

      pub end_below : n % span rc.value.bits (H - 1 + 1) ≡ length rc.value.items
      end_below = last_child.place ∙ last_end

      -- it has room for so many more
      pub last_room : (more : ℕ) → n % span b H + more ≤ span b H → length rc.value.items + more ≤ span b (height_of (behind rcs) + 1)
      last_room more fits = rw (← high a) (omega (arith, last_end))

  -- the list without its last item
  shorter : take (length v.items - 1) v.items ≡ flatten (take m (behind rcs)) ++ take (length rc.value.items - 1) rc.value.items
  shorter = rw items_are (take_front (flatten (take m (behind rcs))) rc.value.items of_row.some)

  -- with other items in its last child
  last_replaced : (k : Trie T) (ys : List T) → k ≡ record rc.value { items = ys } → 0 < length ys → length ys ≤ span b (height_of (behind rcs) + 1) → IsNewBranch b (set (behind rcs) m k) (record v { items = flatten (take m (behind rcs)) ++ ys })
  last_replaced k ys f some fits =
      replaced l.o m rc.value k ys _ (omega (arith, l.last)) at f some fits (λ p. absurd (omega (arith, l.last))) (flatten_set_last (behind rcs) m k l.last ∙ ap (λ (t : Trie T). flatten (take m (behind rcs)) ++ t.items) f)

  pub branch_longer : (xs : List T) → length rc.value.items + length xs ≤ span b (height_of (behind rcs) + 1) → (k : Trie T) → k ≡ record rc.value { items = rc.value.items ++ xs } → IsNewBranch b (set (behind rcs) m k) (record v { items = v.items ++ xs })
  branch_longer xs fits k f =
      let size = length-append rc.value.items xs in
      rw (items_are, append_assoc (flatten (take m (behind rcs))) rc.value.items xs) (last_replaced k (rc.value.items ++ xs) f (omega (arith, of_row.some)) (omega arith))

  -- one item less
  pub branch_shorter : 1 < length rc.value.items → (k : Trie T) → k ≡ record rc.value { items = take (length rc.value.items - 1) rc.value.items } → IsNewBranch b (set (behind rcs) m k) (record v { items = take (length v.items - 1) v.items })
  branch_shorter more k f =
      let size = length-take (length rc.value.items - 1) rc.value.items in
      rw shorter (last_replaced k (take (length rc.value.items - 1) rc.value.items) f (omega arith) (omega (arith, of_row.fits)))

  front_row : IsRow b (height_of (behind rcs)) (span b (height_of (behind rcs) + 1)) (take m (behind rcs))
  front_row = row_take b (height_of (behind rcs)) (span b (height_of (behind rcs) + 1)) m (behind rcs) l.o.sound.row

  height_of_take : (n : ℕ) (ks : List (Trie T)) → 0 < n → height_of (take n ks) ≡ height_of ks
  height_of_take zero ks p = absurd (omega arith)
  height_of_take (suc n) [] p = refl
  height_of_take (suc n) (k ∷ ks) p = refl

  -- without its last child, which has one item
  pub branch_fewer : 0 < m → length rc.value.items ≡ 1 → IsNewBranch b (take m (behind rcs)) (record v { items = take (length v.items - 1) v.items })
  branch_fewer p one =
      let ks = take m (behind rcs) in
      let high = height_of_take m (behind rcs) p in
      let size = length-take m (behind rcs) in
      let none : length rc.value.items - 1 ≡ 0 = omega arith in
      let all : flatten ks ≡ take (length v.items - 1) v.items = sym (shorter ∙ ap (λ j. flatten ks ++ take j rc.value.items) none ∙ append-nil (flatten ks)) in
      record {
        is = rw (← all, l.o.is, high) refl;
        sound = record { bits_in = l.o.sound.bits_in; some = omega (arith, l.last); few = omega (arith, l.last, l.o.sound.few); row = rw high front_row };
      }

module _ {T : Type 0} {v : Trie T} {b : ℕ} {xs : List T} (o : IsOpenLeaf v b xs) where
  -- a leaf with other items
  pub leaf_new : (ys : List T) → 0 < length ys → length ys ≤ 2 ^ b → IsNewLeaf b ys (record v { items = ys })
  leaf_new ys some few = record { is = rw o.is refl; sound = record { bits_in = o.sound.bits_in; some = some; few = few } }

  leaf_more : (ys : List T) → length xs + length ys ≤ 2 ^ b → IsNewLeaf b (xs ++ ys) (record v { items = v.items ++ ys })
  leaf_more ys fits =
      let size = length-append xs ys in
      rw (ap (λ (t : Trie T). t.items) o.is) (leaf_new (xs ++ ys) (omega (arith, o.sound.some)) (omega arith))

  -- more items, where it isn't full and has room for them
  pub leaf_longer : (ys : List T) → 0 < length v.items % 2 ^ v.bits → length v.items % 2 ^ v.bits + length ys ≤ 2 ^ v.bits → IsNewLeaf b (xs ++ ys) (record v { items = v.items ++ ys })
  leaf_longer ys part room =
      let rest : 0 < length xs % 2 ^ b = rw o.is at part in
      let fits : length xs % 2 ^ b + length ys ≤ 2 ^ b = rw o.is at room in
      leaf_more ys (omega (arith, part_fits b 0 (length xs) (length ys) (omega (arith, o.sound.few, leaf_room b)) rest fits, leaf_room b))

  pub leaf_push : (n H : ℕ) → H ≡ v.height → n % span v.bits (H + 1) ≡ length v.items → (x : T) → IsNewLeaf b (xs ++ x ∷ []) (record v { items = v.items ++ x ∷ [] })
  leaf_push n H level end x =
      let z : H ≡ 0 = level ∙ ap (λ (t : Trie T). t.height) o.is in
      let e : span v.bits (H + 1) ≡ 2 ^ b = rw (z, ap (λ (t : Trie T). t.bits) o.is) (leaf_room b) in
      leaf_more (x ∷ []) (omega (arith, ap (λ (t : Trie T). length t.items) o.is, mod_below n (span v.bits (H + 1)) (span_pos v.bits (H + 1))))

  pub leaf_shorter : 1 < length xs → IsNewLeaf b (take (length xs - 1) xs) (record v { items = take (length v.items - 1) v.items })
  leaf_shorter more =
      let size = length-take (length xs - 1) xs in
      rw (ap (λ (t : Trie T). t.items) o.is) (leaf_new (take (length xs - 1) xs) (omega arith) (omega (arith, o.sound.few)))

module _ {T : Type 0} where
  member_of : {b h : ℕ} (k : Trie T) → IsSound k → k.bits ≡ b → k.height ≡ h → (later : ℕ) → (0 < later → length k.items ≡ span b (h + 1)) → IsMember b h (span b (h + 1)) later k
  member_of k sound bits height later full = record { same_bits = bits; same_height = height; some = sound.some; fits = rw (bits, height) at sound.room; full = full }

  pub path_sound : (k : Trie T) → IsSound k → IsBranch k.bits (k ∷ [])
  path_sound k sound =
      record { bits_in = sound.bits_in; some = omega arith; few = omega (arith, pow_pos k.bits); row = (member_of k sound refl refl 0 (λ p. absurd (omega arith)), tt) }

  -- a full node and one more below a new branch
  pub above_sound : {b h : ℕ} (l r : Trie T) → IsSound l → IsSound r → IsFull b h l → r.bits ≡ b → r.height ≡ h → IsBranch b (l ∷ r ∷ [])
  above_sound {b} l r sl sr f bits height =
      let bits_in : (1 ≤ b) × (b < 64) = rw f.same_bits at sl.bits_in in
      let two : 2 ^ 1 ≤ 2 ^ b = pow-le-pow_right (omega arith) bits_in.0 in
      let full : length l.items ≡ span b (l.height + 1) = f.full ∙ ap (λ n. span b (n + 1)) (sym f.level) in
      record {
        bits_in = bits_in;
        some = omega arith;
        few = omega (arith, two);
        row = (member_of l sl f.same_bits refl 1 (λ p. full), (member_of r sr bits (height ∙ sym f.level) 0 (λ p. absurd (omega arith)), tt));
      }
