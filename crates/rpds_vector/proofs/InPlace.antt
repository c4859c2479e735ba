-- What a change in place leaves, refused or not.
use Rattle.rpds_vector.proofs.Words.{Result, Ok, Err, IsErrAnd, MatchResult, ◌⊎◌, inl, inr, ◌≡◌, ℕ, ◌+◌, ◌-◌, ◌<◌, ◌≤◌, ◌^◌, ◌%◌, List, ◌++◌, length, get_or}
use Rattle.rpds_vector.proofs.Words.{set, take, sym, ap, ◌∙◌, arith, Vec, Rc, set-get_or, behind, behind_length, behind_set, behind_take, Trie, IsBranch}
use Rattle.rpds_vector.proofs.Words.{IsSound, height_of, span, branch_of, with_item}
use Rattle.rpds_vector.proofs.OpenNodes.{IsOpenBranch, IsOpenLeaf, get_behind}
use Rattle.rpds_vector.proofs.Places.{IsInBranch, place_of, below, high}
use Rattle.rpds_vector.proofs.Changes.{IsNewBranch, IsNewLeaf, IsLast, of_row, last_part, last_fits, branch_set, branch_longer, branch_shorter, last_room, leaf_shorter}
use Rattle.rpds_vector.proofs.Spans.{leaf_fits, leaf_room, part_fits}

-- the call's error is handed on
pub refused : {R E P : Type 0} (Q : E → Type 0) (done : R → Type 0) (r : Result R E) → IsErrAnd r Q → P → MatchResult r done (λ _. P)
refused Q done (Ok x) e p = absurd e
refused Q done (Err x) e p = p

-- a row of pointers, one of which points to an equal value now
pub behind_same : {X A : Type 0} (rcs : List (Rc X A)) (i : ℕ) (rc new : Rc X A) → rc ≡ get_or rcs i rc → new.value ≡ rc.value → behind (set rcs i new) ≡ behind rcs
behind_same rcs i rc new e same =
    behind_set rcs i new ∙ ap (λ x. set (behind rcs) i x) (same ∙ get_behind rcs i rc e) ∙ set-get_or (behind rcs) i rc.value

pub stays : {T A : Type 0} {v : Trie T} {b : ℕ} {rc : Rc (Trie T) A} (rcs : List (Rc (Trie T) A)) (i : ℕ) → IsOpenBranch v b (behind rcs) → rc ≡ get_or rcs i rc → (new : Rc (Trie T) A) → new.value ≡ rc.value → IsNewBranch b (behind (set rcs i new)) v
stays {rc = rc} rcs i o read new same = rw (behind_same rcs i rc new read same) (record { is = sym o.is; sound = o.sound })

-- what a node is seen as after a change: w where that was done, and v where it was refused
pub record IsChanged {T R E : Type 0} (Sound : Type 0) (now : Trie T) (r : Result R E) (v w : Trie T) : Type 0 where
  pub sound : Sound
  pub is : MatchResult r (λ _. now ≡ w) (λ _. now ≡ v)

-- what f does to the child i of a branch v, to which rc points, g does to v
pub record Carries {T A : Type 0} (v : Trie T) (b : ℕ) (rcs : List (Rc (Trie T) A)) (i : ℕ) (rc : Rc (Trie T) A) (f g : Trie T → Trie T) : Type 0 where
  pub o : IsOpenBranch v b (behind rcs)
  pub read : rc ≡ get_or rcs i rc
  pub lifts : (k : Trie T) → k ≡ f rc.value → IsNewBranch b (set (behind rcs) i k) (g v)

-- with the child made the branch's own, and seen as d once the change has ended
module _ {T A : Type 0} {v : Trie T} {b : ℕ} {rcs : List (Rc (Trie T) A)} {i : ℕ} {rc : Rc (Trie T) A} {f g : Trie T → Trie T} (l : Carries v b rcs i rc f g) (made : Trie T) (same : made ≡ rc.value) (new : Rc (Trie T) A) (d : Trie T) (is : new.value ≡ d) where
  pub put : d ≡ f made → IsNewBranch b (behind (set rcs i new)) (g v)
  put h = rw (behind_set rcs i new) (l.lifts new.value (is ∙ h ∙ ap f same))

  pub kept : d ≡ made → IsNewBranch b (behind (set rcs i new)) v
  kept h = stays rcs i l.o l.read new (is ∙ h ∙ same)

  pub carried_sound : (d ≡ f made) ⊎ (d ≡ made) → IsBranch b (behind (set rcs i new))
  carried_sound (inl h) = (put h).sound
  carried_sound (inr h) = (kept h).sound

  pub changed : {R E : Type 0} (r : Result R E) → MatchResult r (λ _. d ≡ f made) (λ _. d ≡ made) → IsChanged (IsBranch b (behind (set rcs i new))) (branch_of b (behind (set rcs i new))) r v (g v)
  changed (Ok x) h = record { sound = (put h).sound; is = (put h).is }
  changed (Err x) h = record { sound = (kept h).sound; is = (kept h).is }

  pub lent : {Done : Type 0} → (Done → d ≡ f made) × ((d ≡ f made) ⊎ (d ≡ made)) → (Done → branch_of b (behind (set rcs i new)) ≡ g v) × ((branch_of b (behind (set rcs i new)) ≡ g v) ⊎ (branch_of b (behind (set rcs i new)) ≡ v))
  lent h = (λ ok. (put (h.0 ok)).is, elim h.1 [ inl q ↦ inl (put q).is | inr q ↦ inr (kept q).is ])

-- a write to the item of an index
pub carries_item : {T A : Type 0} {v : Trie T} {b n H i : ℕ} {rcs : List (Rc (Trie T) A)} {rc : Rc (Trie T) A} (a : IsInBranch v b rcs n H i) → n % span v.bits (H + 1) < length v.items → rc ≡ get_or rcs i rc → (x : T) → Carries v b rcs i rc (λ k. with_item k (below (place_of n H)) x) (λ k. with_item k (place_of n H) x)
carries_item a there read x = record { o = a.o; read = read; lifts = λ k is. branch_set a there read k x is }

abbrev pub with_more : {T : Type 0} → List T → Trie T → Trie T
with_more xs k = record k { items = k.items ++ xs }

abbrev pub without_last : {T : Type 0} → Trie T → Trie T
without_last k = record k { items = take (length k.items - 1) k.items }

module _ {T A : Type 0} {v : Trie T} {b : ℕ} {rcs : List (Rc (Trie T) A)} {i : ℕ} {rc : Rc (Trie T) A} (l : IsLast v b rcs i rc) where
  carries_more : (xs : List T) → length rc.value.items + length xs ≤ span b (height_of (behind rcs) + 1) → Carries v b rcs i rc (with_more xs) (with_more xs)
  carries_more xs fits = record { o = l.o; read = l.read; lifts = branch_longer l xs fits }

  -- as many items more as the last leaf has room for, where it isn't full
  pub carries_part : 0 < length v.items % 2 ^ v.bits → (xs : List T) → length v.items % 2 ^ v.bits + length xs ≤ 2 ^ v.bits → Carries v b rcs i rc (with_more xs) (with_more xs)
  carries_part part xs room =
      let rest : 0 < length rc.value.items % 2 ^ b = rw (last_part l, (of_row l).same_bits) at part in
      let fits : length rc.value.items % 2 ^ b + length xs ≤ 2 ^ b = rw (of_row l).same_bits at (last_fits l (length xs) room) in
      carries_more xs (part_fits b (height_of (behind rcs)) (length rc.value.items) (length xs) (of_row l).fits rest fits)

  -- a leaf more, where all leaves are full
  pub carries_leaf : {n H : ℕ} {leaf : Trie T} (a : IsInBranch v b rcs n H i) → n % span v.bits (H + 1) ≡ length v.items → n % 2 ^ v.bits ≡ 0 → IsSound leaf → leaf.bits ≡ v.bits → leaf.height ≡ 0 → Carries v b rcs i rc (with_more leaf.items) (with_more leaf.items)
  carries_leaf {n} {H} {leaf} a end whole sound same_bits is_leaf =
      let bits : v.bits ≡ b = ap (λ (t : Trie T). t.bits) a.o.is in
      let few : length leaf.items ≤ span b (0 + 1) = rw (is_leaf, same_bits, bits) at sound.room in
      carries_more leaf.items (last_room l a end (length leaf.items) (omega (arith, few, leaf_room b, leaf_fits n b H (omega (arith, high a)) (rw bits at whole))))

  -- one item less
  pub carries_less : 1 < length rc.value.items → Carries v b rcs i rc without_last without_last
  carries_less more = record { o = l.o; read = l.read; lifts = branch_shorter l more }

-- no leaf ends where a leaf begins
pub no_leaf : {T : Type 0} {v : Trie T} {b : ℕ} {xs : List T} (n H : ℕ) → IsOpenLeaf v b xs → H ≡ v.height → n % span v.bits (H + 1) ≡ length v.items → n % 2 ^ v.bits ≡ 0 → ⊥
no_leaf {T} {v} n H o level end whole =
    let low : H ≡ 0 = level ∙ ap (λ (t : Trie T). t.height) o.is in
    let at : n % 2 ^ v.bits ≡ length v.items = rw (low, leaf_room v.bits) at end in
    omega (arith, whole, o.sound.some, ap (λ (t : Trie T). length t.items) o.is)

-- a leaf without its last item
pub leaf_popped : {T A : Type 0} {v : Trie T} {b : ℕ} (items : Vec (Rc T A) A) → IsOpenLeaf v b (behind items.items) → 1 < length v.items → IsNewLeaf b (behind (take (items.len - 1) items.items)) (without_last v)
leaf_popped items o more =
    let last : items.len - 1 ≡ length (behind items.items) - 1 = omega (arith, behind_length items.items, items.ok.0) in
    rw (behind_take (items.len - 1) items.items, last) (leaf_shorter o (rw o.is at more))
