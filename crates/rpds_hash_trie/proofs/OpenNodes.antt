-- A node that was opened, at its variant.
use Rattle.rpds_hash_trie.proofs.Words.{◌≡◌, ℕ, Some, None, List, [], ◌∷◌, map, refl, sym, ap, ◌∙◌, subst, arith, Rc, seen, item_at, Stored, Trie, IsBranch, IsCollision, stored, trie_of, branch_of, leaf_of, collision_of, IsNode, EntryWithHash, Collision, Kind}
use Rattle.std.proofs.Common.{Option}
use Rattle.rpds_hash_trie.specs.HashTrie.{IsLeaf}
use Rattle.rpds_hash_trie.specs.declared.node.Kind.TheVariants as the

pub record IsOpenBranch {K V : Type 0} (v : Trie K V) (bits d : ℕ) (cs : List (ℕ × Trie K V)) : Type 0 where
  pub is : v ≡ branch_of bits d cs
  pub sound : IsBranch bits d cs

pub record IsOpenLeaf {K V : Type 0} (v : Trie K V) (bits d : ℕ) (e : Stored K V) : Type 0 where
  pub is : v ≡ leaf_of bits d e
  pub sound : IsLeaf bits d

pub record IsOpenCollision {K V : Type 0} (v : Trie K V) (bits d : ℕ) (e : Stored K V) (es : List (Stored K V)) : Type 0 where
  pub is : v ≡ collision_of bits d e es
  pub sound : IsCollision bits d e.0 es

module _ {K V A : Type 0} {v : Trie K V} {bits d : ℕ} {kind : Kind K V A} where
  pub open_branch : (cs : List (ℕ × Rc (Trie K V) A)) → trie_of bits d kind ≡ v → kind ≡ the.Branch cs → IsNode bits d kind → IsOpenBranch v bits d (seen cs)
  open_branch cs view is inv = record { is = sym view ∙ ap (trie_of bits d) is; sound = subst (IsNode bits d) is inv }

  pub open_leaf : (e : EntryWithHash K V A) → trie_of bits d kind ≡ v → kind ≡ the.Leaf e → IsNode bits d kind → IsOpenLeaf v bits d (stored e)
  open_leaf e view is inv = record { is = sym view ∙ ap (trie_of bits d) is; sound = subst (IsNode bits d) is inv }

  pub open_collision : (rc : Rc (Collision K V A) A) → trie_of bits d kind ≡ v → kind ≡ the.Collision rc → IsNode bits d kind → IsOpenCollision v bits d (stored rc.value.front) (map stored rc.value.others.items)
  open_collision rc view is inv = record { is = sym view ∙ ap (trie_of bits d) is; sound = subst (IsNode bits d) is inv }

module _ {K V A : Type 0} where
  bits_seen : (bits d : ℕ) (kind : Kind K V A) → (trie_of bits d kind).bits ≡ bits
  bits_seen bits d (the.Branch cs) = refl
  bits_seen bits d (the.Leaf e) = refl
  bits_seen bits d (the.Collision rc) = refl

  -- nodes that are seen with the same bits are opened with the same
  pub bits_alike : (b d : ℕ) (kind : Kind K V A) (b' d' : ℕ) (kind' : Kind K V A) {v w : Trie K V} → trie_of b d kind ≡ v → trie_of b' d' kind' ≡ w → w.bits ≡ v.bits → b ≡ b'
  bits_alike b d kind b' d' kind' x y e = sym (bits_seen b d kind) ∙ ap (λ (t : Trie K V). t.bits) x ∙ sym e ∙ ap (λ (t : Trie K V). t.bits) (sym y) ∙ bits_seen b' d' kind'

-- an item, seen without its pointer
abbrev pub seen_item : {X A : Type 0} → Option (Rc X A) → Option X
seen_item None = None
seen_item (Some c) = Some c.value

pub item_seen : {X A : Type 0} (p : ℕ) (cs : List (ℕ × Rc X A)) → item_at p (seen cs) ≡ seen_item (item_at p cs)
item_seen p [] = refl
item_seen p (c ∷ cs) = grind (arith, item_seen p cs)
