-- The value of a key, lent out of a node.
use Rattle.std.specs.Prelude.{◌≡◌, ℕ, suc, ◌+◌, ◌≤◌, ◌⊎◌, Bool, if◌then◌else◌, List, [], ◌∷◌, length, Option, Result, IsOk}
use Rattle.std.specs.Option.{option_map}
use Rattle.std.specs.Borrow.{Fml, RattleType, MutBor, follows_so, name_if_ok}
use Rattle.std.specs.declared.alloc.Allocator.{Ghosts}
use Rattle.rpds_core.specs.ValueLends.{lends_value}
use Rattle.std.specs.contracts.rc.Rc as rc
use Rattle.std.specs.declared.rc.Rc.{Rc}
use Rattle.rpds_hash_trie.specs.Places.{seen}
use Rattle.rpds_hash_trie.specs.HashTrie.{Stored, Trie, AllAgree, IsBranch, matches, found, unmatched}
use Rattle.rpds_hash_trie.specs.HashNode.{stored, shown, branch_of, trie_of, IsNode}
use Rattle.rpds_hash_trie.specs.contracts.root.Root as root
use Rattle.rpds_hash_trie.specs.contracts.sparse_array_usize.SparseArrayUsize as array
use Rattle.rpds_hash_trie.specs.contracts.node.Node as node
use Rattle.rpds_hash_trie.specs.contracts.node.Kind as kind
use Rattle.rpds_hash_trie.specs.contracts.node.EntryWithHash as entry
use Rattle.rpds_hash_trie.specs.contracts.node.Collision as collision
use Rattle.rpds_hash_trie.specs.declared.node.EntryWithHash.{EntryWithHash}
use Rattle.rpds_hash_trie.specs.declared.node.Collision.{Collision}
use Rattle.rpds_hash_trie.specs.declared.node.Kind.{Kind}

module _ {K V : Type 0} where
  -- the entry with another value
  abbrev pub valued : V → Stored K V → Stored K V
  valued v e = (e.0, (e.1.0, v))

  -- the entries, the first that passes the test with another value
  abbrev pub with_value : (Stored K V → Bool) → V → List (Stored K V) → List (Stored K V)
  with_value t v [] = []
  with_value t v (e ∷ es) = if t e then valued v e ∷ es else e ∷ with_value t v es

  -- where the first entry that passes the test stands, or the length
  abbrev pub index_of : (Stored K V → Bool) → List (Stored K V) → ℕ
  index_of t [] = 0
  index_of t (e ∷ es) = if t e then 0 else suc (index_of t es)

  -- the value of the first entry that passes the test
  abbrev pub value_of : (Stored K V → Bool) → List (Stored K V) → Option V
  value_of t xs = option_map (λ e. e.1.1) (found t xs)

  abbrev pub node_with : (Stored K V → Bool) → V → Trie K V → Trie K V
  node_with t v n = record n { entries = with_value t v n.entries }

-- what a descent that makes its path unique needs: the way to the key is in the node, and clones equal their source
pub record IsReady {K S V : Type 0} (eq : K → S → Bool) (key_clone : K → K → Type 0) (value_clone : V → V → Type 0) (n : Trie K V) (k : S) (h : ℕ) : Type 0 where
  pub alike : AllAgree n.bits n.depth h n.entries
  pub once : length n.entries ≤ length (unmatched (matches eq k h) n.entries) + 1
  pub keys : (x y : K) → key_clone x y → y ≡ x
  pub values : (x y : V) → value_clone x y → y ≡ x

-- what a place is once the reference in a result has ended: P where there is one, and P or Q where that isn't known
abbrev pub Written : Type 0 → Type 0 → Type 0 → Type 0
Written Ok P Q = (Ok → P) × (P ⊎ Q)

-- the entry has the last value written through r, and is seen as it was where there is no reference
abbrev pub lends_in_entry : (K V A : RattleType) → Ghosts A.Denot → MutBor (EntryWithHash K.Denot V.Denot A.Denot) → {E : Type 0} → Result (MutBor V.Denot) E → Fml
lends_in_entry K V A alloc e r = follows_so (entry.the_row K V A alloc) V e.ghost_name (name_if_ok (λ x. x.ghost_name) r)
    (λ v d. Written (IsOk r) (stored d ≡ valued v (stored e.now)) (stored d ≡ stored e.now)) (λ d. stored d ≡ stored e.now)

-- Once the reference in r has ended, the first of the entries in the place p that passes the test has the last value written
-- through it. Where r has no reference, or no entry passes, they stay. (In the formula d is what p ends as.)
abbrev lends_entry : (P V : RattleType) {K : Type 0} → (P.Denot → List (Stored K V.Denot)) → (Stored K V.Denot → Bool) → MutBor P.Denot → {E : Type 0} → Result (MutBor V.Denot) E → Fml
lends_entry P V entries t p r = follows_so P V p.ghost_name (name_if_ok (λ x. x.ghost_name) r)
    (λ v d. Written (IsOk r) (entries d ≡ with_value t v (entries p.now)) (entries d ≡ entries p.now)) (λ d. entries d ≡ entries p.now)

-- of the one entry of a leaf
abbrev pub lends_in_leaf : (K V A : RattleType) → Ghosts A.Denot → (Stored K.Denot V.Denot → Bool) → MutBor (EntryWithHash K.Denot V.Denot A.Denot) → {E : Type 0} → Result (MutBor V.Denot) E → Fml
lends_in_leaf K V A alloc t e r = lends_entry (entry.the_row K V A alloc) V (λ d. stored d ∷ []) t e r

-- of a collision
abbrev pub lends_in_collision : (K V A : RattleType) → Ghosts A.Denot → (Stored K.Denot V.Denot → Bool) → MutBor (Collision K.Denot V.Denot A.Denot) → {E : Type 0} → Result (MutBor V.Denot) E → Fml
lends_in_collision K V A alloc t c r = lends_entry (collision.the_row K V A alloc) V shown t c r

-- of a collision behind a pointer
abbrev pub lends_in_shared : (K V A : RattleType) → Ghosts A.Denot → (Stored K.Denot V.Denot → Bool) → MutBor (Rc (Collision K.Denot V.Denot A.Denot) A.Denot) → {E : Type 0} → Result (MutBor V.Denot) E → Fml
lends_in_shared K V A alloc t c r = lends_entry (rc.the_row (collision.the_row K V A alloc) A alloc) V (λ d. shown d.value) t c r

-- children of a branch that is seen as v
pub record IsSeenAs {K V : Type 0} (bits d : ℕ) (cs : List (ℕ × Trie K V)) (v : Trie K V) : Type 0 where
  pub is : branch_of bits d cs ≡ v
  pub sound : IsBranch bits d cs

-- the same of the children of a branch, which they stay
abbrev pub lends_in_children : (K V A : RattleType) → Ghosts A.Denot → ℕ → ℕ → (Stored K.Denot V.Denot → Bool) → MutBor (List (ℕ × Rc (Trie K.Denot V.Denot) A.Denot)) → {E : Type 0} → Result (MutBor V.Denot) E → Fml
lends_in_children K V A alloc bits depth t cs r = follows_so (array.the_row (rc.the_row (node.the_row K V A alloc) A alloc) A alloc) V cs.ghost_name (name_if_ok (λ x. x.ghost_name) r)
    (λ v d. Written (IsOk r) (IsSeenAs bits depth (seen d) (node_with t v (branch_of bits depth (seen cs.now)))) (IsSeenAs bits depth (seen d) (branch_of bits depth (seen cs.now))))
    (λ d. IsSeenAs bits depth (seen d) (branch_of bits depth (seen cs.now)))

-- the kind of a node that is seen as v
pub record IsKindOf {K V A : Type 0} (bits d : ℕ) (v : Trie K V) (k : Kind K V A) : Type 0 where
  pub is : trie_of bits d k ≡ v
  pub sound : IsNode bits d k

-- the same of the kind of a node, which it stays
abbrev pub lends_in_kind : (K V A : RattleType) → Ghosts A.Denot → ℕ → ℕ → (Stored K.Denot V.Denot → Bool) → MutBor (Kind K.Denot V.Denot A.Denot) → {E : Type 0} → Result (MutBor V.Denot) E → Fml
lends_in_kind K V A alloc bits depth t k r = follows_so (kind.the_row K V A alloc) V k.ghost_name (name_if_ok (λ x. x.ghost_name) r)
    (λ v d. Written (IsOk r) (IsKindOf bits depth (node_with t v (trie_of bits depth k.now)) d) (IsKindOf bits depth (trie_of bits depth k.now) d))
    (λ d. IsKindOf bits depth (trie_of bits depth k.now) d)

-- the trie below the root has the value of the key written through r
abbrev pub lends_in_root : (K V A : RattleType) → Ghosts A.Denot → (Stored K.Denot V.Denot → Bool) → MutBor (Trie K.Denot V.Denot) → {E : Type 0} → Result (MutBor V.Denot) E → Fml
lends_in_root K V A alloc t n r = lends_value (root.the_row K V A alloc) V n (λ v. node_with t v n.now) r
