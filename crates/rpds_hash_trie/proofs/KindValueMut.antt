-- A node's kind, after a write to a value in it.
use Rattle.rpds_hash_trie.proofs.Words.{◌≡◌, ℕ, suc, ◌+◌, ◌-◌, ◌≤◌, Bool, List, [], ◌∷◌, length, map, refl, sym, ap, ◌∙◌, subst, arith, ◌⊎◌, inl, inr, Rc, seen}
use Rattle.rpds_hash_trie.proofs.Words.{Stored, Trie, flat, IsBranch, IsCollision, AllHash, branch_of, leaf_of, trie_of, IsNode, stored, shown, with_value}
use Rattle.rpds_hash_trie.proofs.Words.{value_of, node_with, EntryWithHash, Collision, Kind}
use Rattle.rpds_hash_trie.specs.HashTrie.{level_count}
use Rattle.rpds_hash_trie.specs.HashLent.{Written, IsReady, IsSeenAs, IsKindOf}
use Rattle.rpds_hash_trie.specs.declared.node.Kind.TheVariants as the
use Rattle.rpds_hash_trie.proofs.OpenNodes.{IsOpenBranch, IsOpenLeaf, IsOpenCollision}
use Rattle.rpds_hash_trie.proofs.NodeValueMut.{outward, each_with, length_with}
use Rattle.rpds_hash_trie.specs.contracts.sparse_array_usize.SparseArrayUsize as array
use Rattle.rpds_hash_trie.specs.contracts.node.Node as node
use Rattle.rpds_hash_trie.specs.contracts.node.Kind as kind
use Rattle.rpds_hash_trie.specs.contracts.node.EntryWithHash as entry
use Rattle.rpds_hash_trie.specs.contracts.node.Collision as collision
use Rattle.std.specs.contracts.rc.Rc as rc
use Rattle.std.specs.declared.alloc.Allocator.{Ghosts}
use mathlib.Core.Option.{Option}
use mir.Syntax.{Sym, Tyss, ty_enum}
use mir.Val.{Val}
use base.Fml.{fex}
use denote.Memory.{lone}
use denote.Param.{param, copied}
use denote.RattleType.{RattleType, owns, Valss}
use denote.Struct.Field.{Field, rows}
use denote.Struct.Values.{Values, intos}
use denote.Struct.Loose.{Looses}
use denote.Enum.Enum.{payload, in_a_row}
use denote.Enum.Declared.{Record, Declared, row, tag_of, variants}
use borrow.Enum.Known.{at}
use borrow.Enum.Total.{values_o}
use borrow.Enum.Lend.{put_if}

-- a field put in a kind whose variant is known: `search` finds the laws and the place of the field
module _ (K V A : RattleType) (al : Ghosts A.Denot) where
  abbrev T : Declared
  T = kind.the_type (param 0 K) (param 1 V) (copied 2 A) al

  abbrev N : Record
  N = kind.enum (param 0 K) (param 1 V) (copied 2 A) al

  -- F is the only field of the variant k
  module _ (k : ℕ) (F : Field) (mk : Values (F ∷ []) → T.D) where
    abbrev Pays : Values (F ∷ []) → List Val → Type 1
    Pays v us = payload (variants T) (T.to (mk v)) us
        ≡ fex (Valss (rows (F ∷ []))) (in_a_row (rows (F ∷ [])) (owns (rows (F ∷ [])) (intos (F ∷ []) v)) us)

    abbrev Puts : (T.D → Option (Values (F ∷ []))) → T.D → (F.Value → T.D) → Type 2
    Puts peek x to = (ls : Looses (F ∷ [])) (pay : (v : Values (F ∷ [])) (us : List Val) → Pays v us)
        (tg : (v : Values (F ∷ [])) → tag_of T (mk v) ≡ k) (ν : Sym) (τss : Tyss) (et : lone (row T).mir ≡ ty_enum ν τss)
        (d : ℕ) (f : F.Value) → put_if T k (F ∷ []) ls mk pay tg et 0 d (peek x) x f ≡ to f

  abbrev Children : Field
  Children = array.the_field (rc.the_row (node.the_row (param 0 K) (param 1 V) (copied 2 A) al) (copied 2 A) al) (copied 2 A) al

  abbrev Held : Field
  Held = entry.the_field (param 0 K) (param 1 V) (copied 2 A) al

  abbrev Shared : Field
  Shared = rc.the_field (collision.the_row (param 0 K) (param 1 V) (copied 2 A) al) (copied 2 A) al

  module _ {x : Kind K.Denot V.Denot A.Denot} where
    pub put_branch : {cs : List (ℕ × Rc (Trie K.Denot V.Denot) A.Denot)} → x ≡ the.Branch cs
        → Puts 0 Children (at N 0) (values_o N 0) x (λ f. the.Branch f)
    put_branch is ls pay tg ν τss et d f = ap (λ (z : T.D). put_if T 0 (Children ∷ []) ls (at N 0) pay tg et 0 d (values_o N 0 z) z f) is

    pub put_leaf : {e : EntryWithHash K.Denot V.Denot A.Denot} → x ≡ the.Leaf e → Puts 1 Held (at N 1) (values_o N 1) x (λ f. the.Leaf f)
    put_leaf is ls pay tg ν τss et d f = ap (λ (z : T.D). put_if T 1 (Held ∷ []) ls (at N 1) pay tg et 0 d (values_o N 1 z) z f) is

    pub put_collision : {c : Rc (Collision K.Denot V.Denot A.Denot) A.Denot} → x ≡ the.Collision c
        → Puts 2 Shared (at N 2) (values_o N 2) x (λ f. the.Collision f)
    put_collision is ls pay tg ν τss et d f = ap (λ (z : T.D). put_if T 2 (Shared ∷ []) ls (at N 2) pay tg et 0 d (values_o N 2 z) z f) is

-- a node by its entries
abbrev trie_with : {K V : Type 0} → ℕ → ℕ → List (Stored K V) → Trie K V
trie_with bits d xs = record { entries = xs; depth = d; bits = bits }

-- how many levels are below a node that is seen as v
module _ {K V A : Type 0} (bits d : ℕ) where
  levels_of : (k : Kind K V A) → level_count (trie_of bits d k).bits + 1 - (trie_of bits d k).depth ≡ level_count bits + 1 - d
  levels_of (the.Branch cs) = refl
  levels_of (the.Leaf e) = refl
  levels_of (the.Collision rc) = refl

  pub levels_seen : (k : Kind K V A) {v : Trie K V} → trie_of bits d k ≡ v → level_count v.bits + 1 - v.depth ≡ level_count bits + 1 - d
  levels_seen k view = ap (λ (n : Trie K V). level_count n.bits + 1 - n.depth) (sym view) ∙ levels_of k

-- the kind of a node that was lent from
module _ {K V A : Type 0} {bits d : ℕ} where
  pub kind_sound : {k : Kind K V A} {v w : Trie K V} → IsKindOf bits d v k ⊎ IsKindOf bits d w k → IsNode bits d k
  kind_sound (inl s) = s.sound
  kind_sound (inr s) = s.sound

  -- by another name
  pub kept_as : {end made : Kind K V A} {v : Trie K V} → IsKindOf bits d v made → end ≡ made → IsKindOf bits d v end
  kept_as {v = v} s is = subst (IsKindOf bits d v) (sym is) s

  pub lent_as : {end made : Kind K V A} {u v : Trie K V} {Ok : Type 0} → Written Ok (IsKindOf bits d u made) (IsKindOf bits d v made) → end ≡ made
      → Written Ok (IsKindOf bits d u end) (IsKindOf bits d v end)
  lent_as q is = outward q (λ s. kept_as s is) (λ s. kept_as s is)

-- a branch, whose children are lent as a whole
module _ {K V A : Type 0} {bits d : ℕ} {v : Trie K V} {held cs : List (ℕ × Rc (Trie K V) A)} (same : held ≡ cs) (o : IsOpenBranch v bits d (seen cs)) where
  branch_is : v ≡ branch_of bits d (seen held)
  branch_is = o.is ∙ ap (λ (l : List (ℕ × Rc (Trie K V) A)). branch_of bits d (seen l)) (sym same)

  pub branch_sound : IsBranch bits d (seen held)
  branch_sound = subst (λ (l : List (ℕ × Rc (Trie K V) A)). IsBranch bits d (seen l)) (sym same) o.sound

  pub branch_ready : {S : Type 0} {eq : K → S → Bool} {kc : K → K → Type 0} {vc : V → V → Type 0} {k : S} {h : ℕ} → IsReady eq kc vc v k h
      → IsReady eq kc vc (branch_of bits d (seen held)) k h
  branch_ready {eq} {kc} {vc} {k} {h} r = subst (λ (n : Trie K V). IsReady eq kc vc n k h) branch_is r

  pub branch_found : (t : Stored K V → Bool) → value_of t v.entries ≡ value_of t (flat (seen held))
  branch_found t = ap (λ (n : Trie K V). value_of t n.entries) branch_is

  module _ (new : List (ℕ × Rc (Trie K V) A)) where
    pub branch_kept : IsSeenAs bits d (seen new) (branch_of bits d (seen held)) → IsKindOf bits d v (the.Branch new)
    branch_kept s = record { is = s.is ∙ sym branch_is; sound = s.sound }

    pub branch_lent : (t : Stored K V → Bool) (w : V) {Ok : Type 0}
        → Written Ok (IsSeenAs bits d (seen new) (node_with t w (branch_of bits d (seen held)))) (IsSeenAs bits d (seen new) (branch_of bits d (seen held)))
        → Written Ok (IsKindOf bits d (node_with t w v) (the.Branch new)) (IsKindOf bits d v (the.Branch new))
    branch_lent t w q = outward q (λ s. record { is = s.is ∙ ap (node_with t w) (sym branch_is); sound = s.sound }) branch_kept

-- a leaf, whose entry is lent
module _ {K V A : Type 0} {bits d : ℕ} {v : Trie K V} {held e : EntryWithHash K V A} (same : held ≡ e) (o : IsOpenLeaf v bits d (stored e)) where
  leaf_is : v ≡ leaf_of bits d (stored held)
  leaf_is = o.is ∙ ap (λ (x : EntryWithHash K V A). leaf_of bits d (stored x)) (sym same)

  pub leaf_found : (t : Stored K V → Bool) → value_of t v.entries ≡ value_of t (stored held ∷ [])
  leaf_found t = ap (λ (n : Trie K V). value_of t n.entries) leaf_is

  module _ (new : EntryWithHash K V A) where
    pub leaf_kept : stored new ∷ [] ≡ stored held ∷ [] → IsKindOf bits d v (the.Leaf new)
    leaf_kept z = record { is = ap (trie_with bits d) z ∙ sym leaf_is; sound = o.sound }

    pub leaf_lent : (t : Stored K V → Bool) (w : V) {Ok : Type 0}
        → Written Ok (stored new ∷ [] ≡ with_value t w (stored held ∷ [])) (stored new ∷ [] ≡ stored held ∷ [])
        → Written Ok (IsKindOf bits d (node_with t w v) (the.Leaf new)) (IsKindOf bits d v (the.Leaf new))
    leaf_lent t w q = outward q (λ z. record { is = ap (trie_with bits d) z ∙ ap (node_with t w) (sym leaf_is); sound = o.sound }) leaf_kept

-- entries of one hash stay such, whatever value is written
module _ {K V : Type 0} {bits d : ℕ} {v : Trie K V} {e : Stored K V} {held es : List (Stored K V)} (same : held ≡ e ∷ es)
    (o : IsOpenCollision v bits d e es) where
  collision_as : (xs : List (Stored K V)) {f : Stored K V} {fs : List (Stored K V)} → AllHash e.0 xs → length xs ≡ suc (length es) → f ∷ fs ≡ xs
      → IsCollision bits d f.0 fs
  collision_as xs {f} {fs} all many is =
      let all' : AllHash e.0 (f ∷ fs) = subst (AllHash e.0) (sym is) all in
      let l : suc (length fs) ≡ length xs = ap length is in
      let some : 1 ≤ length es = o.sound.several in
      record { bits_in = o.sound.bits_in; full = o.sound.full; several = omega arith; same = subst (λ n. AllHash n fs) (sym all'.0) all'.1 }

  all : AllHash e.0 (e ∷ es)
  all = (refl, o.sound.same)

  collision_stays : {f : Stored K V} {fs : List (Stored K V)} → f ∷ fs ≡ held → IsCollision bits d f.0 fs
  collision_stays is = collision_as (e ∷ es) all refl (is ∙ same)

  collision_written : (t : Stored K V → Bool) (w : V) {f : Stored K V} {fs : List (Stored K V)} → f ∷ fs ≡ with_value t w held → IsCollision bits d f.0 fs
  collision_written t w is = collision_as (with_value t w (e ∷ es)) (each_with t w (λ x. x.0 ≡ e.0) (λ x q. q) (e ∷ es) all) (length_with t w (e ∷ es))
      (is ∙ ap (with_value t w) same)

-- a collision, whose entries are lent as a whole
module _ {K V A : Type 0} {bits d : ℕ} {v : Trie K V} {held rc : Rc (Collision K V A) A} (same : held ≡ rc)
    (o : IsOpenCollision v bits d (stored rc.value.front) (map stored rc.value.others.items)) where
  entries_same : shown held.value ≡ shown rc.value
  entries_same = ap (λ (x : Rc (Collision K V A) A). shown x.value) same

  collision_is : v ≡ trie_with bits d (shown held.value)
  collision_is = o.is ∙ ap (trie_with bits d) (sym entries_same)

  pub collision_found : (t : Stored K V → Bool) → value_of t v.entries ≡ value_of t (shown held.value)
  collision_found t = ap (λ (n : Trie K V). value_of t n.entries) collision_is

  module _ (new : Rc (Collision K V A) A) where
    pub collision_kept : shown new.value ≡ shown held.value → IsKindOf bits d v (the.Collision new)
    collision_kept z = record { is = ap (trie_with bits d) z ∙ sym collision_is; sound = collision_stays entries_same o z }

    pub collision_lent : (t : Stored K V → Bool) (w : V) {Ok : Type 0}
        → Written Ok (shown new.value ≡ with_value t w (shown held.value)) (shown new.value ≡ shown held.value)
        → Written Ok (IsKindOf bits d (node_with t w v) (the.Collision new)) (IsKindOf bits d v (the.Collision new))
    collision_lent t w q = outward q (λ z. record {
      is = ap (trie_with bits d) z ∙ ap (node_with t w) (sym collision_is);
      sound = collision_written
          entries_same o t w z;
    }) collision_kept
