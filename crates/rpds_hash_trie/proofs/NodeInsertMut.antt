-- What an insertion in place leaves.
use Rattle.rpds_hash_trie.proofs.Words.{Result, Ok, Err, IfOk, OnErr, refl, ◌≡◌, ℕ, ◌+◌, ◌≤◌, Bool, true, List, ◌∷◌, length, sym, ap, ◌∙◌, is_none, Rc, IsPermutation, put_at, seen, Stored, Trie, IsSound, AllAgree, matches, unmatched, leaf_of, trie_of, IsNode, Kind, Branch, AllocError, IsPutIn}
use Rattle.rpds_hash_trie.proofs.Child.{HasChild, HasNoChild, child_is}
use Rattle.std.specs.Prelude.{OnOk}
use Rattle.rpds_hash_trie.proofs.NodeInsert.{branch_leaf, branch_put_in, put_first, put_changed, put_seen}
use Rattle.rpds_hash_trie.proofs.NodeValueMut.{child_kept}
use Rattle.rpds_hash_trie.proofs.Order.{leaf_sound}

pub on_err : {A E : Type 0} {P : Type 0} (r : Result A E) → P → OnErr r P
on_err (Ok x) p = tt
on_err (Err e) p = p

-- what an insertion leaves of the node v, and what it answers
pub record HasPut {K V A : Type 0} (t : Stored K V → Bool) (e : Stored K V) (v : Trie K V) (bits d : ℕ) (kind : Kind K V A) (r : Result Bool AllocError) : Type 0 where
  pub sound : IsNode bits d kind
  pub ok : IfOk r (λ added. IsPutIn t e v (trie_of bits d kind) added)
  pub err : OnErr r (trie_of bits d kind ≡ v)

module _ {K V A : Type 0} {eq : K → K → Bool} {k : K} (w : V) {h bits d place : ℕ} {v : Trie K V} {rcs : List (ℕ × Rc (Trie K V) A)} where
  -- a leaf at a place that had no child
  pub leaf_put : HasNoChild eq k h bits d place v rcs → AllAgree v.bits v.depth h v.entries → length v.entries ≤ length (unmatched (matches eq k h) v.entries) + 1
      → (cs : List (ℕ × Rc (Trie K V) A)) (r : Result Bool AllocError) → IfOk r (λ added. added ≡ true) → OnOk r (seen cs ≡ put_at place (leaf_of bits (d + 1) (h, (k, w))) (seen rcs)) → OnErr r (cs ≡ rcs)
      → HasPut (matches eq k h) (h, (k, w)) v bits d (Branch cs) r
  leaf_put a agrees once cs (Ok added) fresh ok err =
      let leaf = leaf_sound bits (d + 1) (h, (k, w)) (branch_leaf a.opened.sound) in
      let new = put_first w a agrees once refl leaf in
      record { sound = rw ok new.sound; ok = rw ok (branch_put_in a.opened new (fresh ∙ ap is_none (sym a.absent))); err = tt }
  leaf_put a agrees once cs (Err e) fresh ok err = record { sound = rw err a.opened.sound; ok = tt; err = rw err (sym a.opened.is) }

  -- the child, after an insertion below, in its place
  pub put_below : {old : Rc (Trie K V) A} → HasChild eq k h bits d place v rcs old → AllAgree v.bits v.depth h v.entries → length v.entries ≤ length (unmatched (matches eq k h) v.entries) + 1
      → {made : Trie K V} → made ≡ old.value → (new : Rc (Trie K V) A) {after : Trie K V} → new.value ≡ after → IsSound after → (r : Result Bool AllocError) → IfOk r (λ added. IsPutIn (matches eq k h) (h, (k, w)) made after added) → OnErr r (after ≡ made)
      → HasPut (matches eq k h) (h, (k, w)) v bits d (Branch (put_at place new rcs)) r
  put_below a agrees once {made} same new {after} is sound (Ok added) p err =
      let bits' : new.value.bits ≡ made.bits = ap (λ (x : Trie K V). x.bits) is ∙ p.bits in
      let depth' : new.value.depth ≡ made.depth = ap (λ (x : Trie K V). x.depth) is ∙ p.depth in
      let perm : IsPermutation ((h, (k, w)) ∷ unmatched (matches eq k h) made.entries) new.value.entries = rw is p.entries in
      let sound' : IsSound new.value = rw is sound in
      let changed = put_changed w a agrees once same perm bits' depth' sound' in
      record {
        sound = rw (put_seen place new rcs) changed.sound;
        ok = rw (put_seen place new rcs) (branch_put_in a.opened changed (p.fresh ∙ ap is_none (sym (child_is a same).found_in)));
        err = tt;
      }
  put_below a agrees once same new is sound (Err e) p err =
      let kept = child_kept a same new is err in
      record { sound = kept.sound; ok = tt; err = kept.is }
