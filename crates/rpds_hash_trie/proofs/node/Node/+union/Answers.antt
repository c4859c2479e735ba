use Rattle.std.proofs.Common.{drop}
use Rattle.std.specs.Prelude.{IfSome}
use Rattle.std.proofs.lemmas.List.{drop_more}
use Rattle.rpds_hash_trie.proofs.Words.{◌≡◌, ◌+◌, ◌∷◌, ◌%◌, ◌^◌, Some, sym, ap, ◌∙◌, subst, arith, slice_get, hashes_in, item_at, seen, behind, Trie, IsSound}
use Rattle.rpds_hash_trie.proofs.Words.{◌-◌}
use Rattle.rpds_hash_trie.specs.HashUnion.{AreSameLeaves, children_or, put_or}
use Rattle.rpds_hash_trie.specs.HashTrie.{level_count}
use Rattle.rpds_hash_trie.proofs.Digits.{level_count_le, digit_of}
use Rattle.rpds_hash_trie.proofs.OpenNodes.{open_branch, item_seen, seen_item}
use Rattle.rpds_hash_trie.proofs.UnitedChildren.{IsUniting, uniting_none}
use Rattle.rpds_hash_trie.proofs.UnitedNodes.{first_of, next_can, next_same_place, next_falls, next_new, next_leaf, next_both}
use Rattle.rpds_hash_trie.proofs.node.Node.+union.Goals as goal
use Rattle.rpds_hash_trie.proofs.node.Node.+union.Goals.{in-None+in_ok-clone-in-None, in-Some+then-is_same_leaf}
use Rattle.rpds_hash_trie.proofs.node.Node.+union.Goals.{in-Some+else-is_same_leaf+in_ok-more-in-Some}

pub loop-child-init : goal.loop-child-init
loop-child-init g t c =
    let o = open_branch c.in-Branch-kind.mine c.self.view_is c.in-Branch-kind.is c.self.invariant in
    let q = open_branch c.in-Branch.theirs c.other.view_is c.in-Branch.is c.other.invariant in (
      c.requires.can.with_root,
      uniting_none c.self.inside.bits c.self.inside.depth c.other.inside.bits c.other.inside.depth c.args.common.now
          c.args.self.now c.args.other.now c.in-Branch-kind.mine c.in-Branch.theirs c.as_slice-row.result.now o q c.requires.bits c.requires.depth
          c.requires.can c.as_slice-row.ensures,
    )

pub left_at-requires-clause-deep : goal.left_at-requires-clause-deep
left_at-requires-clause-deep g t c =
    let o = open_branch c.in-Branch-kind.mine c.self.view_is c.in-Branch-kind.is c.self.invariant in
    omega (arith, o.sound.left, level_count_le c.self.inside.bits)

pub union-requires : goal.union-requires
union-requires g t c κs within =
    let inv = c.loop-child.invariant in
    let i = c.loop-child.child-index in
    let xs = c.as_slice-row.result.now in
    let x = c.child-item.result in
    let o = open_branch c.in-Branch-kind.mine c.self.view_is c.in-Branch-kind.is c.self.invariant in
    let here : drop i xs ≡ x ∷ drop (i + 1) xs = drop_more xs i x (omega arith) ∙ ap (λ y. y ∷ drop (i + 1) xs) (sym c.child-item.is) in
    let u = subst (λ l. IsUniting g.K.PartialEq.eq c.self.inside.bits c.self.inside.depth inv.0 (seen c.in-Branch-kind.mine) c.args.other.now.entries
    (children_or (seen c.in-Branch-kind.mine) c.loop-child.changed) (behind l) c.args.common.now c.loop-child.common) here inv.1 in
    let first = first_of c.first_hash.result x.value.entries (subst (λ (n : Trie g.row.K.Denot g.row.V.Denot). slice_get (hashes_in n.entries) 0
    ≡ Some c.first_hash.result) c.deref-in-loop-child.ensures c.first_hash.ensures) in
    let at = digit_of c.self.inside.bits c.self.inside.depth c.first_hash.result c.place_of-place.result
    (c.place_of-place.ensures.value ∙ ap (λ n. n % 2 ^ c.self.inside.bits) c.left_at.ensures) in
    let there : item_at c.place_of-place.result (children_or (seen c.in-Branch-kind.mine) c.loop-child.changed)
    ≡ Some c.in-Some.own.now.value = ap (item_at c.place_of-place.result) (sym c.children_now.ensures)
    ∙ item_seen c.place_of-place.result c.children_now.result.now ∙ ap seen_item (sym c.in-Some.ensures) in
    let law = g.met.K.Eq.laws in
    let can = next_can law u first at c.in-Some.own.now.value there (let room = c.requires.can.room in omega (arith, room)) in
    let same = next_same_place law u first at c.in-Some.own.now.value there in
    let falls = next_falls law u first at c.in-Some.own.now.value there o.sound.left in
    let levels : level_count c.args.self.now.bits - c.args.self.now.depth ≡ level_count c.self.inside.bits -
    c.self.inside.depth = ap (λ (n : Trie g.row.K.Denot g.row.V.Denot). level_count n.bits - n.depth) o.is in
    let own = c.deref-own.ensures in
    let child = c.deref-else-is_same_leaf.ensures in
    rw (own, child) (omega (arith, c.decreases, falls, levels), (within.0, (within.1.0, (within.1.1, (same.0, (same.1, can))))))

pub loop-child-preserved : goal.loop-child-preserved
loop-child-preserved g t c =
    let inv = c.loop-child.invariant in
    let i = c.loop-child.child-index in
    let xs = c.as_slice-row.result.now in
    let x = c.child-item.result in
    let eq = g.K.PartialEq.eq in
    let law = g.met.K.Eq.laws in
    let place = c.place_of-place.result in
    let mine = seen c.in-Branch-kind.mine in
    let now = children_or mine c.loop-child.changed in
    let here : drop i xs ≡ x ∷ drop (i + 1) xs = drop_more xs i x (omega arith) ∙ ap (λ y. y ∷ drop (i + 1) xs) (sym c.child-item.is) in
    let u = subst (λ l. IsUniting eq c.self.inside.bits c.self.inside.depth inv.0 mine c.args.other.now.entries now (behind l) c.args.common.now
    c.loop-child.common) here inv.1 in
    let first = first_of c.first_hash.result x.value.entries (subst (λ (n : Trie g.row.K.Denot g.row.V.Denot). slice_get (hashes_in n.entries) 0
    ≡ Some c.first_hash.result) c.deref-in-loop-child.ensures c.first_hash.ensures) in
    let at = digit_of c.self.inside.bits c.self.inside.depth c.first_hash.result place (c.place_of-place.ensures.value
    ∙ ap (λ n. n % 2 ^ c.self.inside.bits) c.left_at.ensures) in
    let found = ap (item_at place) (sym c.children_now.ensures) ∙ item_seen place c.children_now.result.now in
    let next : IfSome c.match-get.more (λ n. IsSound n.value) → IsUniting eq c.self.inside.bits c.self.inside.depth inv.0 mine c.args.other.now.entries
    (put_or place c.match-get.more now) (behind (drop (i + 1) xs)) c.args.common.now c.match-get.common =
    elim c.match-get.branch [
      | in-None+in_ok-clone-in-None w ↦ λ sound. rw (w.more-is, w.common-is) (next_new law u first at w.in_ok-clone-in-None.field-0.value
          w.in_ok-clone-in-None.ensures.cases (found ∙ ap seen_item (sym w.in-None.ensures)))
      | in-Some+then-is_same_leaf w ↦ λ sound.
          let leaves = subst (λ (n : Trie g.row.K.Denot g.row.V.Denot). AreSameLeaves eq n.entries x.value.entries) w.deref-own.ensures
          (subst (λ (n : Trie g.row.K.Denot g.row.V.Denot). AreSameLeaves eq w.deref-own.result.now.entries n.entries) w.deref-in-Some.ensures
          (w.is_same_leaf.ensures w.if-is_same_leaf.true)) in
          rw (w.more-is, w.common-is) (next_leaf law u first at w.in-Some.own.now.value (found ∙ ap seen_item (sym w.in-Some.ensures)) leaves)
      | in-Some+else-is_same_leaf+in_ok-more-in-Some w ↦ λ sound.
          next_both law u first at w.in-Some.own.now.value (found ∙ ap seen_item (sym w.in-Some.ensures)) c.match-get.more c.match-get.common
          (rw (w.more-is, w.common-is, ← w.deref-own.ensures, ← w.deref-else-is_same_leaf.ensures) w.in_ok-more-in-Some.ensures.ok) sound
    ]
    in (inv.0, rw c.in_ok-put_child-in-Branch-kind.ensures.ok (next c.put_child.ensures.sound))
