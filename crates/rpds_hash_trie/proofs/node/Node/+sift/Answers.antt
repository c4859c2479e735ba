use Rattle.std.proofs.lemmas.Result.{IfOk-weaker}
use Rattle.rpds_hash_trie.proofs.Words.{◌≡◌, ◌-◌, ◌<◌, ◌^◌, suc, add-one, sym, ap, ◌∙◌, subst, arith, length, item_at, seen, stored, Trie}
use Rattle.rpds_hash_trie.specs.HashTrie.{level_count}
use Rattle.rpds_hash_trie.specs.HashUnion.{CanUnite}
use Rattle.rpds_hash_trie.proofs.OpenNodes.{open_branch, open_collision, open_leaf, item_seen, seen_item}
use Rattle.rpds_hash_trie.proofs.Sifted.{branch_beside, can_turned, sifted_alone}
use Rattle.rpds_hash_trie.proofs.SiftedChildren.{IsSifting, ascend_of, branch_left, child_can, child_falls, child_same, may_be_left, same_open, sift_next, sift_none, sift_skip}
use Rattle.rpds_hash_trie.specs.HashSift.{IsSifted}
use Rattle.rpds_hash_trie.proofs.Children.{under}
use Rattle.rpds_hash_trie.proofs.node.Node.+sift.Goals as goal
use Rattle.rpds_hash_trie.proofs.node.Node.+sift.Goals.{in-None, in-Some-get+in_ok-left-in-Some-get}

pub sift_leaf-requires : goal.sift_leaf-requires
sift_leaf-requires g t c =
    let o = open_leaf c.in-Leaf.entry c.self.view_is c.in-Leaf.is c.self.invariant in
    subst (λ (v : Trie g.row.K.Denot g.row.V.Denot). CanUnite g.K.PartialEq.eq c.args.other.now v.entries c.args.common.now) o.is c.requires.can

pub sift_collision-requires-clause-sound : goal.sift_collision-requires-clause-sound
sift_collision-requires-clause-sound g t c =
    let o = open_collision c.in-Collision.mine c.self.view_is c.in-Collision.is c.self.invariant in rw c.deref-mine.ensures o.sound

pub sift_collision-requires-clause-can : goal.sift_collision-requires-clause-can
sift_collision-requires-clause-can g t c =
    let o = open_collision c.in-Collision.mine c.self.view_is c.in-Collision.is c.self.invariant in
    rw c.deref-mine.ensures (subst (λ (v : Trie g.row.K.Denot g.row.V.Denot). CanUnite g.K.PartialEq.eq c.args.other.now v.entries c.args.common.now) o.is c.requires.can)

pub left_like-requires : goal.left_like-requires
left_like-requires g t c =
    let o = open_branch c.in-Branch.mine c.self.view_is c.in-Branch.is c.self.invariant in
    let q = open_leaf c.in-Leaf-kind.entry c.other.view_is c.in-Leaf-kind.is c.other.invariant in
    let several = o.sound.several in
    can_turned c.args.self.now c.args.other.now (stored c.in-Leaf-kind.entry) c.args.common.now c.requires.can c.requires.bits c.requires.depth
    (ap (λ (v : Trie g.row.K.Denot g.row.V.Denot). v.entries) q.is) (subst (λ (v : Trie g.row.K.Denot g.row.V.Denot). 0 < length v.entries) (sym o.is) (omega (arith, several)))

pub left_without-requires : goal.left_without-requires
left_without-requires g t c =
    let o = open_branch c.in-Branch.mine c.self.view_is c.in-Branch.is c.self.invariant in
    let q = open_leaf c.in-Leaf-kind.entry c.other.view_is c.in-Leaf-kind.is c.other.invariant in
    let several = o.sound.several in
    can_turned c.args.self.now c.args.other.now (stored c.in-Leaf-kind.entry) c.args.common.now c.requires.can c.requires.bits c.requires.depth
    (ap (λ (v : Trie g.row.K.Denot g.row.V.Denot). v.entries) q.is) (subst (λ (v : Trie g.row.K.Denot g.row.V.Denot). 0 < length v.entries) (sym o.is) (omega (arith, several)))

pub degree_of-end-requires : goal.degree_of-end-requires
degree_of-end-requires g t c = (open_branch c.in-Branch.mine c.self.view_is c.in-Branch.is c.self.invariant).sound.bits_in

pub loop-place-init : goal.loop-place-init
loop-place-init g t c =
    sift_none c.args.both (open_branch c.in-Branch.mine c.self.view_is c.in-Branch.is c.self.invariant) c.args.other.now.entries c.args.common.now

pub get-requires : goal.get-requires
get-requires g t c = omega (arith, c.loop-place-test.true, c.degree_of-end.ensures.within)

pub keep_child-requires-clause-small : goal.keep_child-requires-clause-small
keep_child-requires-clause-small g t c = omega (arith, c.loop-place-test.true, c.degree_of-end.ensures.within)

pub keep_child-requires-clause-ascend : goal.keep_child-requires-clause-ascend
keep_child-requires-clause-ascend g t c =
    let o = open_branch c.in-Branch.mine c.self.view_is c.in-Branch.is c.self.invariant in
    ascend_of c.self.inside.bits c.self.inside.depth 0 (seen c.in-Branch.mine) o.sound.children

pub left_branch-requires : goal.left_branch-requires
left_branch-requires g t c =
    let o = open_branch c.in-Branch.mine c.self.view_is c.in-Branch.is c.self.invariant in
    let all : c.loop-place.place ≡ 2 ^ c.self.inside.bits = omega (arith, c.loop-place-test.false, c.loop-place.auto.place-end, c.degree_of-end.ensures.value) in
    may_be_left c.args.both o (subst (λ n. IsSifting g.K.PartialEq.eq c.args.both c.self.inside.bits c.self.inside.depth n (seen c.in-Branch.mine)
    c.args.other.now.entries c.loop-place.kept c.args.common.now c.loop-place.common) all c.loop-place.invariant)

pub returns-after-loop-place : goal.returns-after-loop-place
returns-after-loop-place g t c =
    let o = open_branch c.in-Branch.mine c.self.view_is c.in-Branch.is c.self.invariant in
    let all : c.loop-place.place ≡ 2 ^ c.self.inside.bits = omega (arith, c.loop-place-test.false, c.loop-place.auto.place-end, c.degree_of-end.ensures.value) in
    let sifting = subst (λ n. IsSifting g.K.PartialEq.eq c.args.both c.self.inside.bits c.self.inside.depth n (seen c.in-Branch.mine)
    c.args.other.now.entries c.loop-place.kept c.args.common.now c.loop-place.common) all c.loop-place.invariant in
    IfOk-weaker c.left_branch.result _ _ (λ r is. branch_left c.args.both o sifting r is) c.left_branch.ensures

pub unreachable-requires : goal.unreachable-requires
unreachable-requires g t c =
    let o = open_branch c.in-Branch.mine c.self.view_is c.in-Branch.is c.self.invariant in
    let q = open_collision c.in-Collision-kind.field-0 c.other.view_is c.in-Collision-kind.is c.other.invariant in
    branch_beside o q c.requires.bits c.requires.depth

pub unreachable-unreachable : goal.unreachable-unreachable
unreachable-unreachable g t c = c.unreachable.type_inv

pub loop-place-smaller-in_default : goal.loop-place-smaller-in_default
loop-place-smaller-in_default g t c = omega (arith, c.loop-place-test.true)

pub loop-place-smaller : goal.loop-place-smaller
loop-place-smaller g t c = omega (arith, c.loop-place-test.true)

pub get-requires-in-loop-place : goal.get-requires-in-loop-place
get-requires-in-loop-place g t c = omega (arith, c.loop-place-test.true, c.degree_of-end.ensures.within)

pub loop-place-preserved-in_default : goal.loop-place-preserved-in_default
loop-place-preserved-in_default g t c =
    let eq = g.K.PartialEq.eq in
    let p = c.loop-place.place in
    let bits = c.self.inside.bits in
    let d = c.self.inside.depth in
    let cs = seen c.in-Branch.mine in
    let o = open_branch c.in-Branch.mine c.self.view_is c.in-Branch.is c.self.invariant in
    let q = same_open o (open_branch c.in-Branch-kind.theirs c.other.view_is c.in-Branch-kind.is c.other.invariant) c.requires.bits c.requires.depth in
    let ys = ap (λ (v : Trie g.row.K.Denot g.row.V.Denot). v.entries) q.is in
    let none = item_seen p c.in-Branch.mine ∙ ap seen_item (sym c.in_default.ensures) in
    let now = subst (λ l. IsSifting eq c.args.both bits d p cs l c.loop-place.kept c.args.common.now c.loop-place.common) ys c.loop-place.invariant in
    let next = sift_skip c.args.both p cs (seen c.in-Branch-kind.theirs) o.sound.children q.sound.children now none in
    subst (λ n. IsSifting eq c.args.both bits d n cs c.args.other.now.entries c.loop-place.kept c.args.common.now c.loop-place.common) (sym (add-one p))
    (subst (λ l. IsSifting eq c.args.both bits d (suc p) cs l c.loop-place.kept c.args.common.now c.loop-place.common) (sym ys) next)

pub sift-requires : goal.sift-requires
sift-requires g t c κs within =
    let p = c.loop-place.place in
    let o = open_branch c.in-Branch.mine c.self.view_is c.in-Branch.is c.self.invariant in
    let q = same_open o (open_branch c.in-Branch-kind.theirs c.other.view_is c.in-Branch-kind.is c.other.invariant) c.requires.bits c.requires.depth in
    let mine = item_seen p c.in-Branch.mine ∙ ap seen_item (sym c.in-Some.ensures) in
    let theirs = item_seen p c.in-Branch-kind.theirs ∙ ap seen_item (sym c.in-Some-get.ensures) in
    let can = child_can o q c.requires.can p mine theirs c.loop-place.common c.requires.can.room c.loop-place.invariant.counted in
    let same = child_same o q c.requires.can p mine theirs in
    let falls = child_falls o q c.requires.can p mine theirs in
    let levels : level_count c.args.self.now.bits - c.args.self.now.depth ≡ level_count c.self.inside.bits -
    c.self.inside.depth = ap (λ (n : Trie g.row.K.Denot g.row.V.Denot). level_count n.bits - n.depth) o.is in
    let own = c.deref-own.ensures in
    let like = c.deref-like.ensures in
    rw (own, like) (omega (arith, c.decreases, falls, levels), (within.0, (within.1.0, (within.1.1, (same.0, (same.1, can))))))

pub loop-place-preserved : goal.loop-place-preserved
loop-place-preserved g t c =
    let eq = g.K.PartialEq.eq in
    let both = c.args.both in
    let p = c.loop-place.place in
    let bits = c.self.inside.bits in
    let d = c.self.inside.depth in
    let cs = seen c.in-Branch.mine in
    let ts = seen c.in-Branch-kind.theirs in
    let o = open_branch c.in-Branch.mine c.self.view_is c.in-Branch.is c.self.invariant in
    let q = same_open o (open_branch c.in-Branch-kind.theirs c.other.view_is c.in-Branch-kind.is c.other.invariant) c.requires.bits c.requires.depth in
    let ys = ap (λ (v : Trie g.row.K.Denot g.row.V.Denot). v.entries) q.is in
    let own = c.in-Some.child.now.value in
    let m = c.loop-place.common in
    let there = item_seen p c.in-Branch.mine ∙ ap seen_item (sym c.in-Some.ensures) in
    let theirs = item_seen p c.in-Branch-kind.theirs in
    let sifted : IsSifted eq both own (under (item_at p ts)) c.match-get-2.left m c.match-get-2.common = elim c.match-get-2.branch [
      | in-None w ↦ rw (w.left-is, w.common-is) (subst (λ e. IsSifted eq both own (under e) w.left_beside_none-left.result m m)
          (sym (theirs ∙ ap seen_item (sym w.in-None.ensures))) (sifted_alone eq both own w.left_beside_none-left.result m w.left_beside_none-left.ensures))
      | in-Some-get+in_ok-left-in-Some-get w ↦ rw (w.left-is, w.common-is) (subst
          (λ e. IsSifted eq both own (under e) w.in_ok-left-in-Some-get.left m w.sift.new.common) (sym (theirs ∙ ap seen_item (sym w.in-Some-get.ensures)))
          (rw (← w.deref-own.ensures, ← w.deref-like.ensures) w.in_ok-left-in-Some-get.ensures))
    ] in
    let now = subst (λ l. IsSifting eq both bits d p cs l c.loop-place.kept c.args.common.now m) ys c.loop-place.invariant in
    let next = sift_next both p cs ts o.sound.children q.sound.children now own there c.match-get-2.left c.match-get-2.common sifted c.keep_child.new.kept
    c.in_ok-keep_child-in-Branch-kind.ensures.ok c.keep_child.ensures.sound in
    subst (λ n. IsSifting eq both bits d n cs c.args.other.now.entries c.keep_child.new.kept c.args.common.now c.match-get-2.common) (sym (add-one p))
    (subst (λ l. IsSifting eq both bits d (suc p) cs l c.keep_child.new.kept c.args.common.now c.match-get-2.common) (sym ys) next)
