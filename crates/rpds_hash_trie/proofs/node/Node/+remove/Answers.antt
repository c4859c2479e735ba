use Rattle.rpds_hash_trie.proofs.Words.{◌≡◌, ℕ, suc, sym, ◌∙◌, ◌≤◌, arith}
use Rattle.rpds_hash_trie.specs.HashTrie.{levels_shared}
use Rattle.rpds_hash_trie.proofs.OpenNodes.{open_branch, open_collision}
use Rattle.rpds_hash_trie.proofs.Child.{HasChild, look_none, look_child, child_is, child_hash_left, child_levels}
use Rattle.rpds_hash_trie.proofs.Counts.{made_above, made_with}
use Rattle.rpds_hash_trie.proofs.NodeRemove.{empty_below, smaller_below, left_is, there_some}
use Rattle.rpds_hash_trie.proofs.node.Node.+remove.Given.{Over}
use Rattle.rpds_hash_trie.proofs.node.Node.+remove.Goals as goal
use Rattle.rpds_hash_trie.proofs.node.Node.+remove.Goals.{After-deref-child}

below : (g : Over) (t : ℕ) (c : After-deref-child g t)
    → HasChild g.Q.HashKey.same (g.Q.HashKey.seen c.args.key) c.args.hash c.self.inside.bits c.self.inside.depth c.place_of-place.result c.args.self.now
    c.in-Branch.children c.in-Some.child.now
below g t c =
    let o = open_branch c.in-Branch.children c.self.view_is c.in-Branch.is c.self.invariant in
    look_child g.Q.HashKey.same (g.Q.HashKey.seen c.args.key) c.args.hash o c.requires.hash_left c.place_of-place.ensures.value (sym c.in-Some.ensures)

-- one level more than below
shares : (g : Over) (t : ℕ) (c : After-deref-child g t)
    → levels_shared g.Q.HashKey.same (g.Q.HashKey.seen c.args.key) c.args.hash c.args.self.now
    ≡ suc (levels_shared g.Q.HashKey.same (g.Q.HashKey.seen c.args.key) c.args.hash c.deref-child.result.now)
shares g t c = (child_is (below g t c) c.deref-child.ensures).shares c.requires.once c.requires.alike

pub remove-requires : goal.remove-requires
remove-requires g t c κs within =
    let a = below g t (goal.at.remove-requires g t c).After-deref-child in
    let same = c.deref-child.ensures in
    let child = child_is a same in (
      omega (arith, c.decreases, child_levels a same),
      (within.0, (within.1.0, (within.1.1.0, (within.1.1.1, (child_hash_left a same c.requires.hash_left, (child.alike c.requires.alike, child.once c.requires.once)))))),
    )

pub place_of-place-requires : goal.place_of-place-requires
place_of-place-requires g t c = record { bits_in = (open_branch c.in-Branch.children c.self.view_is c.in-Branch.is c.self.invariant).sound.bits_in }

pub get-requires : goal.get-requires
get-requires g t c = c.place_of-place.ensures.within

pub overflow_shr-hash_left : goal.overflow_shr-hash_left
overflow_shr-hash_left g t c =
    let o = open_branch c.in-Branch.children c.self.view_is c.in-Branch.is c.self.invariant in
    let most : c.self.inside.bits ≤ 6 = o.sound.bits_in.1 in omega arith

pub returns-in_err-remove-in-Some-clause-made : goal.returns-in_err-remove-in-Some-clause-made
returns-in_err-remove-in-Some-clause-made g t c =
    made_above 1 c.remove.ensures.made (shares g t (goal.at.returns-in_err-remove-in-Some-clause-made g t c).After-deref-child)

pub returns-in-None-clause-ok : goal.returns-in-None-clause-ok
returns-in-None-clause-ok g t c =
    let o = open_branch c.in-Branch.children c.self.view_is c.in-Branch.is c.self.invariant in
    (look_none g.Q.HashKey.same (g.Q.HashKey.seen c.args.key) c.args.hash o c.requires.hash_left c.place_of-place.ensures.value (sym c.in-None.ensures)).absent

pub returns-in-Absent-clause-ok : goal.returns-in-Absent-clause-ok
returns-in-Absent-clause-ok g t c =
    let a = below g t (goal.at.returns-in-Absent-clause-ok g t c).After-deref-child in
    (child_is a c.deref-child.ensures).found_in ∙ rw c.in-Absent.is at c.in_ok-remove-in-Some.ensures.ok

pub returns-in-Absent-clause-made : goal.returns-in-Absent-clause-made
returns-in-Absent-clause-made g t c = made_above 1 c.remove.ensures.made (shares g t (goal.at.returns-in-Absent-clause-made g t c).After-deref-child)

pub without_child-requires-clause-small : goal.without_child-requires-clause-small
without_child-requires-clause-small g t c = c.place_of-place.ensures.within

pub without_child-requires-clause-there : goal.without_child-requires-clause-there
without_child-requires-clause-there g t c = there_some (below g t (goal.at.without_child-requires-clause-there g t c).After-deref-child)

pub without_child-requires-clause-loose : goal.without_child-requires-clause-loose
without_child-requires-clause-loose g t c =
    let a = below g t (goal.at.without_child-requires-clause-loose g t c).After-deref-child in
    (empty_below a c.requires.once c.deref-child.ensures (rw c.in-Empty.is at c.in_ok-remove-in-Some.ensures.ok)).less.loose

pub returns-in_err-left-in-Empty-clause-made : goal.returns-in_err-left-in-Empty-clause-made
returns-in_err-left-in-Empty-clause-made g t c =
    made_with 1 c.remove.ensures.made (shares g t (goal.at.returns-in_err-left-in-Empty-clause-made g t c).After-deref-child) c.without_child.ensures.made

pub returns-in_ok-left-in-Empty-clause-made : goal.returns-in_ok-left-in-Empty-clause-made
returns-in_ok-left-in-Empty-clause-made g t c =
    made_with 1 c.remove.ensures.made (shares g t (goal.at.returns-in_ok-left-in-Empty-clause-made g t c).After-deref-child) c.without_child.ensures.made

pub returns-in_ok-left-in-Empty-clause-ok : goal.returns-in_ok-left-in-Empty-clause-ok
returns-in_ok-left-in-Empty-clause-ok g t c =
    let a = below g t (goal.at.returns-in_ok-left-in-Empty-clause-ok g t c).After-deref-child in
    let less = empty_below a c.requires.once c.deref-child.ensures (rw c.in-Empty.is at c.in_ok-remove-in-Some.ensures.ok) in
    left_is a c.in_ok-left-in-Empty.left less c.in_ok-left-in-Empty.ensures.ok

pub with_less-requires-clause-small : goal.with_less-requires-clause-small
with_less-requires-clause-small g t c = c.place_of-place.ensures.within

pub with_less-requires-clause-loose : goal.with_less-requires-clause-loose
with_less-requires-clause-loose g t c =
    let a = below g t (goal.at.with_less-requires-clause-loose g t c).After-deref-child in
    let left = rw c.in-Left.is at c.in_ok-remove-in-Some.ensures.ok in
    (smaller_below a c.requires.once c.deref-child.ensures left (rw c.deref.ensures at c.prove_sound.ensures)).less.loose

pub returns-in_err-left-in-Left-clause-made : goal.returns-in_err-left-in-Left-clause-made
returns-in_err-left-in-Left-clause-made g t c =
    made_with 1 c.remove.ensures.made (shares g t (goal.at.returns-in_err-left-in-Left-clause-made g t c).After-deref-child) c.with_less.ensures.made

pub returns-in_ok-left-in-Left-clause-made : goal.returns-in_ok-left-in-Left-clause-made
returns-in_ok-left-in-Left-clause-made g t c =
    made_with 1 c.remove.ensures.made (shares g t (goal.at.returns-in_ok-left-in-Left-clause-made g t c).After-deref-child) c.with_less.ensures.made

pub returns-in_ok-left-in-Left-clause-ok : goal.returns-in_ok-left-in-Left-clause-ok
returns-in_ok-left-in-Left-clause-ok g t c =
    let a = below g t (goal.at.returns-in_ok-left-in-Left-clause-ok g t c).After-deref-child in
    let left = rw c.in-Left.is at c.in_ok-remove-in-Some.ensures.ok in
    let less = smaller_below a c.requires.once c.deref-child.ensures left (rw c.deref.ensures at c.prove_sound.ensures) in
    left_is a c.in_ok-left-in-Left.left less c.in_ok-left-in-Left.ensures.ok

pub less_collision-requires-clause-sound : goal.less_collision-requires-clause-sound
less_collision-requires-clause-sound g t c =
    let o = open_collision c.in-Collision.collision c.self.view_is c.in-Collision.is c.self.invariant in rw c.deref-collision.ensures o.sound

pub less_collision-requires-clause-once : goal.less_collision-requires-clause-once
less_collision-requires-clause-once g t c =
    let o = open_collision c.in-Collision.collision c.self.view_is c.in-Collision.is c.self.invariant in
    rw c.deref-collision.ensures (rw o.is at c.requires.once)
