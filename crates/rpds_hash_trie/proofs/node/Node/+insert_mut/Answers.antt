use Rattle.rpds_hash_trie.proofs.Words.{ℕ, sym, ◌∙◌, ◌≡◌, refl, ◌<◌, ◌^◌, arith, subst, Entry, matches, stored, either_same}
use Rattle.rpds_hash_trie.proofs.OpenNodes.{open_branch, open_leaf, open_collision}
use Rattle.rpds_hash_trie.proofs.Child.{HasChild, look_none, look_child, child_is, child_hash_left, child_levels}
use Rattle.rpds_hash_trie.proofs.NodeValueMut.{child_stays}
use Rattle.rpds_hash_trie.proofs.Collisions.{colliding_err, put_sound, put_among}
use Rattle.rpds_hash_trie.proofs.NodeInsertMut.{HasPut, on_err, leaf_put, put_below}
use Rattle.rpds_hash_trie.proofs.NodeInsert.{branch_leaf, leaf_put_in}
use Rattle.std.proofs.lemmas.Grind.{common_steps}
use Rattle.rpds_hash_trie.proofs.node.Node.+insert_mut.Given.{Over}
use Rattle.rpds_hash_trie.proofs.node.Node.+insert_mut.Goals as goal
use Rattle.rpds_hash_trie.proofs.node.Node.+insert_mut.Goals.{In-Some, In_err-child-in-Some, In_ok-child-in-Some, Joined-get_mut, in-None, in-Some+in_ok-child-in-Some}

below : (g : Over) (t : ℕ) (c : In-Some g t) → HasChild g.K.PartialEq.eq c.args.entry.entry.value.key c.args.entry.key_hash c.self.inside.bits c.self.inside.depth c.place_of-place.result c.args.self.now c.in-Branch.children c.in-Some.child.now
below g t c = look_child g.K.PartialEq.eq c.args.entry.entry.value.key c.args.entry.key_hash (open_branch c.in-Branch.children c.self.view_is c.in-Branch.is c.self.invariant) c.requires.hash_left c.place_of-place.ensures.value (sym c.in-Some.ensures.found)

-- where the child can't be made the node's own, it stays
stays : (g : Over) (t : ℕ) (c : In_err-child-in-Some g t) → c.own.follows.lender-at-none.value ≡ c.in-Some.child.now.value
stays g t c = either_same (λ x. x) (rw c.in_err-child-in-Some.was at c.own.follows.holds-at-none)

-- else it is the same
own_child : (g : Over) (t : ℕ) (c : In_ok-child-in-Some g t) → c.in_ok-child-in-Some.child.now ≡ c.in-Some.child.now.value
own_child g t c = either_same (λ x. x) c.in_ok-child-in-Some.ensures.value

pub invariant_of-self : goal.invariant_of-self
invariant_of-self g t c =
    let at = goal.at.invariant_of-self g t c in
    (child_stays (below g t at.In-Some) c.own.follows.lender-at-none (stays g t at.In_err-child-in-Some)).sound

pub returns-in_err-child-in-Some-clause-err : goal.returns-in_err-child-in-Some-clause-err
returns-in_err-child-in-Some-clause-err g t c =
    let at = goal.at.returns-in_err-child-in-Some-clause-err g t c in
    on_err c.from_residual.result (child_stays (below g t at.In-Some) c.own.follows.lender-at-none (stays g t at.In_err-child-in-Some)).is

pub insert_mut-added-requires : goal.insert_mut-added-requires
insert_mut-added-requires g t c κs within =
    let at = goal.at.insert_mut-added-requires g t c in
    let same = own_child g t at.In_ok-child-in-Some in
    let a = below g t at.In-Some in
    (omega (arith, c.decreases, child_levels a same), (within.0, (within.1.0, (within.1.1, (child_hash_left a same c.requires.hash_left, ((child_is a same).alike c.requires.alike, (child_is a same).once c.requires.once))))))

-- what the branch is in the end, and what is answered
grown : (g : Over) (t : ℕ) (c : Joined-get_mut g t) → HasPut (matches g.K.PartialEq.eq c.args.entry.entry.value.key c.args.entry.key_hash) (stored c.args.entry) c.args.self.now c.match-get_mut.self-inside.bits c.match-get_mut.self-inside.depth c.match-get_mut.self-inside.kind c.match-get_mut.result
grown g t c =
    let eq = g.K.PartialEq.eq in
    let k = c.args.entry.entry.value.key in
    let x = c.args.entry.entry.value.value in
    let h = c.args.entry.key_hash in
    let o = open_branch c.in-Branch.children c.self.view_is c.in-Branch.is c.self.invariant in
    elim c.match-get_mut.branch [
      | in-None w ↦
          let a = look_none eq k h o c.requires.hash_left c.place_of-place.ensures.value (sym w.in-None.ensures.found) in
          rw (w.result-is, w.self-inside-is) (leaf_put x a c.requires.alike c.requires.once w.put_leaf.new.children w.put_leaf.result w.put_leaf.ensures.fresh w.put_leaf.ensures.ok w.put_leaf.ensures.err)
      | in-Some+in_ok-child-in-Some w ↦
          let a = look_child eq k h o c.requires.hash_left c.place_of-place.ensures.value (sym w.in-Some.ensures.found) in
          let same = either_same (λ x. x) w.in_ok-child-in-Some.ensures.value in
          let holds = w.own.follows.holds w.insert_mut-added.new.self (rw w.in_ok-child-in-Some.was refl) in
          rw (w.result-is, w.self-inside-is) (put_below x a c.requires.alike c.requires.once same _ holds w.prove_sound.ensures w.insert_mut-added.result w.insert_mut-added.ensures.ok w.insert_mut-added.ensures.err)
    ]

pub invariant_of-self-in-Branch : goal.invariant_of-self-in-Branch
invariant_of-self-in-Branch g t c = (grown g t (goal.at.invariant_of-self-in-Branch g t c).Joined-get_mut).sound

pub returns-after-get_mut-clause-ok : goal.returns-after-get_mut-clause-ok
returns-after-get_mut-clause-ok g t c = (grown g t (goal.at.returns-after-get_mut-clause-ok g t c).Joined-get_mut).ok

pub returns-after-get_mut-clause-err : goal.returns-after-get_mut-clause-err
returns-after-get_mut-clause-err g t c = (grown g t (goal.at.returns-after-get_mut-clause-err g t c).Joined-get_mut).err

pub returns-then-matches-clause-ok : goal.returns-then-matches-clause-ok
returns-then-matches-clause-ok g t c =
    let eq = g.K.PartialEq.eq in
    let k = c.args.entry.entry.value.key in
    let h = c.args.entry.key_hash in
    let o = open_leaf c.in-Leaf.old c.self.view_is c.in-Leaf.is c.self.invariant in
    let test = subst (λ (e : Entry g.row.K.Denot g.row.V.Denot). c.matches.result ≡ matches {V = g.row.V.Denot} eq e.key h (stored c.in-Leaf.old)) c.deref.ensures c.matches.ensures in
    leaf_put_in (matches eq k h) c.self.inside.bits c.self.inside.depth c.args.self.now (stored c.in-Leaf.old) (stored c.args.entry) o (sym test ∙ c.if-matches.true)

pub invariant_of-self-in-Collision : goal.invariant_of-self-in-Collision
invariant_of-self-in-Collision g t c =
    let rc = c.in-Collision.collision in
    let o = open_collision rc c.self.view_is c.in-Collision.is c.self.invariant in
    let hl : c.args.entry.key_hash < 2 ^ 64 = omega arith in
    put_sound c.self.inside.bits c.self.inside.depth c.args.self.now rc.value c.put_colliding.new.collision.value o g.K.PartialEq.eq (stored c.args.entry) c.requires.once c.put_colliding.result c.put_colliding.ensures.ok c.put_colliding.ensures.err c.put_colliding.ensures.range hl c.requires.alike

pub returns-in-Collision-clause-ok : goal.returns-in-Collision-clause-ok
returns-in-Collision-clause-ok g t c =
    let rc = c.in-Collision.collision in
    let o = open_collision rc c.self.view_is c.in-Collision.is c.self.invariant in
    put_among c.self.inside.bits c.self.inside.depth c.args.self.now rc.value c.put_colliding.new.collision.value o g.K.PartialEq.eq (stored c.args.entry) c.requires.once c.put_colliding.result c.put_colliding.ensures.ok

pub returns-in-Collision-clause-err : goal.returns-in-Collision-clause-err
returns-in-Collision-clause-err g t c =
    let rc = c.in-Collision.collision in
    let o = open_collision rc c.self.view_is c.in-Collision.is c.self.invariant in
    colliding_err c.self.inside.bits c.self.inside.depth c.args.self.now rc.value c.put_colliding.new.collision.value o c.put_colliding.result c.put_colliding.ensures.err

pub put_leaf-requires-clause-fits : goal.put_leaf-requires-clause-fits
put_leaf-requires-clause-fits g t c = branch_leaf (open_branch c.in-Branch.children c.self.view_is c.in-Branch.is c.self.invariant).sound

pub invariant_of-self-then-matches : goal.invariant_of-self-then-matches
invariant_of-self-then-matches g t c = (open_leaf c.in-Leaf.old c.self.view_is c.in-Leaf.is c.self.invariant).sound

pub invariant_of-self-in_err-parted-in-Leaf : goal.invariant_of-self-in_err-parted-in-Leaf
invariant_of-self-in_err-parted-in-Leaf g t c = (open_leaf c.in-Leaf.old c.self.view_is c.in-Leaf.is c.self.invariant).sound

pub invariant_of-self-in-Leaf : goal.invariant_of-self-in-Leaf
invariant_of-self-in-Leaf g t c = grind (arith, common_steps)
