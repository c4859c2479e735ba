use Rattle.rpds_hash_trie.proofs.Words.{ℕ, length, sym, ap, ◌∙◌, ◌≡◌, ◌+◌, ◌≤◌, arith, subst, is_none, IfOk-weaker, ◌∷◌, refl, Entry, Trie, AllAgree, IsSound, matches, unmatched, stored, leaf_of, put_at, seen}
use Rattle.rpds_hash_trie.proofs.OpenNodes.{open_branch, open_leaf, open_collision}
use Rattle.rpds_hash_trie.proofs.Child.{HasChild, HasNoChild, look_none, look_child, child_is, child_hash_left, child_levels}
use Rattle.rpds_hash_trie.proofs.Order.{leaf_sound}
use Rattle.rpds_hash_trie.proofs.Counts.{made_above, made_with}
use Rattle.rpds_hash_trie.proofs.NodeInsert.{IsNewBranch, branch_leaf, put_first, put_changed, branch_put_in, leaf_put_in, put_as}
use Rattle.rpds_hash_trie.proofs.node.Node.+insert.Given.{Over}
use Rattle.rpds_hash_trie.proofs.node.Node.+insert.Goals as goal
use Rattle.rpds_hash_trie.proofs.node.Node.+insert.Goals.{In-None, In-Some}

beside : (g : Over) (t : ℕ) (c : In-None g t) → HasNoChild g.K.PartialEq.eq c.args.entry.entry.value.key c.args.entry.key_hash c.self.inside.bits c.self.inside.depth c.place_of-place.result c.args.self.now c.in-Branch.children
beside g t c = look_none g.K.PartialEq.eq c.args.entry.entry.value.key c.args.entry.key_hash (open_branch c.in-Branch.children c.self.view_is c.in-Branch.is c.self.invariant) c.requires.hash_left c.place_of-place.ensures.value (sym c.in-None.ensures)

below : (g : Over) (t : ℕ) (c : In-Some g t) → HasChild g.K.PartialEq.eq c.args.entry.entry.value.key c.args.entry.key_hash c.self.inside.bits c.self.inside.depth c.place_of-place.result c.args.self.now c.in-Branch.children c.in-Some.child.now
below g t c = look_child g.K.PartialEq.eq c.args.entry.entry.value.key c.args.entry.key_hash (open_branch c.in-Branch.children c.self.view_is c.in-Branch.is c.self.invariant) c.requires.hash_left c.place_of-place.ensures.value (sym c.in-Some.ensures)

-- with the leaf of the entry
leaf_new : (g : Over) (t : ℕ) (c : In-None g t) → IsNewBranch c.self.inside.bits c.self.inside.depth (put_at c.place_of-place.result (leaf_of c.self.inside.bits (c.self.inside.depth + 1) (stored c.args.entry)) (seen c.in-Branch.children)) (stored c.args.entry ∷ unmatched (matches g.K.PartialEq.eq c.args.entry.entry.value.key c.args.entry.key_hash) c.args.self.now.entries)
leaf_new g t c = let a = beside g t c in put_first c.args.entry.entry.value.value a c.requires.alike c.requires.once refl (leaf_sound _ _ _ (branch_leaf a.opened.sound))

pub with_leaf-requires-clause-sound : goal.with_leaf-requires-clause-sound
with_leaf-requires-clause-sound g t c = (leaf_new g t (goal.at.with_leaf-requires-clause-sound g t c).In-None).sound

pub returns-in-None-clause-ok : goal.returns-in-None-clause-ok
returns-in-None-clause-ok g t c =
    let a = beside g t (goal.at.returns-in-None-clause-ok g t c).In-None in
    IfOk-weaker _ _ _ (λ n made. put_as (branch_put_in a.opened (leaf_new g t (goal.at.returns-in-None-clause-ok g t c).In-None) (ap is_none (sym a.absent))) n made) c.with_leaf.ensures.ok

pub insert-requires : goal.insert-requires
insert-requires g t c κs within =
    let a = below g t (goal.at.insert-requires g t c).In-Some in
    let same = c.deref-child.ensures in
    let i = child_is a same in
    (omega (arith, c.decreases, child_levels a same), (within.0, (within.1.0, (within.1.1, (child_hash_left a same c.requires.hash_left, (i.alike c.requires.alike, i.once c.requires.once))))))

pub returns-in_err-changed-in-Some-clause-made : goal.returns-in_err-changed-in-Some-clause-made
returns-in_err-changed-in-Some-clause-made g t c = made_above 2 c.insert.ensures.made ((child_is (below g t (goal.at.returns-in_err-changed-in-Some-clause-made g t c).In-Some) c.deref-child.ensures).shares c.requires.once c.requires.alike)

pub with_child-requires-clause-sound : goal.with_child-requires-clause-sound
with_child-requires-clause-sound g t c =
    let a = below g t (goal.at.with_child-requires-clause-sound g t c).In-Some in
    let p = c.in_ok-changed-in-Some.ensures.ok in
    (put_changed c.args.entry.entry.value.value a c.requires.alike c.requires.once c.deref-child.ensures p.entries p.bits p.depth (subst IsSound c.deref.ensures c.prove_sound.ensures)).sound

pub returns-in_ok-changed-in-Some-clause-ok : goal.returns-in_ok-changed-in-Some-clause-ok
returns-in_ok-changed-in-Some-clause-ok g t c =
    let a = below g t (goal.at.returns-in_ok-changed-in-Some-clause-ok g t c).In-Some in
    let same = c.deref-child.ensures in
    let p = c.in_ok-changed-in-Some.ensures.ok in
    let new = put_changed c.args.entry.entry.value.value a c.requires.alike c.requires.once same p.entries p.bits p.depth (subst IsSound c.deref.ensures c.prove_sound.ensures) in
    IfOk-weaker _ _ _ (λ n made. put_as (branch_put_in a.opened new (p.fresh ∙ ap is_none (sym (child_is a same).found_in))) n made) c.with_child.ensures.ok

pub returns-in_ok-changed-in-Some-clause-made : goal.returns-in_ok-changed-in-Some-clause-made
returns-in_ok-changed-in-Some-clause-made g t c =
    made_with 2 c.insert.ensures.made ((child_is (below g t (goal.at.returns-in_ok-changed-in-Some-clause-made g t c).In-Some) c.deref-child.ensures).shares c.requires.once c.requires.alike) c.with_child.ensures.made

pub returns-then-matches-clause-ok : goal.returns-then-matches-clause-ok
returns-then-matches-clause-ok g t c =
    let o = open_leaf c.in-Leaf.old c.self.view_is c.in-Leaf.is c.self.invariant in
    let test = subst (λ (e : Entry g.row.K.Denot g.row.V.Denot). c.matches.result ≡ matches {V = g.row.V.Denot} g.K.PartialEq.eq e.key c.args.entry.key_hash (stored c.in-Leaf.old)) c.deref-in-Leaf.ensures c.matches.ensures in
    IfOk-weaker _ _ _ (λ n made. put_as (leaf_put_in _ _ _ _ _ (stored c.args.entry) o (sym test ∙ c.if-matches.true)) n made) c.leaf.ensures.ok

pub collision_with-requires-clause-sound : goal.collision_with-requires-clause-sound
collision_with-requires-clause-sound g t c = rw c.deref-collision.ensures (open_collision c.in-Collision.collision c.self.view_is c.in-Collision.is c.self.invariant).sound

pub collision_with-requires-clause-alike : goal.collision_with-requires-clause-alike
collision_with-requires-clause-alike g t c =
    rw c.deref-collision.ensures (subst (λ (x : Trie g.row.K.Denot g.row.V.Denot). AllAgree x.bits x.depth c.args.entry.key_hash x.entries) (open_collision c.in-Collision.collision c.self.view_is c.in-Collision.is c.self.invariant).is c.requires.alike)

pub collision_with-requires-clause-once : goal.collision_with-requires-clause-once
collision_with-requires-clause-once g t c =
    rw c.deref-collision.ensures (subst (λ (x : Trie g.row.K.Denot g.row.V.Denot). length x.entries ≤ length (unmatched (matches g.K.PartialEq.eq c.args.entry.entry.value.key c.args.entry.key_hash) x.entries) + 1) (open_collision c.in-Collision.collision c.self.view_is c.in-Collision.is c.self.invariant).is c.requires.once)
