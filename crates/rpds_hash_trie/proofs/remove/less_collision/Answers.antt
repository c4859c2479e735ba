use Rattle.rpds_hash_trie.proofs.Words.{◌≤◌, arith, length, nil_from_length, matches}
use Rattle.rpds_hash_trie.proofs.NodeRemove.{IsRest, collision_none, left_some, rest_of, rest_sound, rest_leaf, rest_collision, zero_from, some_from}
use Rattle.rpds_hash_trie.proofs.remove.less_collision.Given.{Over}
use Rattle.rpds_hash_trie.proofs.remove.less_collision.Goals as goal
use Rattle.rpds_hash_trie.proofs.remove.less_collision.Goals.{After-remove-front}

rest : (g : Over) (c : After-remove-front g)
    → IsRest (matches g.Q.HashKey.same (g.Q.HashKey.seen c.args.key) c.args.hash) c.args.bits c.args.depth c.args.collision.now c.remove-front.result c.remove-front.new.self.items
rest g c =
    let old = c.args.collision.now in
    let left = c.in_ok-left.left in
    let kept = rw c.deref.ensures.value at c.in_ok-left.ensures in
    let few : length left.items ≤ length old.others.items = omega (arith, c.len.ensures, c.len-2.ensures, c.if-len.false, left.ok.0, old.others.ok.0) in
    rest_of _ old left.items c.requires.sound c.requires.once kept few c.remove-front.ensures.value c.remove-front.ensures.items

pub returns-then-len-clause-ok : goal.returns-then-len-clause-ok
returns-then-len-clause-ok g c =
    let old = c.args.collision.now in
    let left = c.in_ok-left.left in
    let kept = rw c.deref.ensures.value at c.in_ok-left.ensures in
    collision_none (matches g.Q.HashKey.same (g.Q.HashKey.seen c.args.key) c.args.hash) old left.items kept
    (omega (arith, c.len.ensures, c.len-2.ensures, c.if-len.true, left.ok.0, old.others.ok.0))

pub remove-front-requires : goal.remove-front-requires
remove-front-requires g c =
    let left = c.in_ok-left.left in
    let kept = rw c.deref.ensures.value at c.in_ok-left.ensures in
    let some =
    left_some (matches g.Q.HashKey.same (g.Q.HashKey.seen c.args.key) c.args.hash) c.args.collision.now left.items kept c.requires.sound.several c.requires.once
    in
    omega (arith, some, left.ok.0)

pub collision-requires : goal.collision-requires
collision-requires g c =
    let some = some_from _ _ c.is_empty.ensures c.if-is_empty.false in
    rest_sound (rest g (goal.at.collision-requires g c).After-remove-front) (omega (arith, some, c.remove-front.new.self.ok.0))

pub returns-in_ok-leaf-clause-ok : goal.returns-in_ok-leaf-clause-ok
returns-in_ok-leaf-clause-ok g c =
    let later = c.remove-front.new.self in
    let none = nil_from_length later.items (omega (arith, zero_from _ _ c.is_empty.ensures c.if-is_empty.true, later.ok.0)) in
    rest_leaf (rest g (goal.at.returns-in_ok-leaf-clause-ok g c).After-remove-front) c.in_ok-leaf.leaf none c.in_ok-leaf.ensures.ok

pub returns-in_ok-fewer-clause-ok : goal.returns-in_ok-fewer-clause-ok
returns-in_ok-fewer-clause-ok g c =
    rest_collision (rest g (goal.at.returns-in_ok-fewer-clause-ok g c).After-remove-front) c.in_ok-fewer.fewer c.in_ok-fewer.ensures.ok
