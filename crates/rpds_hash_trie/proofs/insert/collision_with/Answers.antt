use Rattle.rpds_hash_trie.proofs.Words.{◌≡◌, ◌<◌, ◌^◌, arith, length, map, refl, subst, IfOk-weaker, Entry, matches, unmatched, shown, stored, collision_of}
use Rattle.rpds_hash_trie.proofs.OpenNodes.{IsOpenCollision}
use Rattle.rpds_hash_trie.proofs.NodeInsert.{collision_put_in, put_as, collision_kept, collision_fresh}
use Rattle.rpds_hash_trie.proofs.insert.collision_with.Given.{Over}
use Rattle.rpds_hash_trie.proofs.insert.collision_with.Goals as goal
use Rattle.rpds_hash_trie.proofs.insert.collision_with.Goals.{In_ok-rest}

held : (g : Over) (c : In_ok-rest g) → IsOpenCollision (collision_of c.args.bits c.args.depth (stored c.args.collision.now.front) (map stored c.args.collision.now.others.items)) c.args.bits c.args.depth (stored c.args.collision.now.front) (map stored c.args.collision.now.others.items)
held g c = record { is = refl; sound = c.requires.sound }

-- what others_of keeps of the collision
others : (g : Over) (c : In_ok-rest g) → unmatched (matches g.K.PartialEq.eq c.args.entry.entry.value.key c.args.entry.key_hash) (shown c.args.collision.now) ≡ map stored c.in_ok-rest.rest.items
others g c =
    let kept = rw c.deref.ensures.value at c.in_ok-rest.ensures in
    subst (λ (e : Entry g.row.K.Denot g.row.V.Denot). unmatched (matches {V = g.row.V.Denot} g.K.PartialEq.eq e.key c.args.entry.key_hash) (shown c.args.collision.now) ≡ map stored c.in_ok-rest.rest.items) c.deref-2.ensures kept

pub collision-requires : goal.collision-requires
collision-requires g c =
    let at = (goal.at.collision-requires g c).In_ok-rest in
    let all = c.args.collision.now in
    let fl : all.front.key_hash < 2 ^ 64 = omega arith in
    let hl : c.args.entry.key_hash < 2 ^ 64 = omega arith in
    collision_kept g.K.PartialEq.eq c.args.entry.entry.value.key c.args.entry.key_hash c.args.bits c.args.depth _ (stored all.front) (map stored all.others.items) _ (held g at) fl hl c.requires.alike c.requires.once (others g at)

pub returns-clause-ok : goal.returns-clause-ok
returns-clause-ok g c =
    let at = (goal.at.returns-clause-ok g c).In_ok-rest in
    let test = matches {V = g.row.V.Denot} g.K.PartialEq.eq c.args.entry.entry.value.key c.args.entry.key_hash in
    let all = c.args.collision.now in
    let rest = c.in_ok-rest.rest in
    let o = held g at in
    let kept = others g at in
    let few : c.len-2.result ≡ length all.others.items = omega (arith, c.len-2.ensures, all.others.ok.0) in
    let many : c.len.result ≡ length rest.items = omega (arith, c.len.ensures, rest.ok.0) in
    let fresh = collision_fresh test c.args.bits c.args.depth _ (stored all.front) all.others.items rest.items o kept c.len-2.result c.len.result few many in
    IfOk-weaker _ _ _ (λ n made. put_as (collision_put_in test _ _ _ (stored all.front) (stored c.args.entry) (map stored all.others.items) (map stored rest.items) o kept fresh) n made) c.collision.ensures.ok
