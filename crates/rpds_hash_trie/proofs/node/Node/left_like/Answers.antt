use Rattle.rpds_hash_trie.proofs.Words.{sym, ap, ◌∙◌, arith, leaf_of, stored}
use Rattle.rpds_hash_trie.proofs.Sifted.{leaf_as, leaf_in, like_counted, like_none, like_one}
use Rattle.rpds_hash_trie.proofs.node.Node.left_like.Goals as goal

pub overflow_add-common : goal.overflow_add-common
overflow_add-common g c = let room = c.requires.room in omega (arith, room)

pub leaf-requires : goal.leaf-requires
leaf-requires g c = leaf_in c.self.inside.bits c.self.inside.depth c.self.inside.kind c.self.view_is c.prove_sound.ensures

pub returns-in-None : goal.returns-in-None
returns-in-None g c = like_none g.met.K.Eq.laws (stored c.args.entry.now) c.args.self.now c.args.common.now c.requires.once (sym c.in-None.ensures)

pub returns-in_ok-leaf-in-Some : goal.returns-in_ok-leaf-in-Some
returns-in_ok-leaf-in-Some g c =
    let v = c.args.self.now in
    let e = stored c.args.entry.now in
    let y = stored c.in-Some.like.now in
    let one = like_one g.met.K.Eq.laws e v c.args.common.now c.requires.once y (sym c.in-Some.ensures) in
    record {
      rest = c.in_ok-leaf-in-Some.ensures.ok ∙ ap (leaf_of c.self.inside.bits c.self.inside.depth) c.in_ok-share-in-Some.ensures
          ∙ leaf_as c.self.inside.bits c.self.inside.depth c.self.inside.kind c.self.view_is y ∙ (λ i. record v { entries = sym one i });
      counted = like_counted g.met.K.Eq.laws e v c.args.common.now c.requires.once y (sym c.in-Some.ensures);
    }
