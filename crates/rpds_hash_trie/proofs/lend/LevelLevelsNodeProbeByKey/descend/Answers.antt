use Rattle.rpds_hash_trie.proofs.Words.{refl, ap, sym, ◌∙◌, Trie, matches, value_of, node_with, told_of}
use Rattle.rpds_hash_trie.proofs.NodeValueMut.{outward}
use Rattle.rpds_hash_trie.proofs.KindValueMut.{levels_seen, kind_sound}
use Rattle.rpds_hash_trie.proofs.lend.LevelLevelsNodeProbeByKey.descend.Goals as goal

pub lend_in_kind-requires : goal.lend_in_kind-requires
lend_in_kind-requires g c =
    let view = c.node.view_is in
    let most = rw (levels_seen c.node.inside.bits c.node.inside.depth c.node.inside.kind view) at c.requires.shallow in
    record { node = c.node.invariant; ready = rw view c.requires.ready; fresh = c.requires.fresh; shallow = most }

pub invariant_of-node-lent : goal.invariant_of-node-lent
invariant_of-node-lent g c = let l = c.lend_in_kind.follows in λ _. (λ w. kind_sound (l.holds w).1, l.holds-at-none.sound)

pub returns : goal.returns
returns g c =
    let t = matches g.Q.HashKey.same (g.Q.HashKey.seen c.args.descent.now.key.key) c.args.descent.now.key.hash in
    let view = c.node.view_is in
    let l = c.lend_in_kind.follows in (
      (refl, λ w. outward (l.holds w) (λ s. s.is ∙ ap (node_with t w) view) (λ s. s.is ∙ view), l.holds-at-none.is ∙ view),
      record {
        writes_back = tt;
        returned = told_of (ap (λ (n : Trie g.row.K.Denot g.row.V.Denot). value_of t n.entries) (sym view)) _ c.lend_in_kind.ensures.returned;
        steps = rw (levels_seen c.node.inside.bits c.node.inside.depth c.node.inside.kind view) c.lend_in_kind.ensures.steps;
      },
    )
