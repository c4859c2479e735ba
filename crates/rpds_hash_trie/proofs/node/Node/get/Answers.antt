use Rattle.rpds_hash_trie.proofs.Words.{rules, ◌≡◌, None, sym, ap, ◌∙◌, arith, matches, found, stored}
use Rattle.rpds_hash_trie.proofs.OpenNodes.{open_branch, open_leaf, bits_alike}
use Rattle.rpds_hash_trie.proofs.Child.{HasChild, look_none, look_child, child_is, child_hash_left, child_levels}
use Rattle.rpds_hash_trie.proofs.LookUp.{digit_same, left_same, alone_shared, next_way}
use Rattle.rpds_hash_trie.proofs.node.Node.get.Given.{Over}
use Rattle.rpds_hash_trie.proofs.node.Node.get.Goals as goal
use Rattle.rpds_hash_trie.proofs.node.Node.get.Goals.{After-place_of, In-None, After-deref-node}

bits_are : (g : Over) (c : After-place_of g) → c.self.inside.bits ≡ c.node.inside.bits
bits_are g c =
    let top = c.self.inside in
    let node = c.node.inside in
    bits_alike top.bits top.depth top.kind node.bits node.depth node.kind c.self.view_is c.node.view_is c.loop-node.invariant.bits_same

absent : (g : Over) (c : In-None g) → c.self.inside.bits ≡ c.node.inside.bits
    → found (matches g.Q.HashKey.same (g.Q.HashKey.seen c.args.key) c.args.hash) c.args.self.now.entries ≡ None
absent g c same =
    let w = c.loop-node.invariant in
    let o = open_branch c.in-Branch.children c.node.view_is c.in-Branch.is c.node.invariant in
    let place = digit_same c.loop-node.hash_left c.place_of.result same c.place_of.ensures.value in
    w.found_in ∙ (look_none g.Q.HashKey.same (g.Q.HashKey.seen c.args.key) c.args.hash o w.hash_left_is place (sym c.in-None.ensures)).absent

below : (g : Over) (c : After-deref-node g) → c.self.inside.bits ≡ c.node.inside.bits
    → HasChild g.Q.HashKey.same (g.Q.HashKey.seen c.args.key) c.args.hash c.node.inside.bits c.node.inside.depth c.place_of.result c.loop-node.node.now
    c.in-Branch.children c.in-Some.child.now
below g c same =
    let w = c.loop-node.invariant in
    let o = open_branch c.in-Branch.children c.node.view_is c.in-Branch.is c.node.invariant in
    let place = digit_same c.loop-node.hash_left c.place_of.result same c.place_of.ensures.value in
    look_child g.Q.HashKey.same (g.Q.HashKey.seen c.args.key) c.args.hash o w.hash_left_is place (sym c.in-Some.ensures)

pub returns-in-None-clause-found : goal.returns-in-None-clause-found
returns-in-None-clause-found g c =
    let at = goal.at.returns-in-None-clause-found g c in
    sym (absent g at.In-None (bits_are g at.After-place_of))

pub returns-in-None-clause-counts : goal.returns-in-None-clause-counts
returns-in-None-clause-counts g c =
    let at = goal.at.returns-in-None-clause-counts g c in
    rw (absent g at.In-None (bits_are g at.After-place_of)) (search rules)

pub loop-node-smaller : goal.loop-node-smaller
loop-node-smaller g c =
    let at = goal.at.loop-node-smaller g c in
    omega (arith, child_levels (below g at.After-deref-node (bits_are g at.After-place_of)) c.deref-node.ensures)

pub loop-node-preserved : goal.loop-node-preserved
loop-node-preserved g c =
    let at = goal.at.loop-node-preserved g c in
    let bits = bits_are g at.After-place_of in
    let a = below g at.After-deref-node bits in
    let same = c.deref-node.ensures in
    let l = c.loop-node in
    let left = left_same l.hash_left bits ∙ child_hash_left a same l.invariant.hash_left_is in
    next_way g.Q.HashKey.same (g.Q.HashKey.seen c.args.key) c.args.hash c.args.self.now l.node.now l.hash_left c.args.steps.now l.steps c.raise_visited.new.self
    l.invariant c.raise_visited.ensures _ _ (child_is a same) left

pub returns-then-matches_counted-clause-counts : goal.returns-then-matches_counted-clause-counts
returns-then-matches_counted-clause-counts g c =
    let o = open_leaf c.in-Leaf.entry c.node.view_is c.in-Leaf.is c.node.invariant in
    let hit = sym c.matches_counted.ensures.value ∙ c.if-matches_counted.true in
    let alone =
    alone_shared g.Q.HashKey.same (g.Q.HashKey.seen c.args.key) c.args.hash c.loop-node.node.now (stored c.in-Leaf.entry) (ap (λ v. v.entries) o.is) hit
    in
    search rules
