use Rattle.rpds_hash_trie.proofs.Words.{◌≡◌, sym, ap, subst, Entry, Trie, matches, stored, ◌∙◌}
use Rattle.rpds_hash_trie.proofs.OpenNodes.{open_leaf}
use Rattle.rpds_hash_trie.proofs.node.Node.is_same_leaf.Goals as goal

pub returns-in-Leaf-Leaf : goal.returns-in-Leaf-Leaf
returns-in-Leaf-Leaf g c = λ same.
    let mine = open_leaf c.in-Leaf-Leaf.mine c.self.view_is c.in-Leaf-Leaf.is-0 c.self.invariant in
    let theirs = open_leaf c.in-Leaf-Leaf.theirs c.other.view_is c.in-Leaf-Leaf.is-1 c.other.invariant in
    let test = subst (λ (e : Entry g.row.K.Denot g.row.V.Denot). c.matches.result ≡ matches {V = g.row.V.Denot} g.K.PartialEq.eq e.key
    c.in-Leaf-Leaf.theirs.key_hash (stored c.in-Leaf-Leaf.mine)) c.deref.ensures c.matches.ensures in
    record {
      mine = stored c.in-Leaf-Leaf.mine;
      theirs = stored c.in-Leaf-Leaf.theirs;
      mine_is = ap (λ (t : Trie g.row.K.Denot g.row.V.Denot). t.entries) mine.is;
      theirs_is = ap (λ (t : Trie g.row.K.Denot g.row.V.Denot). t.entries) theirs.is;
      same = sym test ∙ same;
    }
