use Rattle.rpds_hash_trie.proofs.Words.{◌≡◌, sym, ap, subst, ◌∙◌, Trie, hashes_in, slice_get, Some}
use Rattle.std.specs.Option.{option_copied}
use Rattle.rpds_hash_trie.proofs.OpenNodes.{open_branch}
use Rattle.rpds_hash_trie.proofs.UnitedNodes.{first_below}
use Rattle.rpds_hash_trie.proofs.node.Node.+first_hash.Goals as goal

pub returns-in-Branch : goal.returns-in-Branch
returns-in-Branch g t c =
    let o = open_branch c.in-Branch.children c.self.view_is c.in-Branch.is c.self.invariant in
    let below = subst (λ (n : Trie g.row.K.Denot g.row.V.Denot). slice_get (hashes_in n.entries) 0 ≡ Some c.first_hash.result) c.deref-child.ensures
    c.first_hash.ensures in
    ap (λ (n : Trie g.row.K.Denot g.row.V.Denot). slice_get (hashes_in n.entries) 0) o.is ∙ first_below c.in-Branch.children c.unwrap.result.now
    c.first_hash.result (sym c.first.ensures ∙ ap option_copied c.unwrap.ensures) below
