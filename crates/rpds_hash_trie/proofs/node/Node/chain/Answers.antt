use Rattle.rpds_hash_trie.proofs.Words.{◌≡◌, ◌∷◌, [], sym, subst, ap, ◌∙◌, seen, Trie, IsBranch, branch_of}
use Rattle.std.proofs.Common.{ℕ, List}
use Rattle.rpds_hash_trie.proofs.NodeInsert.{one_seen}
use Rattle.rpds_hash_trie.proofs.node.Node.chain.Given.{Over}
use Rattle.rpds_hash_trie.proofs.node.Node.chain.Goals as goal
use Rattle.rpds_hash_trie.proofs.node.Node.chain.Goals.{In_ok-set}

-- the one child
held : (g : Over) (c : In_ok-set g) → seen c.set.new.self ≡ (c.args.place, c.args.child) ∷ []
held g c =
    one_seen c.args.place c.in_ok-child.child c.in_ok-children.children c.set.new.self c.in_ok-children.ensures c.in_ok-set.ensures.ok
    ∙ ap (λ (n : Trie g.row.K.Denot g.row.V.Denot). (c.args.place, n) ∷ []) c.in_ok-child.ensures.ok

pub over-requires : goal.over-requires
over-requires g c = subst (λ (cs : List (ℕ × Trie g.row.K.Denot g.row.V.Denot)). IsBranch c.args.bits c.args.depth cs)
    (sym (held g (goal.at.over-requires g c).In_ok-set)) c.requires.sound

pub returns-clause-ok : goal.returns-clause-ok
returns-clause-ok g c = c.over.ensures.value ∙ ap (λ (cs : List (ℕ × Trie g.row.K.Denot g.row.V.Denot)). branch_of c.args.bits c.args.depth cs)
    (held g (goal.at.returns-clause-ok g c).In_ok-set)
