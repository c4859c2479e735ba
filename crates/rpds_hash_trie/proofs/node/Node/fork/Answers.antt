use Rattle.rpds_hash_trie.proofs.Words.{[], ◌∷◌, seen, stored, subst, IsSound}
use Rattle.rpds_hash_trie.proofs.NodeInsert.{IsNewBranch, fork_made, two_seen, branch_node}
use Rattle.rpds_hash_trie.proofs.node.Node.fork.Given.{Over}
use Rattle.rpds_hash_trie.proofs.node.Node.fork.Goals as goal
use Rattle.rpds_hash_trie.proofs.node.Node.fork.Goals.{In_ok-set-2}

-- the children are the two leaves
forked : (g : Over) (c : In_ok-set-2 g) → IsNewBranch c.args.bits c.args.depth (seen c.set-2.new.self) (stored c.args.new ∷ stored c.args.old ∷ [])
forked g c =
    rw (two_seen c.args.old_place c.args.new_place c.in_ok-old_leaf.old_leaf c.in_ok-new_leaf.new_leaf c.in_ok-children.children c.set.new.self c.set-2.new.self c.in_ok-children.ensures c.in_ok-set.ensures.ok c.in_ok-set-2.ensures.ok)
    (fork_made c.args.bits c.args.depth c.requires.bits_in c.requires.deep (stored c.args.old) (stored c.args.new) c.requires.alike c.args.old_place c.args.new_place c.in_ok-old_leaf.old_leaf.value c.in_ok-new_leaf.new_leaf.value
    c.requires.old_is c.requires.new_is c.requires.apart c.in_ok-old_leaf.ensures.ok c.in_ok-new_leaf.ensures.ok (subst IsSound c.deref.ensures c.prove_sound.ensures) (subst IsSound c.deref-2.ensures c.prove_sound-2.ensures))

pub over-requires : goal.over-requires
over-requires g c = (forked g (goal.at.over-requires g c).In_ok-set-2).sound

pub returns-clause-ok : goal.returns-clause-ok
returns-clause-ok g c = branch_node (forked g (goal.at.returns-clause-ok g c).In_ok-set-2) c.over.ensures.value
