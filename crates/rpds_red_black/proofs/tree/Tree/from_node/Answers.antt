use Rattle.rpds_red_black.proofs.Words.{rules, ◌≡◌, arith, common_steps}
use Rattle.rpds_red_black.proofs.Insertion.{whole}
use Rattle.rpds_red_black.proofs.tree.Tree.from_node.Goals as goal

pub returns-clause-ok : goal.returns-clause-ok
returns-clause-ok g c = grind (arith, common_steps)

pub returns-clause-steps : goal.returns-clause-steps
returns-clause-steps g c = grind (arith, common_steps)

pub invariant_of-result : goal.invariant_of-result
invariant_of-result g c =
    let same : c.in_ok-node.node.value ≡ c.args.node = search rules in
    whole c.args.color c.count-count.result c.in_ok-node.node c.args.node same c.requires c.count-count.ensures c.prove_sound.ensures.left c.prove_sound.ensures.right
