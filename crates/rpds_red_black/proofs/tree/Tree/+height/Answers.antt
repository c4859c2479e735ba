use Rattle.rpds_red_black.proofs.Words.{ap, arith}
use Rattle.rpds_red_black.proofs.Node.{seen}
use Rattle.rpds_red_black.proofs.Ranks.{black_few}
use Rattle.rpds_red_black.proofs.tree.Tree.+height.Goals as goal

pub overflow_add-result : goal.overflow_add-result
overflow_add-result g t c =
    let n = c.in-Branch.node.value in
    let is = seen c.self.view_is c.in-Branch.is in
    let sound = rw c.self.view_is at c.self.invariant.sound in
    let few = black_few c.args.self.now sound (omega (arith, c.requires)) in
    let below = rw c.deref-node.ensures at c.height-below.ensures in
    omega (arith, few, ap (λ s. s.black) is, below)
