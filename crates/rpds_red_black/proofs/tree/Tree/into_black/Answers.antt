use Rattle.rpds_red_black.proofs.Node.{even_at}
use Rattle.rpds_red_black.proofs.tree.Tree.into_black.Goals as goal

pub from_shared-requires : goal.from_shared-requires
from_shared-requires g c =
    let even = even_at c.self.invariant c.in-Branch.is in
    record { level = even.level; left = tt; right = tt }
