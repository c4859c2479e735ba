use Rattle.rpds_vector.proofs.Spans.{left_is}
use Rattle.rpds_vector.proofs.vector.node.left_below.Goals as goal

pub returns : goal.returns
returns c = left_is c.args.index c.args.height c.args.bits c.requires.shift
