use Rattle.rpds_tree.proofs.Rising.{nowhere, somewhere}
use Rattle.rpds_tree.proofs.sorted.first_out_of_order_is_lawful.Goals as goal

pub returns-clause-nowhere : goal.returns-clause-nowhere
returns-clause-nowhere g c = nowhere g.K.Ord.cmp g.met.K.Ord.total

pub returns-clause-somewhere : goal.returns-clause-somewhere
returns-clause-somewhere g c = somewhere g.K.Ord.cmp g.met.K.Ord.total
