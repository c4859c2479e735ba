use Rattle.rpds_red_black.proofs.ByForm.{others_parts}
use Rattle.rpds_red_black.proofs.tree.Tree.take_counted.Goals as goal

pub returns-clause-pairs : goal.returns-clause-pairs
returns-clause-pairs g c = rw (others_parts g.K.Ord.cmp g.met.K.Ord.total (g.met.Q.OrdKey.searches c.args.key) c.args.self.now.entries c.requires.ascending) c.take_sought.ensures.pairs
