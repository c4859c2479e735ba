use Rattle.rpds_tree.proofs.CutLaws.{parts_united}
use Rattle.rpds_tree.proofs.MapLaws.{ascending_outside, find_outside, inside, length_of_both}
use Rattle.rpds_tree.proofs.laws.outside_is_lawful.Goals as goal

pub returns-clause-found : goal.returns-clause-found
returns-clause-found g c = find_outside g.met.K.Ord.total

pub returns-clause-ascending : goal.returns-clause-ascending
returns-clause-ascending g c = ascending_outside g.met.K.Ord.total

pub returns-clause-size : goal.returns-clause-size
returns-clause-size g c = λ start end. length_of_both (λ p. inside g.K.Ord.cmp start end p.0)

pub returns-clause-united : goal.returns-clause-united
returns-clause-united g c = parts_united g.met.K.Ord.total
