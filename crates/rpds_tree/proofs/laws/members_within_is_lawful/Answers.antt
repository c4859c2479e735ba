use Rattle.rpds_tree.proofs.MapLaws.{inside, inside_same, length_of_both}
use Rattle.rpds_tree.proofs.MemberLaws.{member_filtered}
use Rattle.rpds_tree.proofs.SetCutLaws.{ranges_united}
use Rattle.rpds_tree.proofs.laws.members_within_is_lawful.Goals as goal

pub returns-clause-found : goal.returns-clause-found
returns-clause-found g c = λ start end. member_filtered g.T.Ord.cmp (inside g.T.Ord.cmp start end) (inside_same g.met.T.Ord.total start end)

pub returns-clause-size : goal.returns-clause-size
returns-clause-size g c = λ start end. length_of_both (inside g.T.Ord.cmp start end)

pub returns-clause-united : goal.returns-clause-united
returns-clause-united g c = ranges_united g.met.T.Ord.total
