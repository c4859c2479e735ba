use Rattle.tests_sequences.proofs.Visits.{visits_rows}
use Rattle.tests_sequences.proofs.values.vector.worked.look_up.Goals as goal

pub returns : goal.returns
returns g c = visits_rows c.args.vector.now c.args.steps.now c.get_counted.new.steps (c.get_counted.ensures.visited c.requires)
