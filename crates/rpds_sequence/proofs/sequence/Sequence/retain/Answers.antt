use Rattle.std.specs.Fn.{CalledAt}
use Rattle.std.proofs.lemmas.Fn.{filter_same}
use Rattle.rpds_sequence.proofs.sequence.Sequence.retain.Goals as goal

pub returns-clause-filtered : goal.returns-clause-filtered
returns-clause-filtered g c = λ test acts.
    filter_same (CalledAt g.F.FnMut) test c.args.keep (λ x b f' k. let answer = acts x b f' k in (answer.1, answer.0)) _ _ c.in_ok-self.ensures
