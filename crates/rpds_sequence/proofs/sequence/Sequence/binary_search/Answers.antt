use Rattle.std.proofs.Common.{rules}
use Rattle.std.proofs.lemmas.Fn.{always_returns_same}
use Rattle.rpds_sequence.proofs.Searches.{found_equal}
use Rattle.rpds_sequence.proofs.sequence.Sequence.binary_search.Goals as goal

pub returns-clause-position : goal.returns-clause-position
returns-clause-position g c = c.binary_search_by.ensures.position (λ y. g.T.Ord.cmp y c.args.x.now) (always_returns_same _ _ _ (λ a r f' k. search rules))

pub returns-clause-ok : goal.returns-clause-ok
returns-clause-ok g c = found_equal (λ y. g.T.Ord.cmp y c.args.x.now) c.args.self.now c.binary_search_by.result (returns-clause-position g c)
