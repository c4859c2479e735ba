use Rattle.std.proofs.lemmas.Fn.{always_returns_same}
use Rattle.rpds_sequence.proofs.sequence.Sequence.binary_search_by_key.Goals as goal

pub returns-clause-position : goal.returns-clause-position
returns-clause-position g c =
    λ key by. c.binary_search_by.ensures.position (λ y. g.B.Ord.cmp (key y) c.args.b.now) (always_returns_same _ _ _ (λ a r f' k. (k.met.1 key by, λ j. (k.met.0.0 j, k.met.0.1 j))))
