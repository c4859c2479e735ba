use Rattle.rpds_vector.proofs.Words.{refl, IfOk-weaker, on_err_weaker, either_same}
use Rattle.rpds_vector.proofs.vector.unique.make_unique.Goals as goal

pub returns : goal.returns
returns g c = (
  (refl, c.own.follows.holds, on_err_weaker c.own.result (either_same (λ x. x)) c.own.follows.holds-at-none),
  record { writes_back = tt; value = IfOk-weaker c.own.result _ _ (λ u. either_same (λ x. x)) c.own.ensures.value },
)
