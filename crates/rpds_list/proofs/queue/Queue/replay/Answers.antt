use Rattle.std.proofs.Common.{refl, arith}
use Rattle.std.proofs.lemmas.Grind.{common_steps}
use Rattle.rpds_list.proofs.Replays.{empty_is}
use Rattle.rpds_list.proofs.queue.Queue.replay.Goals as goal

pub loop-op-init : goal.loop-op-init
loop-op-init g c =
    rw (empty_is _ c.new-queue.ensures.items c.new-queue.ensures.waiting, c.into_iter-op-iterator.ensures.into_iter_gives.0) record {
      items = refl;
      contents = refl;
      moved = omega arith;
      none = (λ e. (refl, e));
      others = refl;
    }

pub loop-op-preserved : goal.loop-op-preserved
loop-op-preserved g c = grind (arith, common_steps)

pub returns : goal.returns
returns g c = grind (arith, common_steps)
