use Rattle.rpds_red_black.specs.Take.{outcome_of}
use Rattle.rpds_red_black.proofs.Words.{painted, pair_of, refl}
use Rattle.rpds_red_black.proofs.Settled.{next_settled}
use Rattle.rpds_red_black.proofs.tree.Node.replace_by_successor.Goals as goal

pub returns : goal.returns
returns g c =
    let call = c.take_from_near-taken in
    let given = rw c.replace-own.ensures.after at call.ensures.taken in
    let put = rw c.replace-own.ensures.value at c.put_back.ensures.err in
    record {
      taken = next_settled (painted c.args.color.now c.args.self.now) c.in-Ok.next c.replace-own.result call.new.color call.new.near call.new.far call.new.entry c.put_back.new.entry (pair_of c.in-Ok.next.value) (outcome_of call.result) c.in-Ok.ensures refl given c.put_back.ensures.ok put;
      steps = call.ensures.steps;
    }
