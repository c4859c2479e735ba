use Rattle.std.proofs.Common.{◌/◌, ◌<◌, length, arith, lit<}
use Rattle.rpds_list.specs.Chain.{items}
use Rattle.rpds_list.proofs.Halves.{place_for, rest_fits, rest_within, kept_halved}
use Rattle.rpds_list.proofs.list.from_back.last_cells.Goals as goal

pub loop-left-preserved : goal.loop-left-preserved
loop-left-preserved g c =
    let i = c.loop-left.invariant in
    let n = c.loop-left.left in
    let ps = c.loop-left.stretches in
    let at = c.loop-left.rest in
    let more : 1 < n = omega (arith, c.loop-left-test.true) in
    let place = place_for n (length ps) more i.fits in
    record {
      some = omega arith;
      within = rest_within n (n / 2) (items at.now) (items c.skip-rest.result.now) c.skip-rest.ensures i.within;
      room = rw c.push.ensures ((omega arith, omega (arith, i.within), omega (arith, i.fits)), i.room);
      fits = rw c.push.ensures (rest_fits n (length ps) place i.fits);
      kept = rw c.push.ensures (kept_halved ps at n (n / 2) (items c.skip-rest.result.now) _ (omega arith) c.skip-rest.ensures i.kept);
    }

pub push-requires : goal.push-requires
push-requires g c = (lit< tt, place_for c.loop-left.left (length c.loop-left.stretches) (omega (arith, c.loop-left-test.true)) c.loop-left.invariant.fits)
