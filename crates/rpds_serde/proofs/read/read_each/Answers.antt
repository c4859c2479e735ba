use Rattle.std.proofs.Common.{◌≡◌, [], ◌∷◌, ◌++◌, sym, subst, arith}
use Rattle.std.proofs.lemmas.Grind.{common_steps}
use Rattle.rpds_serde.specs.Reading.{ReadsEach}
use Rattle.rpds_serde.proofs.Collected.{reads_more}
use Rattle.rpds_serde.proofs.read.read_each.Goals as goal

pub returns-in_default : goal.returns-in_default
returns-in_default g c = (c.loop.from, c.loop.invariant, rw c.in_default.is at c.in_ok-item.ensures)

pub loop-preserved : goal.loop-preserved
loop-preserved g c =
    let reads = g.N.Comes.reads in
    let pushed : c.push.new.self.items ≡ c.loop.items.items ++ c.in-Some.item ∷ [] = grind (arith, common_steps) in
    subst (λ xs. ReadsEach reads xs c.args.from.now c.next.new.from) (sym pushed)
    (reads_more reads c.loop.items.items c.in-Some.item c.args.from.now c.loop.from c.next.new.from c.loop.invariant (rw c.in-Some.is at c.in_ok-item.ensures))
