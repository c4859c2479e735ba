use Rattle.std.proofs.Common.{◌≡◌, ◌∙◌, sym, ap, drop, length, arith}
use Rattle.std.proofs.lemmas.Grind.{common_steps}
use Rattle.std.proofs.lemmas.List.{length-drop}
use Rattle.rpds_list.specs.Chain.{items, last_of}
use Rattle.rpds_list.proofs.Chains.{last_of_drop}
use Rattle.rpds_list.proofs.list.List.skip.Goals as goal
use Rattle.rpds_list.proofs.list.List.skip.Goals.{in-None, in-Some+in_ok-clone-in-Some}

pub invariant_of-result : goal.invariant_of-result
invariant_of-result g c =
    let inv = c.self.invariant in
    let all = items c.self.inside.head in
    let left : items c.in_ok-head.head ≡ drop c.args.count all = c.in_ok-head.ensures ∙ c.skip.ensures in
    let end = ap last_of left ∙ last_of_drop all c.args.count (omega (arith, inv.0, c.if-count-self.false)) in
    let size = ap length left ∙ length-drop c.args.count all in
    elim c.match-self.branch [
      | in-None w ↦ (omega (arith, inv.0, size), rw (w.last-is) (rw (w.in-None.is) at inv.1 ∙ sym end))
      | in-Some+in_ok-clone-in-Some w ↦ (omega (arith, inv.0, size), grind (arith, common_steps, end, inv.1))
    ]
