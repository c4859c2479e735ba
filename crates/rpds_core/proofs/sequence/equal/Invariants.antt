use Rattle.std.proofs.Common.{◌≡◌, Bool, List}
use Rattle.std.specs.Cmp.Lexicographic.{pointwise}
use Rattle.std.specs.Iterator.{IsFinite, size}
use Rattle.rpds_core.specs.Sequence.{ShowsList}
use Rattle.rpds_core.proofs.sequence.equal.Given as goal

abbrev pub invariant-loop-a : goal.invariant-loop-a
invariant-loop-a g l =
    let X = g.row.X.Denot in
    let T = g.row.T.Denot in
    g.I.Iterator.can_next l.left × IsFinite (g.I.Iterator.remaining l.left) × g.I.Iterator.can_next l.right
    × ((see : X → T) (rest : g.row.I.Denot → List T) (of : T → T → Bool)
    → ShowsList g.I.Iterator.next_gives see rest → ((a b : X) → g.X.PartialEq.eq a b ≡ of (see a) (see b))
    → pointwise of (rest l.left) (rest l.right) ≡ pointwise of (rest l.initial.left) (rest l.initial.right))

abbrev pub decreases-loop-a : goal.decreases-loop-a
decreases-loop-a g l = size (g.I.Iterator.remaining l.left)
