use Rattle.std.proofs.Common.{◌≡◌, List}
use Rattle.std.specs.Hash.{HashWrites}
use Rattle.std.specs.Iterator.{IsFinite}
use Rattle.std.specs.List.{flat_map, fold}
use Rattle.rpds_core.specs.Sequence.{ShowsList}
use Rattle.rpds_core.proofs.sequence.feed.Given as goal

abbrev pub invariant-loop-item : goal.invariant-loop-item
invariant-loop-item g l =
    let X = g.row.X.Denot in
    let T = g.row.T.Denot in
    g.I.Iterator.can_next l.item-iterator × IsFinite (g.I.Iterator.remaining l.item-iterator)
    × ((see : X → T) (rest : g.row.I.Denot → List T) (input : T → HashWrites)
    → ShowsList g.I.Iterator.next_gives see rest → ((x : X) → g.X.Hash.hash_input x ≡ input (see x))
    → fold g.H.Hasher.write l.state (flat_map input (rest l.item-iterator)) ≡ fold g.H.Hasher.write l.initial.state (flat_map input (rest l.initial.item-iterator)))
