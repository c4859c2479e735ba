-- How a run goes on.
use Rattle.std.proofs.Common.{[], ◌∷◌, ◌++◌, List, subst, refl}
use Rattle.std.specs.declared.cmp.Ordering.{Ordering}
use Rattle.rpds_snapshots.specs.SnapshotContents.{Contents}
use Rattle.rpds_snapshots.specs.Snapshots.{Run, Step}
use Rattle.rpds_snapshots.specs.declared.snapshots.command.SnapCommand.{SnapCommand}
use Rattle.rpds_snapshots.specs.declared.snapshots.reply.SnapReply.{SnapReply}

module _ {K V : Type 0} (R : K → K → Ordering) where
  -- a run goes on by a step
  pub run_more : (cs : List (SnapCommand K V)) (ys : List SnapReply) (s mid s' : Contents K V) (c : SnapCommand K V) (y : SnapReply) → Run R s cs ys mid
      → Step R mid c y s' → Run R s (cs ++ c ∷ []) (ys ++ y ∷ []) s'
  run_more [] [] s mid s' c y run step = (s', subst (λ m. Step R m c y s') run step, refl)
  run_more (d ∷ cs) (z ∷ ys) s mid s' c y run step = (run.0, run.1, run_more cs ys run.0 mid s' c y run.2 step)
  run_more [] (z ∷ ys) s mid s' c y run step = absurd run
  run_more (d ∷ cs) [] s mid s' c y run step = absurd run
