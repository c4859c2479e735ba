use Rattle.rpds_red_black.proofs.Words.{refl, arith, true≢false, within_more}
use Rattle.rpds_red_black.proofs.Removal.{removed_whole}
use Rattle.rpds_red_black.proofs.Take.{taken_unless}
use Rattle.rpds_red_black.proofs.tree.Tree.remove_counted.Goals as goal

pub returns : goal.returns
returns g c =
    let below = c.in_ok-tree.ensures in
    let loss = c.remove_sought.new.loss in
    let there = taken_unless loss c.in_default.not-Absent in
    let black = c.into_black.ensures in
    record {
      ok = removed_whole g.met.K.Ord.total (g.met.Q.OrdKey.searches c.args.key) _ _ c.args.self.now c.into_black.result loss c.in_ok-tree.tree below.ok refl refl refl c.requires there black.pairs black.black;
      unmade = λ h. absurd (true≢false h);
      compares = λ some. omega (arith, below.compares some);
      makes = λ some. below.makes there (rw (← black.pairs) some);
      steps = within_more below.steps (omega arith) (omega arith);
    }
