use Rattle.std.proofs.lemmas.Result.{IfOk-weaker}
use Rattle.rpds_red_black.proofs.ByForm.{split_at_key}
use Rattle.rpds_red_black.proofs.tree.Tree.split.Goals as goal

pub returns-clause-ok : goal.returns-clause-ok
returns-clause-ok g c =
    IfOk-weaker _ _ _ (λ s cut. split_at_key g.K.Ord.cmp g.met.K.Ord.total c.args.key.now c.args.self.now s c.requires.ascending cut.before cut.found cut.after cut.before_low cut.after_low) c.cut.ensures.ok
