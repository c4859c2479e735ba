use Rattle.rpds_red_black.proofs.Sifting.{sifted_result}
use Rattle.rpds_red_black.proofs.Spending.{whole_look}
use Rattle.rpds_tree.proofs.map.red_black_tree_map.RedBlackTreeMap.looked_up.Goals as goal

pub returns-clause-ok : goal.returns-clause-ok
returns-clause-ok g c =
    rw (← c.walked.view_is, ← c.other.view_is) (sifted_result g.K.Ord.cmp c.args.kept _ g.met.K.Ord.total c.requires _ c.walked.invariant.0.ascending
    c.look_up_all.result c.look_up_all.ensures.ok)

pub returns-clause-steps : goal.returns-clause-steps
returns-clause-steps g c =
    rw (← c.walked.view_is, ← c.other.view_is) (whole_look _ _ _ c.other.invariant.0.shallow c.look_up_all.ensures.steps)

pub returns-clause-compares : goal.returns-clause-compares
returns-clause-compares g c =
    rw (← c.walked.view_is, ← c.other.view_is) c.look_up_all.ensures.compares
