use Rattle.rpds_red_black.proofs.Words.{refl, inr, ap, option_map, false≢true, within_same}
use Rattle.rpds_red_black.proofs.OpenNodes.{none_in_leaf}
use Rattle.rpds_red_black.proofs.lend.LeafLendTreeByKey.lend.Goals as goal

pub returns : goal.returns
returns g c =
    let e = none_in_leaf (g.Q.OrdKey.order (g.Q.OrdKey.seen c.args.descent.now.key)) _ _ c.tree.view_is c.requires.shallow in
    ((refl, λ w. (λ z. absurd (false≢true z), inr refl), refl), record { writes_back = tt; returned = ap (λ r. option_map (λ p. p.1) r) e; steps = within_same _ _ _ })
