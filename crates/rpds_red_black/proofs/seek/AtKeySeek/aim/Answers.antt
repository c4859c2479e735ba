use Rattle.rpds_red_black.proofs.Words.{◌≡◌, Less, Equal, Greater, pair_of}
use Rattle.rpds_red_black.proofs.ByForm.{above_equal, above_greater, above_less, below_equal, below_greater, below_less}
use Rattle.rpds_red_black.proofs.Look.{tied_of, below_of, above_of}
use Rattle.rpds_red_black.proofs.Pairs.{around, sought_equal, sought_greater, sought_less}
use Rattle.rpds_red_black.proofs.seek.AtKeySeek.aim.Goals as goal

pub returns-then-is_eq-clause-aim : goal.returns-then-is_eq-clause-aim
returns-then-is_eq-clause-aim g c =
    let n = c.args.node.now in
    let l = n.left.entries in
    let e = pair_of n.entry.value in
    let r = n.right.entries in
    let o = g.met.K.Ord.total in
    let finds = g.met.Q.OrdKey.searches c.args.self.form in
    let tied : g.Q.OrdKey.order (g.Q.OrdKey.seen c.args.self.form) n.entry.value.key ≡ Equal = tied_of _ cc in (
      below_equal g.K.Ord.cmp o finds l e r c.requires tied,
      sought_equal g.K.Ord.cmp o finds l e r c.requires tied,
      above_equal g.K.Ord.cmp o finds l e r c.requires tied,
    )

pub returns-then-is_lt-clause-aim : goal.returns-then-is_lt-clause-aim
returns-then-is_lt-clause-aim g c =
    let n = c.args.node.now in
    let l = n.left.entries in
    let e = pair_of n.entry.value in
    let r = n.right.entries in
    let o = g.met.K.Ord.total in
    let finds = g.met.Q.OrdKey.searches c.args.self.form in
    let below : g.Q.OrdKey.order (g.Q.OrdKey.seen c.args.self.form) n.entry.value.key ≡ Less = below_of _ cc in (
      (around g.K.Ord.cmp l e r c.requires).left,
      below_less g.K.Ord.cmp o finds l e r c.requires below,
      sought_less g.K.Ord.cmp o finds l e r c.requires below,
      above_less g.K.Ord.cmp o finds l e r c.requires below,
    )

pub returns-else-is_lt-clause-aim : goal.returns-else-is_lt-clause-aim
returns-else-is_lt-clause-aim g c =
    let n = c.args.node.now in
    let l = n.left.entries in
    let e = pair_of n.entry.value in
    let r = n.right.entries in
    let o = g.met.K.Ord.total in
    let finds = g.met.Q.OrdKey.searches c.args.self.form in
    let above : g.Q.OrdKey.order (g.Q.OrdKey.seen c.args.self.form) n.entry.value.key ≡ Greater = above_of _ (cc) (cc) in (
      (around g.K.Ord.cmp l e r c.requires).right,
      below_greater g.K.Ord.cmp o finds l e r c.requires above,
      sought_greater g.K.Ord.cmp o finds l e r c.requires above,
      above_greater g.K.Ord.cmp o finds l e r c.requires above,
    )
