use Rattle.rpds_red_black.proofs.Words.{◌≡◌, Less, Equal, Greater, pair_of}
use Rattle.rpds_red_black.proofs.Look.{tied_of, below_of, above_of}
use Rattle.rpds_red_black.proofs.Pairs.{around, put_less, put_equal, put_greater}
use Rattle.rpds_red_black.proofs.seek.OwnKeyPlace.aim.Goals as goal

pub returns-then-is_eq-clause-aim : goal.returns-then-is_eq-clause-aim
returns-then-is_eq-clause-aim g c =
    let n = c.args.node.now in
    let tied : g.K.Ord.cmp c.args.entry.now.key n.entry.value.key ≡ Equal = tied_of _ cc in
    put_equal g.K.Ord.cmp g.met.K.Ord.total (pair_of c.args.entry.now) n.left.entries (pair_of n.entry.value) n.right.entries c.requires tied

pub returns-then-is_lt-clause-aim : goal.returns-then-is_lt-clause-aim
returns-then-is_lt-clause-aim g c =
    let n = c.args.node.now in
    let below : g.K.Ord.cmp c.args.entry.now.key n.entry.value.key ≡ Less = below_of _ cc in (
      (around g.K.Ord.cmp n.left.entries (pair_of n.entry.value) n.right.entries c.requires).left,
      put_less g.K.Ord.cmp g.met.K.Ord.total (pair_of c.args.entry.now) n.left.entries (pair_of n.entry.value) n.right.entries below,
    )

pub returns-else-is_lt-clause-aim : goal.returns-else-is_lt-clause-aim
returns-else-is_lt-clause-aim g c =
    let n = c.args.node.now in
    let above : g.K.Ord.cmp c.args.entry.now.key n.entry.value.key ≡ Greater = above_of _ (cc) (cc) in (
      (around g.K.Ord.cmp n.left.entries (pair_of n.entry.value) n.right.entries c.requires).right,
      put_greater g.K.Ord.cmp g.met.K.Ord.total (pair_of c.args.entry.now) n.left.entries (pair_of n.entry.value) n.right.entries c.requires above,
    )
