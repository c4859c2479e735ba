use Rattle.rpds_red_black.proofs.Words.{true, false, length, refl, ap, ◌∙◌, arith, or_same, pair_lent, pairs_lent, painted, shape_of}
use Rattle.rpds_red_black.proofs.Combining.{none_made, spent_left, spent_right, spent_link, whole_on}
use Rattle.rpds_red_black.proofs.Cutting.{cut_back, cut_front, cut_length}
use Rattle.rpds_red_black.proofs.Node.{seen, even_at, near_ascends}
use Rattle.rpds_red_black.proofs.Over.{over}
use Rattle.rpds_red_black.proofs.tree.Tree.+combine_few.Goals as goal

pub combine_few-only_one-requires : goal.combine_few-only_one-requires
combine_few-only_one-requires g t c =
    c.are_none.ensures.no c.if-are_none.false

pub combine_few-combine_one-requires-clause-walked : goal.combine_few-combine_one-requires-clause-walked
combine_few-combine_one-requires-clause-walked g t c =
    c.requires.walked

pub combine_few-combine_one-requires-clause-height : goal.combine_few-combine_one-requires-clause-height
combine_few-combine_one-requires-clause-height g t c =
    c.requires.height

pub combine_few-combine_one-requires-clause-ascending : goal.combine_few-combine_one-requires-clause-ascending
combine_few-combine_one-requires-clause-ascending g t c =
    c.requires.ascending

pub combine_few-combine_one-requires-clause-none : goal.combine_few-combine_one-requires-clause-none
combine_few-combine_one-requires-clause-none g t c =
    c.requires.none

pub combine_few-combine_one-requires-clause-fits : goal.combine_few-combine_one-requires-clause-fits
combine_few-combine_one-requires-clause-fits g t c =
    omega (arith, ap length c.in-Some.ensures, c.requires.fits)

pub combine_few-combine_many-requires : goal.combine_few-combine_many-requires
combine_few-combine_many-requires g t c κs within = (
  omega (arith, c.decreases),
  (
    within.0,
    (
      within.1.0,
      (
        within.1.1,
        (
          c.requires.walked,
          (c.requires.height, (c.requires.ascending, (c.requires.few_ascending, (c.in-None.ensures, (c.requires.fits, c.requires.none))))),
        ),
      ),
    ),
  ),
)

pub combine_many-of_cut-requires-clause-ascending : goal.combine_many-of_cut-requires-clause-ascending
combine_many-of_cut-requires-clause-ascending g t c =
    c.requires.many_ascending

pub combine_many-of_cut-requires-clause-none : goal.combine_many-of_cut-requires-clause-none
combine_many-of_cut-requires-clause-none g t c =
    c.requires.none

pub combine_many-cut_slice-requires : goal.combine_many-cut_slice-requires
combine_many-cut_slice-requires g t c =
    c.requires.many_ascending

pub combine_many-height_below-below-requires : goal.combine_many-height_below-below-requires
combine_many-height_below-below-requires g t c =
    let is = seen c.self.view_is c.in-Branch.is in
    rw c.deref-node.ensures (c.requires.height ∙ ap (λ s. s.black) is)

pub combine_many-combine_few-requires : goal.combine_many-combine_few-requires
combine_many-combine_few-requires g t c κs within =
    let f = over (seen c.self.view_is c.in-Branch.is) (even_at c.self.invariant c.in-Branch.is) in
    let cut = rw (c.deref.ensures, c.deref-node.ensures) at c.cut_slice.ensures.cut in
    let all = cut_length g.K.Ord.cmp g.met.K.Ord.total cut in
    let up = near_ascends g.K.Ord.cmp false c.in-Branch.node.value (rw f.same at c.requires.ascending) in (
      rw c.deref-node.ensures (omega (arith, f.deep_left, c.decreases)),
      (
        within.0,
        (
          within.1.0,
          (
            within.1.1,
            (
              c.requires.walked,
              (
                c.height_below-below.ensures,
                (
                  rw c.deref-node.ensures up,
                  (
                    cut_front g.K.Ord.cmp g.met.K.Ord.total cut
                        c.requires.many_ascending,
                    (rw c.deref-node.ensures (omega (arith, f.count, all, c.requires.fits)), refl),
                  ),
                ),
              ),
            ),
          ),
        ),
      ),
    )

pub combine_many-combine_few-requires-in-Branch : goal.combine_many-combine_few-requires-in-Branch
combine_many-combine_few-requires-in-Branch g t c κs within =
    let f = over (seen c.self.view_is c.in-Branch.is) (even_at c.self.invariant c.in-Branch.is) in
    let cut = rw (c.deref.ensures, c.deref-node.ensures) at c.cut_slice.ensures.cut in
    let all = cut_length g.K.Ord.cmp g.met.K.Ord.total cut in
    let up = near_ascends g.K.Ord.cmp true c.in-Branch.node.value (rw f.same at c.requires.ascending) in
    let tall = rw c.deref-node.ensures at c.height_below-below.ensures in (
      rw c.deref-node.ensures (omega (arith, f.deep_right, c.decreases)),
      (
        within.0,
        (
          within.1.0,
          (
            within.1.1,
            (
              c.requires.walked,
              (
                rw c.deref-node.ensures (tall ∙ f.even.level),
                (
                  rw c.deref-node.ensures up,
                  (
                    cut_back g.K.Ord.cmp g.met.K.Ord.total cut
                        c.requires.many_ascending,
                    (rw c.deref-node.ensures (omega (arith, f.count, all, c.requires.fits)), refl),
                  ),
                ),
              ),
            ),
          ),
        ),
      ),
    )

pub combine_many-returns-in_err-combine_few-in-Branch-clause-steps : goal.combine_many-returns-in_err-combine_few-in-Branch-clause-steps
combine_many-returns-in_err-combine_few-in-Branch-clause-steps g t c =
    let f = over (seen c.self.view_is c.in-Branch.is) (even_at c.self.invariant c.in-Branch.is) in
    let cut = rw (c.deref.ensures, c.deref-node.ensures) at c.cut_slice.ensures.cut in
    spent_left g.K.Ord.cmp g.met.K.Ord.total f (pairs_lent c.args.many.now) c.requires.many (none_made _) c.cut_slice.ensures.steps cut
    (rw c.deref-node.ensures at c.combine_few.ensures.steps)

pub combine_many-returns-in_err-combine_few-in-Branch-2-clause-steps : goal.combine_many-returns-in_err-combine_few-in-Branch-2-clause-steps
combine_many-returns-in_err-combine_few-in-Branch-2-clause-steps g t c =
    let f = over (seen c.self.view_is c.in-Branch.is) (even_at c.self.invariant c.in-Branch.is) in
    let cut = rw (c.deref.ensures, c.deref-node.ensures) at c.cut_slice.ensures.cut in
    spent_right g.K.Ord.cmp g.met.K.Ord.total f (pairs_lent c.args.many.now) c.requires.many (none_made _) c.cut_slice.ensures.steps cut
    (rw c.deref-node.ensures at c.combine_few.ensures.steps) (rw c.deref-node.ensures at c.combine_few-in-Branch.ensures.steps)

pub combine_many-combine_into-requires-clause-walked : goal.combine_many-combine_into-requires-clause-walked
combine_many-combine_into-requires-clause-walked g t c =
    c.requires.walked

pub combine_many-combine_into-requires-clause-even : goal.combine_many-combine_into-requires-clause-even
combine_many-combine_into-requires-clause-even g t c =
    rw c.deref-node.ensures (even_at c.self.invariant c.in-Branch.is)

pub combine_many-combine_into-requires-clause-below : goal.combine_many-combine_into-requires-clause-below
combine_many-combine_into-requires-clause-below g t c =
    c.height_below-below.ensures

pub combine_many-combine_into-requires-clause-fits : goal.combine_many-combine_into-requires-clause-fits
combine_many-combine_into-requires-clause-fits g t c =
    let f = over (seen c.self.view_is c.in-Branch.is) (even_at c.self.invariant c.in-Branch.is) in
    let cut = rw (c.deref.ensures, c.deref-node.ensures) at c.cut_slice.ensures.cut in
    let all = cut_length g.K.Ord.cmp g.met.K.Ord.total cut in
    let of_left = rw c.deref-node.ensures at c.in_ok-combine_few-in-Branch.ensures.ok in
    let of_right = rw c.deref-node.ensures at c.in_ok-combine_few-in-Branch-2.ensures.ok in
    rw c.deref-node.ensures (omega (arith, of_left.combined.few, of_right.combined.few, f.count, all, c.requires.fits))

pub combine_many-returns-in_ok-combine_few-in-Branch-2-clause-ok : goal.combine_many-returns-in_ok-combine_few-in-Branch-2-clause-ok
combine_many-returns-in_ok-combine_few-in-Branch-2-clause-ok g t c =
    let n = c.in-Branch.node.value in
    let f = over (seen c.self.view_is c.in-Branch.is) (even_at c.self.invariant c.in-Branch.is) in
    let s = c.cut_slice.result in
    let cut = rw (c.deref.ensures, c.deref-node.ensures) at c.cut_slice.ensures.cut in
    let of_left = rw c.deref-node.ensures at c.in_ok-combine_few-in-Branch.ensures.ok in
    let of_right = rw c.deref-node.ensures at c.in_ok-combine_few-in-Branch-2.ensures.ok in
    let linked = rw c.deref-node.ensures at c.combine_into.ensures.ok in
    rw f.same (whole_on g.K.Ord.cmp g.met.K.Ord.total c.args.kept.now (painted c.in-Branch.color n) f.even (rw f.same at c.requires.ascending)
    (pairs_lent c.args.many.now) (pairs_lent s.before.now) (pairs_lent s.after.now) (pair_lent s.found) cut c.requires.walked
    (omega (arith, c.requires.many)) (or_same n.left c.combine_few.new.made) (or_same n.right c.combine_few-in-Branch.new.made)
    (or_same (shape_of (painted c.in-Branch.color n)) c.combine_into.new.made) of_left of_right _ refl c.combine_into.result linked)

pub combine_many-returns-in_ok-combine_few-in-Branch-2-clause-steps : goal.combine_many-returns-in_ok-combine_few-in-Branch-2-clause-steps
combine_many-returns-in_ok-combine_few-in-Branch-2-clause-steps g t c =
    let n = c.in-Branch.node.value in
    let f = over (seen c.self.view_is c.in-Branch.is) (even_at c.self.invariant c.in-Branch.is) in
    let cut = rw (c.deref.ensures, c.deref-node.ensures) at c.cut_slice.ensures.cut in
    let of_left = rw c.deref-node.ensures at c.in_ok-combine_few-in-Branch.ensures.ok in
    let of_right = rw c.deref-node.ensures at c.in_ok-combine_few-in-Branch-2.ensures.ok in
    spent_link g.K.Ord.cmp g.met.K.Ord.total f (pairs_lent c.args.many.now) c.requires.many (none_made _) c.cut_slice.ensures.steps cut
    (rw c.deref-node.ensures at c.combine_few.ensures.steps) (rw c.deref-node.ensures at c.combine_few-in-Branch.ensures.steps) c.args.kept.now
    c.requires.walked c.requires.ascending (or_same n.left c.combine_few.new.made) (or_same n.right c.combine_few-in-Branch.new.made) of_left of_right
    (rw c.deref-node.ensures at c.combine_into.ensures.made) (rw c.deref-node.ensures at c.combine_into.ensures.steps)
