use Rattle.rpds_red_black.proofs.Words.{◌≤◌, true, false, length, sym, ap, ◌∙◌, arith, or_same, pair_lent, painted, shape_of_link}
use Rattle.rpds_red_black.proofs.Combining.{cut_made, spent_cut, spent_left, spent_right, spent_link, whole_result}
use Rattle.rpds_red_black.proofs.Cutting.{cut_back, cut_front, cut_length}
use Rattle.rpds_red_black.proofs.Growing.{within_compared_most}
use Rattle.rpds_red_black.proofs.Node.{seen, even_at, near_ascends}
use Rattle.rpds_red_black.proofs.Over.{over}
use Rattle.rpds_red_black.proofs.Removal.{whatever_comes}
use Rattle.rpds_red_black.proofs.tree.Tree.+combine.Goals as goal

pub combine_small-requires-clause-walked : goal.combine_small-requires-clause-walked
combine_small-requires-clause-walked g t c =
    c.requires.walked

pub combine_small-requires-clause-height : goal.combine_small-requires-clause-height
combine_small-requires-clause-height g t c =
    c.requires.height

pub combine_small-requires-clause-ascending : goal.combine_small-requires-clause-ascending
combine_small-requires-clause-ascending g t c =
    c.requires.ascending

pub combine_small-requires-clause-small_ascending : goal.combine_small-requires-clause-small_ascending
combine_small-requires-clause-small_ascending g t c =
    rw c.cut.view_is c.requires.cut_ascending

pub combine_small-requires-clause-fits : goal.combine_small-requires-clause-fits
combine_small-requires-clause-fits g t c =
    rw c.cut.view_is c.requires.fits

pub height_below-below-requires : goal.height_below-below-requires
height_below-below-requires g t c =
    let is = seen c.self.view_is c.in-Branch.is in
    rw c.deref-node.ensures (c.requires.height ∙ ap (λ s. s.black) is)

pub split-requires-clause-height : goal.split-requires-clause-height
split-requires-clause-height g t c =
    c.cut.invariant

pub split-requires-clause-ascending : goal.split-requires-clause-ascending
split-requires-clause-ascending g t c =
    rw c.cut.view_is c.requires.cut_ascending

pub split-requires-clause-fits : goal.split-requires-clause-fits
split-requires-clause-fits g t c =
    rw c.cut.view_is (omega (arith, c.requires.fits))

pub combine-requires : goal.combine-requires
combine-requires g t c κs within =
    let f = over (seen c.self.view_is c.in-Branch.is) (even_at c.self.invariant c.in-Branch.is) in
    let cut = rw (c.cut.view_is, c.deref.ensures, c.deref-node.ensures) at c.in_ok-split-in-Branch.ensures.ok in
    let all = cut_length g.K.Ord.cmp g.met.K.Ord.total cut.cut in
    let up = near_ascends g.K.Ord.cmp false c.in-Branch.node.value (rw f.same at c.requires.ascending) in (
      rw c.deref-node.ensures (omega (arith, f.deep_left, c.decreases)),
      (
        within.0,
        (
          within.1.0,
          (
            within.1.1,
            (
              c.requires.walked,
              (
                c.height_below-below.ensures,
                (
                  rw c.deref-node.ensures up,
                  (
                    cut_front g.K.Ord.cmp g.met.K.Ord.total cut.cut
                        c.requires.cut_ascending,
                    rw c.deref-node.ensures (omega (arith, f.count, all, c.requires.fits)),
                  ),
                ),
              ),
            ),
          ),
        ),
      ),
    )

pub combine-requires-in-Branch : goal.combine-requires-in-Branch
combine-requires-in-Branch g t c κs within =
    let f = over (seen c.self.view_is c.in-Branch.is) (even_at c.self.invariant c.in-Branch.is) in
    let cut = rw (c.cut.view_is, c.deref.ensures, c.deref-node.ensures) at c.in_ok-split-in-Branch.ensures.ok in
    let all = cut_length g.K.Ord.cmp g.met.K.Ord.total cut.cut in
    let up = near_ascends g.K.Ord.cmp true c.in-Branch.node.value (rw f.same at c.requires.ascending) in
    let tall = rw c.deref-node.ensures at c.height_below-below.ensures in (
      rw c.deref-node.ensures (omega (arith, f.deep_right, c.decreases)),
      (
        within.0,
        (
          within.1.0,
          (
            within.1.1,
            (
              c.requires.walked,
              (
                rw c.deref-node.ensures (tall ∙ f.even.level),
                (
                  rw c.deref-node.ensures up,
                  (cut_back g.K.Ord.cmp g.met.K.Ord.total cut.cut c.requires.cut_ascending, rw c.deref-node.ensures (omega (arith, f.count, all, c.requires.fits))),
                ),
              ),
            ),
          ),
        ),
      ),
    )

pub returns-in_err-split-in-Branch-clause-steps : goal.returns-in_err-split-in-Branch-clause-steps
returns-in_err-split-in-Branch-clause-steps g t c =
    let f = over (seen c.self.view_is c.in-Branch.is) (even_at c.self.invariant c.in-Branch.is) in
    let many : 2 ≤ length c.args.cut.now.entries = rw c.cut.view_is at (c.has_few.ensures c.if-has_few.false) in
    let few = cut_made c.args.cut.now (rw c.cut.view_is at c.prove_low_rank.ensures.deep) (rw c.cut.view_is at c.prove_low_rank.ensures.low) in
    let split = within_compared_most (rw c.cut.view_is at c.split.ensures.steps) (rw c.cut.view_is at c.split.ensures.compared) in
    spent_cut g.K.Ord.cmp g.met.K.Ord.total f c.args.cut.now.entries many few split

pub returns-in_err-left-in-Branch-clause-steps : goal.returns-in_err-left-in-Branch-clause-steps
returns-in_err-left-in-Branch-clause-steps g t c =
    let f = over (seen c.self.view_is c.in-Branch.is) (even_at c.self.invariant c.in-Branch.is) in
    let cut = rw (c.cut.view_is, c.deref.ensures, c.deref-node.ensures) at c.in_ok-split-in-Branch.ensures.ok in
    let many : 2 ≤ length c.args.cut.now.entries = rw c.cut.view_is at (c.has_few.ensures c.if-has_few.false) in
    let few = cut_made c.args.cut.now (rw c.cut.view_is at c.prove_low_rank.ensures.deep) (rw c.cut.view_is at c.prove_low_rank.ensures.low) in
    let split = within_compared_most (rw c.cut.view_is at c.split.ensures.steps) (rw c.cut.view_is at c.split.ensures.compared) in
    spent_left g.K.Ord.cmp g.met.K.Ord.total f c.args.cut.now.entries many few split cut.cut (rw c.deref-node.ensures at c.combine.ensures.steps)

pub returns-in_err-right-in-Branch-clause-steps : goal.returns-in_err-right-in-Branch-clause-steps
returns-in_err-right-in-Branch-clause-steps g t c =
    let f = over (seen c.self.view_is c.in-Branch.is) (even_at c.self.invariant c.in-Branch.is) in
    let cut = rw (c.cut.view_is, c.deref.ensures, c.deref-node.ensures) at c.in_ok-split-in-Branch.ensures.ok in
    let many : 2 ≤ length c.args.cut.now.entries = rw c.cut.view_is at (c.has_few.ensures c.if-has_few.false) in
    let few = cut_made c.args.cut.now (rw c.cut.view_is at c.prove_low_rank.ensures.deep) (rw c.cut.view_is at c.prove_low_rank.ensures.low) in
    let split = within_compared_most (rw c.cut.view_is at c.split.ensures.steps) (rw c.cut.view_is at c.split.ensures.compared) in
    spent_right g.K.Ord.cmp g.met.K.Ord.total f c.args.cut.now.entries many few split cut.cut (rw c.deref-node.ensures at c.combine.ensures.steps)
    (rw c.deref-node.ensures at c.combine-in-Branch.ensures.steps)

pub combined-requires-clause-walked : goal.combined-requires-clause-walked
combined-requires-clause-walked g t c =
    c.requires.walked

pub combined-requires-clause-even : goal.combined-requires-clause-even
combined-requires-clause-even g t c =
    rw c.deref-node.ensures (even_at c.self.invariant c.in-Branch.is)

pub combined-requires-clause-below : goal.combined-requires-clause-below
combined-requires-clause-below g t c =
    c.height_below-below.ensures

pub combined-requires-clause-fits : goal.combined-requires-clause-fits
combined-requires-clause-fits g t c =
    let f = over (seen c.self.view_is c.in-Branch.is) (even_at c.self.invariant c.in-Branch.is) in
    let cut = rw (c.cut.view_is, c.deref.ensures, c.deref-node.ensures) at c.in_ok-split-in-Branch.ensures.ok in
    let all = cut_length g.K.Ord.cmp g.met.K.Ord.total cut.cut in
    let of_left = rw c.deref-node.ensures at c.in_ok-left-in-Branch.ensures.ok in
    let of_right = rw c.deref-node.ensures at c.in_ok-right-in-Branch.ensures.ok in
    rw c.deref-node.ensures (omega (arith, of_left.combined.few, of_right.combined.few, f.count, all, c.requires.fits))

pub returns-in_ok-right-in-Branch-clause-ok : goal.returns-in_ok-right-in-Branch-clause-ok
returns-in_ok-right-in-Branch-clause-ok g t c =
    let n = c.in-Branch.node.value in
    let f = over (seen c.self.view_is c.in-Branch.is) (even_at c.self.invariant c.in-Branch.is) in
    let s = c.in_ok-split-in-Branch.split in
    let cut = rw (c.cut.view_is, c.deref.ensures, c.deref-node.ensures) at c.in_ok-split-in-Branch.ensures.ok in
    let many : 2 ≤ length c.args.cut.now.entries = rw c.cut.view_is at (c.has_few.ensures c.if-has_few.false) in
    let of_left = rw c.deref-node.ensures at c.in_ok-left-in-Branch.ensures.ok in
    let of_right = rw c.deref-node.ensures at c.in_ok-right-in-Branch.ensures.ok in
    let linked = rw c.deref-node.ensures at c.combined.ensures.ok in
    rw f.same (whole_result g.K.Ord.cmp g.met.K.Ord.total c.args.kept (painted c.in-Branch.color n) f.even (rw f.same at c.requires.ascending)
    c.args.cut.now.entries s.before.entries s.after.entries (pair_lent s.found) cut.cut c.requires.walked (omega (arith, many))
    (or_same n.left c.in_ok-left-in-Branch.left) (or_same n.right c.in_ok-right-in-Branch.right) of_left of_right c.combined.result linked)

pub returns-in_ok-right-in-Branch-clause-steps : goal.returns-in_ok-right-in-Branch-clause-steps
returns-in_ok-right-in-Branch-clause-steps g t c =
    let n = c.in-Branch.node.value in
    let f = over (seen c.self.view_is c.in-Branch.is) (even_at c.self.invariant c.in-Branch.is) in
    let cut = rw (c.cut.view_is, c.deref.ensures, c.deref-node.ensures) at c.in_ok-split-in-Branch.ensures.ok in
    let many : 2 ≤ length c.args.cut.now.entries = rw c.cut.view_is at (c.has_few.ensures c.if-has_few.false) in
    let few = cut_made c.args.cut.now (rw c.cut.view_is at c.prove_low_rank.ensures.deep) (rw c.cut.view_is at c.prove_low_rank.ensures.low) in
    let split = within_compared_most (rw c.cut.view_is at c.split.ensures.steps) (rw c.cut.view_is at c.split.ensures.compared) in
    let of_left = rw c.deref-node.ensures at c.in_ok-left-in-Branch.ensures.ok in
    let of_right = rw c.deref-node.ensures at c.in_ok-right-in-Branch.ensures.ok in
    spent_link g.K.Ord.cmp g.met.K.Ord.total f c.args.cut.now.entries many few split cut.cut (rw c.deref-node.ensures at c.combine.ensures.steps)
    (rw c.deref-node.ensures at c.combine-in-Branch.ensures.steps) c.args.kept c.requires.walked c.requires.ascending
    (or_same n.left c.in_ok-left-in-Branch.left) (or_same n.right c.in_ok-right-in-Branch.right) of_left of_right
    (rw c.deref-node.ensures at c.combined.ensures.made) (rw c.deref-node.ensures at c.combined.ensures.steps)

pub returns-then-is_leaf-clause-compares : goal.returns-then-is_leaf-clause-compares
returns-then-is_leaf-clause-compares g t c =
    let empty = rw c.cut.view_is at (c.is_leaf.ensures.yes c.if-is_leaf.true) in
    λ _ some. absurd (some (ap (λ s. s.entries) empty))

pub returns-in-Leaf-clause-compares : goal.returns-in-Leaf-clause-compares
returns-in-Leaf-clause-compares g t c =
    let empty = sym c.self.view_is ∙ ap shape_of_link c.in-Leaf.is in
    whatever_comes c.share_kept.result (λ some _. absurd (some (ap (λ s. s.entries) empty)))

pub returns-then-has_few-clause-compares : goal.returns-then-has_few-clause-compares
returns-then-has_few-clause-compares g t c =
    rw c.cut.view_is at c.combine_small.ensures.compares

pub returns-in_ok-right-in-Branch-clause-compares : goal.returns-in_ok-right-in-Branch-clause-compares
returns-in_ok-right-in-Branch-clause-compares g t c =
    let split = rw c.cut.view_is at c.split.ensures.compares in
    whatever_comes c.combined.result (λ _ some. omega (
      arith,
      split some,
      c.combine.ensures.steps.compared_least,
      c.combine-in-Branch.ensures.steps.compared_least,
      c.combined.ensures.steps.compared_least,
    ))
