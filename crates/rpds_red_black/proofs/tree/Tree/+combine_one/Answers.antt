use Rattle.rpds_red_black.proofs.Words.{◌≡◌, ◌+◌, ◌∷◌, [], None, Some, true, false, length, refl, sym, ap, ◌∙◌, arith, Less, Equal, Greater}
use Rattle.rpds_red_black.proofs.Words.{within_compared, or_same, gap, rank, branch, leaf, painted, pair_of, shape_of, shape_of_link, Red}
use Rattle.rpds_red_black.proofs.Combining.{cut_on, near_left, near_right, one_after, one_at, one_before, one_low, untouched, walked_alone, whole_on}
use Rattle.rpds_red_black.proofs.Growing.{one_linked}
use Rattle.rpds_red_black.proofs.Look.{tied_of, below_of, above_of}
use Rattle.rpds_red_black.proofs.Node.{seen, even_at, near_ascends, near_below}
use Rattle.rpds_red_black.proofs.Ranks.{branch_length, rank_left, rank_right}
use Rattle.rpds_red_black.proofs.tree.Tree.+combine_one.Goals as goal

pub height_below-below-requires : goal.height_below-below-requires
height_below-below-requires g t c =
    let n = c.in-Branch.node.value in
    let is = seen c.self.view_is c.in-Branch.is in
    rw c.deref-node.ensures (c.requires.height ∙ ap (λ s. s.black) is)

pub of_one-requires : goal.of_one-requires
of_one-requires g t c =
    c.requires.none

pub combine_own-requires-clause-walked : goal.combine_own-requires-clause-walked
combine_own-requires-clause-walked g t c =
    c.requires.walked

pub combine_own-requires-clause-even : goal.combine_own-requires-clause-even
combine_own-requires-clause-even g t c =
    rw c.deref-node.ensures (even_at c.self.invariant c.in-Branch.is)

pub combine_own-requires-clause-below : goal.combine_own-requires-clause-below
combine_own-requires-clause-below g t c =
    c.height_below-below.ensures

pub over_left-requires-clause-even : goal.over_left-requires-clause-even
over_left-requires-clause-even g t c =
    rw c.deref-node.ensures (even_at c.self.invariant c.in-Branch.is)

pub over_left-requires-clause-below : goal.over_left-requires-clause-below
over_left-requires-clause-below g t c =
    c.height_below-below.ensures

pub over_right-requires-clause-even : goal.over_right-requires-clause-even
over_right-requires-clause-even g t c =
    rw c.deref-node.ensures (even_at c.self.invariant c.in-Branch.is)

pub over_right-requires-clause-below : goal.over_right-requires-clause-below
over_right-requires-clause-below g t c =
    c.height_below-below.ensures

pub combine_own-requires-clause-fits : goal.combine_own-requires-clause-fits
combine_own-requires-clause-fits g t c =
    let n = c.in-Branch.node.value in
    let is = seen c.self.view_is c.in-Branch.is in
    let even = even_at c.self.invariant c.in-Branch.is in
    let count : length c.args.self.now.entries ≡ length n.left.entries + (1 + length n.right.entries) = ap (λ s. length s.entries) is
    ∙ branch_length (painted c.in-Branch.color n) in
    rw c.deref-node.ensures (omega (arith, count, c.requires.fits))

pub over_left-requires-clause-fits : goal.over_left-requires-clause-fits
over_left-requires-clause-fits g t c =
    let n = c.in-Branch.node.value in
    let is = seen c.self.view_is c.in-Branch.is in
    let even = even_at c.self.invariant c.in-Branch.is in
    let count : length c.args.self.now.entries ≡ length n.left.entries + (1 + length n.right.entries) = ap (λ s. length s.entries) is
    ∙ branch_length (painted c.in-Branch.color n) in
    let of_left = rw c.deref-node.ensures at c.in_ok-combine_one-in-Branch.ensures.ok in
    rw c.deref-node.ensures (omega (arith, of_left.combined.few, count, c.requires.fits))

pub over_right-requires-clause-fits : goal.over_right-requires-clause-fits
over_right-requires-clause-fits g t c =
    let n = c.in-Branch.node.value in
    let is = seen c.self.view_is c.in-Branch.is in
    let even = even_at c.self.invariant c.in-Branch.is in
    let count : length c.args.self.now.entries ≡ length n.left.entries + (1 + length n.right.entries) = ap (λ s. length s.entries) is
    ∙ branch_length (painted c.in-Branch.color n) in
    let of_right = rw c.deref-node.ensures at c.in_ok-combine_one-in-Branch-2.ensures.ok in
    rw c.deref-node.ensures (omega (arith, of_right.combined.few, count, c.requires.fits))

pub combine_one-requires : goal.combine_one-requires
combine_one-requires g t c κs within =
    let n = c.in-Branch.node.value in
    let is = seen c.self.view_is c.in-Branch.is in
    let even = even_at c.self.invariant c.in-Branch.is in
    let count : length c.args.self.now.entries ≡ length n.left.entries + (1 + length n.right.entries) = ap (λ s. length s.entries) is
    ∙ branch_length (painted c.in-Branch.color n) in
    let below = near_below false c.in-Branch.color c.args.self.now n is in
    let up = near_ascends g.K.Ord.cmp false n (rw is at c.requires.ascending) in (
      rw c.deref-node.ensures (omega (arith, below, c.decreases)),
      (
        within.0,
        (
          within.1.0,
          (
            within.1.1,
            (
              c.requires.walked,
              (
                c.height_below-below.ensures,
                (rw c.deref-node.ensures up, (rw c.deref-node.ensures (omega (arith, count, c.requires.fits)), c.requires.none)),
              ),
            ),
          ),
        ),
      ),
    )

pub combine_one-requires-else-is_lt : goal.combine_one-requires-else-is_lt
combine_one-requires-else-is_lt g t c κs within =
    let n = c.in-Branch.node.value in
    let is = seen c.self.view_is c.in-Branch.is in
    let even = even_at c.self.invariant c.in-Branch.is in
    let count : length c.args.self.now.entries ≡ length n.left.entries + (1 + length n.right.entries) = ap (λ s. length s.entries) is
    ∙ branch_length (painted c.in-Branch.color n) in
    let below = near_below true c.in-Branch.color c.args.self.now n is in
    let up = near_ascends g.K.Ord.cmp true n (rw is at c.requires.ascending) in
    let tall = rw c.deref-node.ensures at c.height_below-below.ensures in (
      rw c.deref-node.ensures (omega (arith, below, c.decreases)),
      (
        within.0,
        (
          within.1.0,
          (
            within.1.1,
            (
              c.requires.walked,
              (
                rw c.deref-node.ensures (tall ∙ even.level),
                (
                  rw c.deref-node.ensures up,
                  (rw c.deref-node.ensures (omega (arith, count, c.requires.fits)), c.requires.none),
                ),
              ),
            ),
          ),
        ),
      ),
    )

pub returns-then-is_eq-clause-ok : goal.returns-then-is_eq-clause-ok
returns-then-is_eq-clause-ok g t c =
    let n = c.in-Branch.node.value in
    let is = seen c.self.view_is c.in-Branch.is in
    let even = even_at c.self.invariant c.in-Branch.is in
    let up = rw is at c.requires.ascending in
    let p = pair_of c.args.one.now.value in
    let tied : g.K.Ord.cmp c.args.one.now.value.key n.entry.value.key ≡ Equal = rw (c.deref.ensures, c.deref-in-Branch.ensures, c.deref-node.ensures) at
    (sym c.compare-order.ensures.order ∙ tied_of _ (sym c.is_eq.ensures ∙ c.if-is_eq.true)) in
    let linked = rw c.deref-node.ensures at c.combine_own.ensures.ok in
    rw is (whole_on g.K.Ord.cmp g.met.K.Ord.total c.args.kept.now (painted c.in-Branch.color n) even up (p ∷ []) [] [] (Some p)
    (one_at g.K.Ord.cmp g.met.K.Ord.total c.args.kept.now n.entry.value.key p tied) c.requires.walked (omega arith) n.left n.right
    (or_same (shape_of (painted c.in-Branch.color n)) c.combine_own.new.made)
    (untouched g.K.Ord.cmp g.met.K.Ord.total c.args.kept.now c.requires.walked n.left (near_ascends g.K.Ord.cmp false n up))
    (untouched g.K.Ord.cmp g.met.K.Ord.total c.args.kept.now c.requires.walked n.right (near_ascends g.K.Ord.cmp true n up)) _ refl c.combine_own.result linked)

pub returns-in_ok-combine_one-in-Branch-clause-ok : goal.returns-in_ok-combine_one-in-Branch-clause-ok
returns-in_ok-combine_one-in-Branch-clause-ok g t c =
    let n = c.in-Branch.node.value in
    let is = seen c.self.view_is c.in-Branch.is in
    let even = even_at c.self.invariant c.in-Branch.is in
    let up = rw is at c.requires.ascending in
    let p = pair_of c.args.one.now.value in
    let less : g.K.Ord.cmp c.args.one.now.value.key n.entry.value.key ≡ Less = rw (c.deref.ensures, c.deref-in-Branch.ensures, c.deref-node.ensures) at
    (sym c.compare-order.ensures.order ∙ below_of _ (sym c.is_lt.ensures ∙ c.if-is_lt.true)) in
    let left = rw c.deref-node.ensures at c.in_ok-combine_one-in-Branch.ensures.ok in
    let linked = rw c.deref-node.ensures at c.over_left.ensures.ok in
    rw is (whole_on g.K.Ord.cmp g.met.K.Ord.total c.args.kept.now (painted c.in-Branch.color n) even up (p ∷ []) (p ∷ []) [] None
    (one_before g.K.Ord.cmp g.met.K.Ord.total c.args.kept.now n.entry.value.key p less) c.requires.walked (omega arith)
    (or_same n.left c.combine_one.new.made) n.right (or_same (shape_of (painted c.in-Branch.color n)) c.over_left.new.made) left
    (untouched g.K.Ord.cmp g.met.K.Ord.total c.args.kept.now c.requires.walked n.right (near_ascends g.K.Ord.cmp true n up)) (Some (pair_of n.entry.value))
    (walked_alone c.args.kept.now (Some (pair_of n.entry.value)) c.requires.walked) c.over_left.result linked)

pub returns-in_ok-combine_one-in-Branch-2-clause-ok : goal.returns-in_ok-combine_one-in-Branch-2-clause-ok
returns-in_ok-combine_one-in-Branch-2-clause-ok g t c =
    let n = c.in-Branch.node.value in
    let is = seen c.self.view_is c.in-Branch.is in
    let even = even_at c.self.invariant c.in-Branch.is in
    let up = rw is at c.requires.ascending in
    let p = pair_of c.args.one.now.value in
    let greater : g.K.Ord.cmp c.args.one.now.value.key n.entry.value.key ≡ Greater = rw (c.deref.ensures, c.deref-in-Branch.ensures, c.deref-node.ensures)
    at (sym c.compare-order.ensures.order ∙ above_of _ (sym c.is_eq.ensures ∙ c.if-is_eq.false) (sym c.is_lt.ensures ∙ c.if-is_lt.false)) in
    let right = rw c.deref-node.ensures at c.in_ok-combine_one-in-Branch-2.ensures.ok in
    let linked = rw c.deref-node.ensures at c.over_right.ensures.ok in
    rw is (whole_on g.K.Ord.cmp g.met.K.Ord.total c.args.kept.now (painted c.in-Branch.color n) even up (p ∷ []) [] (p ∷ []) None
    (one_after g.K.Ord.cmp g.met.K.Ord.total c.args.kept.now n.entry.value.key p greater) c.requires.walked (omega arith) n.left
    (or_same n.right c.combine_one-else-is_lt.new.made) (or_same (shape_of (painted c.in-Branch.color n)) c.over_right.new.made)
    (untouched g.K.Ord.cmp g.met.K.Ord.total c.args.kept.now c.requires.walked n.left (near_ascends g.K.Ord.cmp false n up)) right
    (Some (pair_of n.entry.value)) (walked_alone c.args.kept.now (Some (pair_of n.entry.value)) c.requires.walked) c.over_right.result linked)

pub returns-in_ok-combine_one-in-Branch-clause-steps : goal.returns-in_ok-combine_one-in-Branch-clause-steps
returns-in_ok-combine_one-in-Branch-clause-steps g t c =
    let n = c.in-Branch.node.value in
    let is = seen c.self.view_is c.in-Branch.is in
    let even = even_at c.self.invariant c.in-Branch.is in
    let p = pair_of c.args.one.now.value in
    let below = near_below false c.in-Branch.color c.args.self.now n is in
    let left = rw c.deref-node.ensures at c.in_ok-combine_one-in-Branch.ensures.ok in
    let l = or_same n.left c.combine_one.new.made in
    let near = near_right g.K.Ord.cmp g.met.K.Ord.total c.args.kept.now (painted c.in-Branch.color n) even p l left in
    let rest = rw c.deref-node.ensures at c.combine_one.ensures.steps in
    let link = rw c.deref-node.ensures at c.over_left.ensures.steps in
    one_linked c.args.self.now.depth n.left.depth (rank c.args.self.now) (rank n.left) (omega (arith, below))
    (rw is (rank_left (painted c.in-Branch.color n) even)) (within_compared c.compare-order.ensures.compared) rest (gap l.black n.right.black)
    near link

pub returns-in_ok-combine_one-in-Branch-2-clause-steps : goal.returns-in_ok-combine_one-in-Branch-2-clause-steps
returns-in_ok-combine_one-in-Branch-2-clause-steps g t c =
    let n = c.in-Branch.node.value in
    let is = seen c.self.view_is c.in-Branch.is in
    let even = even_at c.self.invariant c.in-Branch.is in
    let p = pair_of c.args.one.now.value in
    let below = near_below true c.in-Branch.color c.args.self.now n is in
    let right = rw c.deref-node.ensures at c.in_ok-combine_one-in-Branch-2.ensures.ok in
    let h = or_same n.right c.combine_one-else-is_lt.new.made in
    let near = near_left g.K.Ord.cmp g.met.K.Ord.total c.args.kept.now (painted c.in-Branch.color n) even p h right in
    let rest = rw c.deref-node.ensures at c.combine_one-else-is_lt.ensures.steps in
    let link = rw c.deref-node.ensures at c.over_right.ensures.steps in
    one_linked c.args.self.now.depth n.right.depth (rank c.args.self.now) (rank n.right) (omega (arith, below))
    (rw is (rank_right (painted c.in-Branch.color n) even)) (within_compared c.compare-order.ensures.compared) rest (gap n.left.black h.black)
    near link

pub returns-in-Leaf-clause-ok : goal.returns-in-Leaf-clause-ok
returns-in-Leaf-clause-ok g t c =
    let p = pair_of c.args.one.now.value in
    let empty = sym c.self.view_is ∙ ap shape_of_link c.in-Leaf.is in
    cut_on g.K.Ord.cmp g.met.K.Ord.total c.args.kept.now c.args.self.now (branch Red leaf p leaf) empty (tt, tt)
    (one_low g.K.Ord.cmp g.met.K.Ord.total c.args.kept.now p) c.of_one.new.made c.of_one.result c.of_one.ensures.ok
