use Rattle.rpds_red_black.proofs.Words.{◌∷◌, true, false, length, sym, ap, ◌∙◌, arith, length-append, painted, pair_of, shape_of, IsEven}
use Rattle.std.proofs.lemmas.Result.{IfOk-weaker}
use Rattle.rpds_red_black.proofs.Node.{seen, even_at, near_below}
use Rattle.rpds_red_black.proofs.Placing.{cut_here, cut_left, cut_parts, cut_right, cut_size}
use Rattle.rpds_red_black.proofs.tree.Tree.+cut.Goals as goal

pub height_below-below-requires : goal.height_below-below-requires
height_below-below-requires g t c =
    let is = seen c.self.view_is c.in-Branch.is in
    rw c.deref-node.ensures (c.requires.height ∙ ap (λ s. s.black) is)

pub aim-aim-requires : goal.aim-aim-requires
aim-aim-requires g t c =
    let is = seen c.self.view_is c.in-Branch.is in
    rw c.deref-node.ensures (rw is at c.requires.ready)

pub around-requires-clause-left : goal.around-requires-clause-left
around-requires-clause-left g t c = c.height_below-below.ensures

pub around-requires-clause-right : goal.around-requires-clause-right
around-requires-clause-right g t c =
    let high = rw c.deref-node.ensures at c.height_below-below.ensures in
    rw c.deref-node.ensures (high ∙ (even_at c.self.invariant c.in-Branch.is).level)

pub returns-in-Here-clause-ok : goal.returns-in-Here-clause-ok
returns-in-Here-clause-ok g t c =
    let n = c.in-Branch.node.value in
    let is = seen c.self.view_is c.in-Branch.is in
    let told = rw (c.deref-node.ensures, c.in-Here.is) at c.aim-aim.ensures.aim in
    let sides = rw c.deref-node.ensures at c.around.ensures in
    rw is (IfOk-weaker _ _ _ (λ s parts. cut_here g.S.Seek.ready g.S.Seek.looks c.args.sought n c.in-Branch.color (even_at c.self.invariant c.in-Branch.is) s told parts.0 parts.1 parts.2) sides)

pub cut-requires : goal.cut-requires
cut-requires g t c κs within =
    let n = c.in-Branch.node.value in
    let is = seen c.self.view_is c.in-Branch.is in
    let below = near_below false c.in-Branch.color c.args.self.now n is in
    let told = rw (c.deref-node.ensures, c.in-Left.is) at c.aim-aim.ensures.aim in
    let count = ap (λ s. length s.entries) is ∙ length-append n.left.entries (pair_of n.entry.value ∷ n.right.entries) in (
      rw c.deref-node.ensures (omega (arith, below, c.decreases)),
      (
        within.0,
        (
          within.1.0,
          (
            within.1.1.0,
            (within.1.1.1, (c.height_below-below.ensures, (rw c.deref-node.ensures told.0, rw c.deref-node.ensures (omega (arith, count, c.requires.fits))))),
          ),
        ),
      ),
    )

pub extend_after-requires-clause-root : goal.extend_after-requires-clause-root
extend_after-requires-clause-root g t c =
    let is = seen c.self.view_is c.in-Branch.is in
    rw c.deref-node.ensures (is ∙ ap (λ color. shape_of (painted color c.in-Branch.node.value)) (sym (ap (λ s. s.color) is)))

pub extend_after-requires-clause-even : goal.extend_after-requires-clause-even
extend_after-requires-clause-even g t c =
    let is = seen c.self.view_is c.in-Branch.is in
    rw (c.deref-node.ensures, ap (λ s. s.color) is) (even_at c.self.invariant c.in-Branch.is)

pub extend_after-requires-clause-height : goal.extend_after-requires-clause-height
extend_after-requires-clause-height g t c = c.requires.height

pub extend_after-requires-clause-below : goal.extend_after-requires-clause-below
extend_after-requires-clause-below g t c =
    let high = rw c.deref-node.ensures at c.height_below-below.ensures in
    rw c.deref-node.ensures (high ∙ (even_at c.self.invariant c.in-Branch.is).level)

pub extend_after-requires-clause-cut : goal.extend_after-requires-clause-cut
extend_after-requires-clause-cut g t c =
    let n = c.in-Branch.node.value in
    let told = rw (c.deref-node.ensures, c.in-Left.is) at c.aim-aim.ensures.aim in
    let cut = rw c.deref-node.ensures at c.in_ok-cut-in-Left.ensures.ok in
    rw c.deref-node.ensures (cut_parts g.S.Seek.ready g.S.Seek.looks g.met.S.Seek.parts _ n.left told.0 c.in_ok-cut-in-Left.cut cut)

pub extend_after-requires-clause-fits : goal.extend_after-requires-clause-fits
extend_after-requires-clause-fits g t c =
    let n = c.in-Branch.node.value in
    let is = seen c.self.view_is c.in-Branch.is in
    let told = rw (c.deref-node.ensures, c.in-Left.is) at c.aim-aim.ensures.aim in
    let cut = rw c.deref-node.ensures at c.in_ok-cut-in-Left.ensures.ok in
    let count = ap (λ s. length s.entries) is ∙ length-append n.left.entries (pair_of n.entry.value ∷ n.right.entries) in
    let size = cut_size g.S.Seek.ready g.S.Seek.looks g.met.S.Seek.parts _ n.left told.0 c.in_ok-cut-in-Left.cut cut in
    rw c.deref-node.ensures (omega (arith, count, size, c.requires.fits))

pub returns-in_ok-cut-in-Left-clause-ok : goal.returns-in_ok-cut-in-Left-clause-ok
returns-in_ok-cut-in-Left-clause-ok g t c =
    let n = c.in-Branch.node.value in
    let is = seen c.self.view_is c.in-Branch.is in
    let told = rw (c.deref-node.ensures, c.in-Left.is) at c.aim-aim.ensures.aim in
    let cut = rw c.deref-node.ensures at c.in_ok-cut-in-Left.ensures.ok in
    let over = rw c.deref-node.ensures at c.extend_after.ensures.cut in
    let same = ap (λ s. s.color) is in
    let root = is ∙ ap (λ color. shape_of (painted color n)) (sym same) in
    let even : IsEven (painted c.args.self.now.color n) = rw same (even_at c.self.invariant c.in-Branch.is) in
    cut_left g.S.Seek.ready g.S.Seek.looks c.args.sought n c.args.self.now.color even _ c.in_ok-cut-in-Left.cut told cut c.args.self.now root c.extend_after.result over

pub cut-requires-in-Right : goal.cut-requires-in-Right
cut-requires-in-Right g t c κs within =
    let n = c.in-Branch.node.value in
    let is = seen c.self.view_is c.in-Branch.is in
    let below = near_below true c.in-Branch.color c.args.self.now n is in
    let high = rw c.deref-node.ensures at c.height_below-below.ensures in
    let level = (even_at c.self.invariant c.in-Branch.is).level in
    let told = rw (c.deref-node.ensures, c.in-Right.is) at c.aim-aim.ensures.aim in
    let count = ap (λ s. length s.entries) is ∙ length-append n.left.entries (pair_of n.entry.value ∷ n.right.entries) in (
      rw c.deref-node.ensures (omega (arith, below, c.decreases)),
      (
        within.0,
        (
          within.1.0,
          (
            within.1.1.0,
            (within.1.1.1, (rw c.deref-node.ensures (high ∙ level), (rw c.deref-node.ensures told.0, rw c.deref-node.ensures (omega (arith, count, c.requires.fits))))),
          ),
        ),
      ),
    )

pub extend_before-requires-clause-root : goal.extend_before-requires-clause-root
extend_before-requires-clause-root g t c =
    let is = seen c.self.view_is c.in-Branch.is in
    rw c.deref-node.ensures (is ∙ ap (λ color. shape_of (painted color c.in-Branch.node.value)) (sym (ap (λ s. s.color) is)))

pub extend_before-requires-clause-even : goal.extend_before-requires-clause-even
extend_before-requires-clause-even g t c =
    let is = seen c.self.view_is c.in-Branch.is in
    rw (c.deref-node.ensures, ap (λ s. s.color) is) (even_at c.self.invariant c.in-Branch.is)

pub extend_before-requires-clause-height : goal.extend_before-requires-clause-height
extend_before-requires-clause-height g t c = c.requires.height

pub extend_before-requires-clause-below : goal.extend_before-requires-clause-below
extend_before-requires-clause-below g t c =
    c.height_below-below.ensures

pub extend_before-requires-clause-cut : goal.extend_before-requires-clause-cut
extend_before-requires-clause-cut g t c =
    let n = c.in-Branch.node.value in
    let told = rw (c.deref-node.ensures, c.in-Right.is) at c.aim-aim.ensures.aim in
    let cut = rw c.deref-node.ensures at c.in_ok-cut-in-Right.ensures.ok in
    rw c.deref-node.ensures (cut_parts g.S.Seek.ready g.S.Seek.looks g.met.S.Seek.parts _ n.right told.0 c.in_ok-cut-in-Right.cut cut)

pub extend_before-requires-clause-fits : goal.extend_before-requires-clause-fits
extend_before-requires-clause-fits g t c =
    let n = c.in-Branch.node.value in
    let is = seen c.self.view_is c.in-Branch.is in
    let told = rw (c.deref-node.ensures, c.in-Right.is) at c.aim-aim.ensures.aim in
    let cut = rw c.deref-node.ensures at c.in_ok-cut-in-Right.ensures.ok in
    let count = ap (λ s. length s.entries) is ∙ length-append n.left.entries (pair_of n.entry.value ∷ n.right.entries) in
    let size = cut_size g.S.Seek.ready g.S.Seek.looks g.met.S.Seek.parts _ n.right told.0 c.in_ok-cut-in-Right.cut cut in
    rw c.deref-node.ensures (omega (arith, count, size, c.requires.fits))

pub returns-in_ok-cut-in-Right-clause-ok : goal.returns-in_ok-cut-in-Right-clause-ok
returns-in_ok-cut-in-Right-clause-ok g t c =
    let n = c.in-Branch.node.value in
    let is = seen c.self.view_is c.in-Branch.is in
    let told = rw (c.deref-node.ensures, c.in-Right.is) at c.aim-aim.ensures.aim in
    let cut = rw c.deref-node.ensures at c.in_ok-cut-in-Right.ensures.ok in
    let over = rw c.deref-node.ensures at c.extend_before.ensures.cut in
    let same = ap (λ s. s.color) is in
    let root = is ∙ ap (λ color. shape_of (painted color n)) (sym same) in
    let even : IsEven (painted c.args.self.now.color n) = rw same (even_at c.self.invariant c.in-Branch.is) in
    cut_right g.S.Seek.ready g.S.Seek.looks c.args.sought n c.args.self.now.color even _ c.in_ok-cut-in-Right.cut told cut c.args.self.now root c.extend_before.result over
