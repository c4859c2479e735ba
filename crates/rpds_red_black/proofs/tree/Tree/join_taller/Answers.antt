use Rattle.rpds_red_black.proofs.Words.{◌≡◌, ◌+◌, arith, ap, sym, subst, ◌∙◌, IsOfHeight, Shape, is_right, joined, painted, pair_of, shape_of, Red, Node}
use Rattle.rpds_red_black.proofs.Joining.{joined_dark}
use Rattle.rpds_red_black.proofs.Ranks.{black_few}
use Rattle.rpds_red_black.proofs.tree.Tree.join_taller.Goals as goal

pub overflow_add-result : goal.overflow_add-result
overflow_add-result g c =
    let sound = rw c.taller.view_is at c.prove_sound.ensures in
    let few = black_few c.args.taller sound (omega (arith, c.requires.fits)) in
    rw (c.taller.invariant, c.taller.view_is) (omega (arith, few))

pub returns-clause-ok : goal.returns-clause-ok
returns-clause-ok g c =
    let root = rw c.taller.view_is at c.in-Some.ensures in
    let old : shape_of (painted Red c.deref-node.result.now) ≡ c.args.taller = ap (λ (n : Node _ _ _). shape_of (painted Red n)) c.deref-node.ensures
    ∙ sym root.same in
    let made = rw c.lower.view_is at c.in_ok-tree-in-Some.ensures.ok in
    let joins = subst (λ (s : Shape _ _). IsOfHeight (joined (is_right c.args.side) c.darkened-lower.result.entries (pair_of c.args.entry.value) s.entries)
    (s.black + 1) c.in_ok-tree-in-Some.tree) old made in
    joined_dark (is_right c.args.side) c.args.lower c.darkened-lower.result c.args.taller (pair_of c.args.entry.value) c.darkened-lower.ensures.pairs
    c.requires.lower c.in_ok-tree-in-Some.tree joins (ap (λ (s : Shape _ _). s.color) root.same) c.in_ok-tree-in-Some.ensures.color
