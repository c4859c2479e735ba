use Rattle.rpds_red_black.proofs.Words.{◌≡◌, ◌⊎◌, inl, inr, sym, ◌∙◌, arith, pair_of, Red}
use Rattle.rpds_red_black.proofs.Joining.{level_red, level_black}
use Rattle.rpds_red_black.proofs.Ranks.{black_few}
use Rattle.rpds_red_black.proofs.tree.Tree.join_level.Goals as goal
use Rattle.rpds_red_black.proofs.tree.Tree.join_level.Goals.{then-has_red_root, else-has_red_root, then-red-2, else-red-2}

pub overflow_add-height : goal.overflow_add-height
overflow_add-height g c =
    let sound = rw c.left.view_is at c.prove_sound.ensures in
    let few = black_few c.args.left sound (omega (arith, c.requires.fits)) in
    rw (c.left.invariant, c.left.view_is) (omega (arith, few))

pub returns-clause-ok : goal.returns-clause-ok
returns-clause-ok g c =
    let p = pair_of c.args.entry.value in
    let is = rw (c.left.view_is, c.right.view_is) at c.in_ok-tree.ensures.ok in
    elim c.if-red-2.branch [
      | then-red-2 w ↦ (
          let red : (c.args.left.color ≡ Red) ⊎ (c.args.right.color ≡ Red) = elim c.if-has_red_root.branch [
            | then-has_red_root v ↦ inl (rw c.left.view_is at (c.has_red_root.ensures.yes v.if-has_red_root.true))
            | else-has_red_root v ↦ inr (rw c.right.view_is at (v.has_red_root-red.ensures.yes (sym v.red-is ∙ w.if-red-2.true)))
          ] in
          level_black c.args.left c.args.right c.in_ok-tree.tree p c.requires.level (rw w.color-is at is) red
          )
      | else-red-2 w ↦ level_red c.args.left c.args.right c.in_ok-tree.tree p c.requires.level (rw w.color-is at is)
    ]
