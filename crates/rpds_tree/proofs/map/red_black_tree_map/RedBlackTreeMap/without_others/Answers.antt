use Rattle.std.proofs.Math.Seq.{drop-cons}
use Rattle.std.proofs.lemmas.List.{length-drop}
use Rattle.rpds_tree.proofs.Words.{◌≡◌, ◌++◌, ◌+◌, ◌∷◌, ◌∙◌, [], true, false, ap, append_assoc, drop, length, length-append, refl, sym, arith, common_steps}
use Rattle.rpds_tree.proofs.Chosen.{next_left, one_goes, one_stays, without_next}
use Rattle.rpds_tree.proofs.map.red_black_tree_map.RedBlackTreeMap.without_others.Goals.{then-not-stays+in_ok-take_nth, else-not-stays}
use Rattle.rpds_tree.proofs.map.red_black_tree_map.RedBlackTreeMap.without_others.Goals as goal

pub loop-stays-init : goal.loop-stays-init
loop-stays-init g c =
    let same = c.in_ok-left.ensures in (
      [],
      c.args.self.now.entries,
      ap (λ m. m.entries) same,
      record { level = c.requires; same = refl },
      refl,
      omega arith,
      rw same c.size-size.ensures.ordered.shallow,
    )

pub take_nth-requires : goal.take_nth-requires
take_nth-requires g c =
    let inv = c.loop-stays.invariant in
    omega (
      arith,
      ap length inv.2,
      length-append inv.0 inv.1,
      inv.3.level,
      inv.4,
      length-drop c.loop-stays.stays-index c.args.keeps.now,
    )

pub overflow_add-position : goal.overflow_add-position
overflow_add-position g c = omega (arith, c.loop-stays.invariant.5)

pub loop-stays-preserved : goal.loop-stays-preserved
loop-stays-preserved g c =
    let inv = c.loop-stays.invariant in
    let at = c.loop-stays.stays-index in
    let flags = c.args.keeps.now in
    elim c.if-not-stays.branch [
      | else-not-stays w ↦
          let flag : drop at flags ≡ true ∷ drop (at + 1) flags = grind (arith, common_steps, drop-cons flags at false (omega arith)) in
          let (x, rest, is) = next_left true (drop at flags) (drop (at + 1) flags) inv.1 flag inv.3.level in
          rw (w.left-is, w.position-is) (
            inv.0 ++ x ∷ [],
            rest,
            inv.2 ∙ ap (λ l. inv.0 ++ l) is ∙ sym (append_assoc inv.0 (x ∷ []) rest),
            one_stays inv.0 (drop at flags) (drop (at + 1) flags) x inv.1 rest _ flag is inv.3,
            omega (arith, inv.4, length-append inv.0 (x ∷ [])),
            omega (arith, inv.5),
            inv.6,
          )
      | then-not-stays+in_ok-take_nth w ↦
          let flag : drop at flags ≡ false ∷ drop (at + 1) flags = grind (arith, common_steps, drop-cons flags at false (omega arith)) in
          let (x, rest, is) = next_left false (drop at flags) (drop (at + 1) flags) inv.1 flag inv.3.level in
          let left = w.in_ok-take_nth.ensures in
          rw (w.left-is, w.position-is) (
            inv.0,
            rest,
            left.ok ∙ without_next c.loop-stays.left.entries inv.0 inv.1 rest x c.loop-stays.position inv.2 is inv.4,
            one_goes inv.0 (drop at flags) (drop (at + 1) flags) x inv.1 rest _ flag is inv.3,
            inv.4,
            omega (arith, inv.5),
            left.depth,
          )
    ]
