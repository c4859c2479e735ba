use Rattle.rpds_red_black.specs.Join.{pair_held}
use Rattle.rpds_red_black.proofs.Words.{◌+◌, true, false, length, refl, ap, ◌∙◌, arith, pair_lent, rank, floor_log2, pair_of}
use Rattle.rpds_red_black.proofs.Cutting.{combined_result, cut_back, cut_front, cut_length}
use Rattle.rpds_red_black.proofs.Node.{seen, even_at, near_ascends}
use Rattle.rpds_red_black.proofs.Over.{over}
use Rattle.rpds_red_black.proofs.Ranks.{depth_rank}
use Rattle.rpds_red_black.proofs.Sifting.{sifted_result}
use Rattle.rpds_red_black.proofs.Spending.{looked_up, sifts_split, sifts_left, sifts_right, sifts_join}
use Rattle.rpds_red_black.proofs.Removal.{whatever_comes}
use Rattle.rpds_red_black.proofs.tree.Tree.+sift.Goals as goal

pub height_below-below-requires : goal.height_below-below-requires
height_below-below-requires g t c =
    let is = seen c.self.view_is c.in-Branch.is in
    rw c.deref-node.ensures (c.requires.height ∙ ap (λ s. s.black) is)

pub split-requires-clause-height : goal.split-requires-clause-height
split-requires-clause-height g t c =
    c.cut.invariant

pub split-requires-clause-ascending : goal.split-requires-clause-ascending
split-requires-clause-ascending g t c =
    rw c.cut.view_is c.requires.cut_ascending

pub split-requires-clause-fits : goal.split-requires-clause-fits
split-requires-clause-fits g t c =
    rw c.cut.view_is (omega (arith, c.requires.fits))

pub sift-requires : goal.sift-requires
sift-requires g t c κs within =
    let f = over (seen c.self.view_is c.in-Branch.is) (even_at c.self.invariant c.in-Branch.is) in
    let cut = rw (c.cut.view_is, c.deref.ensures, c.deref-node.ensures) at c.in_ok-split-in-Branch.ensures.ok in
    let all = cut_length g.K.Ord.cmp g.met.K.Ord.total cut.cut in
    let up = near_ascends g.K.Ord.cmp false c.in-Branch.node.value (rw f.same at c.requires.ascending) in (
      rw c.deref-node.ensures (omega (arith, f.deep_left, c.decreases)),
      (
        within.0,
        (
          within.1.0,
          (
            within.1.1,
            (
              c.requires.alone,
              (
                c.height_below-below.ensures,
                (
                  rw c.deref-node.ensures up,
                  (
                    cut_front g.K.Ord.cmp g.met.K.Ord.total cut.cut
                        c.requires.cut_ascending,
                    rw c.deref-node.ensures (omega (arith, f.count, all, c.requires.fits)),
                  ),
                ),
              ),
            ),
          ),
        ),
      ),
    )

pub sift-requires-in-Branch : goal.sift-requires-in-Branch
sift-requires-in-Branch g t c κs within =
    let f = over (seen c.self.view_is c.in-Branch.is) (even_at c.self.invariant c.in-Branch.is) in
    let cut = rw (c.cut.view_is, c.deref.ensures, c.deref-node.ensures) at c.in_ok-split-in-Branch.ensures.ok in
    let all = cut_length g.K.Ord.cmp g.met.K.Ord.total cut.cut in
    let up = near_ascends g.K.Ord.cmp true c.in-Branch.node.value (rw f.same at c.requires.ascending) in
    let tall = rw c.deref-node.ensures at c.height_below-below.ensures in (
      rw c.deref-node.ensures (omega (arith, f.deep_right, c.decreases)),
      (
        within.0,
        (
          within.1.0,
          (
            within.1.1,
            (
              c.requires.alone,
              (
                rw c.deref-node.ensures (tall ∙ f.even.level),
                (
                  rw c.deref-node.ensures up,
                  (cut_back g.K.Ord.cmp g.met.K.Ord.total cut.cut c.requires.cut_ascending, rw c.deref-node.ensures (omega (arith, f.count, all, c.requires.fits))),
                ),
              ),
            ),
          ),
        ),
      ),
    )

pub returns-in_err-split-in-Branch-clause-steps : goal.returns-in_err-split-in-Branch-clause-steps
returns-in_err-split-in-Branch-clause-steps g t c =
    let f = over (seen c.self.view_is c.in-Branch.is) (even_at c.self.invariant c.in-Branch.is) in
    let sound = rw c.cut.view_is at c.prove_sound.ensures in
    let split = rw c.cut.view_is at c.split.ensures.steps in
    sifts_split f c.args.cut.now sound split

pub returns-in_err-left-in-Branch-clause-steps : goal.returns-in_err-left-in-Branch-clause-steps
returns-in_err-left-in-Branch-clause-steps g t c =
    let f = over (seen c.self.view_is c.in-Branch.is) (even_at c.self.invariant c.in-Branch.is) in
    let cut = rw (c.cut.view_is, c.deref.ensures, c.deref-node.ensures) at c.in_ok-split-in-Branch.ensures.ok in
    let sound = rw c.cut.view_is at c.prove_sound.ensures in
    let split = rw c.cut.view_is at c.split.ensures.steps in
    sifts_left f c.args.cut.now sound split g.K.Ord.cmp g.met.K.Ord.total c.in_ok-split-in-Branch.split cut
    (rw c.deref-node.ensures at c.sift.ensures.steps)

pub returns-in_err-right-in-Branch-clause-steps : goal.returns-in_err-right-in-Branch-clause-steps
returns-in_err-right-in-Branch-clause-steps g t c =
    let f = over (seen c.self.view_is c.in-Branch.is) (even_at c.self.invariant c.in-Branch.is) in
    let cut = rw (c.cut.view_is, c.deref.ensures, c.deref-node.ensures) at c.in_ok-split-in-Branch.ensures.ok in
    let sound = rw c.cut.view_is at c.prove_sound.ensures in
    let split = rw c.cut.view_is at c.split.ensures.steps in
    sifts_right f c.args.cut.now sound split g.K.Ord.cmp g.met.K.Ord.total c.in_ok-split-in-Branch.split cut
    (rw c.deref-node.ensures at c.sift.ensures.steps) (rw c.deref-node.ensures at c.sift-in-Branch.ensures.steps)

pub returns-in_err-middle-in-Branch-clause-steps : goal.returns-in_err-middle-in-Branch-clause-steps
returns-in_err-middle-in-Branch-clause-steps g t c =
    let f = over (seen c.self.view_is c.in-Branch.is) (even_at c.self.invariant c.in-Branch.is) in
    let cut = rw (c.cut.view_is, c.deref.ensures, c.deref-node.ensures) at c.in_ok-split-in-Branch.ensures.ok in
    let sound = rw c.cut.view_is at c.prove_sound.ensures in
    let split = rw c.cut.view_is at c.split.ensures.steps in
    sifts_right f c.args.cut.now sound split g.K.Ord.cmp g.met.K.Ord.total c.in_ok-split-in-Branch.split cut
    (rw c.deref-node.ensures at c.sift.ensures.steps) (rw c.deref-node.ensures at c.sift-in-Branch.ensures.steps)

pub returns-in_ok-middle-in-Branch-clause-steps : goal.returns-in_ok-middle-in-Branch-clause-steps
returns-in_ok-middle-in-Branch-clause-steps g t c =
    let f = over (seen c.self.view_is c.in-Branch.is) (even_at c.self.invariant c.in-Branch.is) in
    let cut = rw (c.cut.view_is, c.deref.ensures, c.deref-node.ensures) at c.in_ok-split-in-Branch.ensures.ok in
    let sound = rw c.cut.view_is at c.prove_sound.ensures in
    let split = rw c.cut.view_is at c.split.ensures.steps in
    let of_left = rw c.deref-node.ensures at c.in_ok-left-in-Branch.ensures.ok in
    let of_right = rw c.deref-node.ensures at c.in_ok-right-in-Branch.ensures.ok in
    sifts_join f c.args.cut.now sound split g.K.Ord.cmp g.met.K.Ord.total c.in_ok-split-in-Branch.split cut
    (rw c.deref-node.ensures at c.sift.ensures.steps) (rw c.deref-node.ensures at c.sift-in-Branch.ensures.steps) c.in_ok-left-in-Branch.left c.in_ok-right-in-Branch.right
    c.prove_low.ensures.left c.prove_low.ensures.right of_left.few of_right.few c.join_around.ensures.steps

pub join_around-requires : goal.join_around-requires
join_around-requires g t c =
    let f = over (seen c.self.view_is c.in-Branch.is) (even_at c.self.invariant c.in-Branch.is) in
    let cut = rw (c.cut.view_is, c.deref.ensures, c.deref-node.ensures) at c.in_ok-split-in-Branch.ensures.ok in
    let all = cut_length g.K.Ord.cmp g.met.K.Ord.total cut.cut in
    let of_left = rw c.deref-node.ensures at c.in_ok-left-in-Branch.ensures.ok in
    let of_right = rw c.deref-node.ensures at c.in_ok-right-in-Branch.ensures.ok in
    record { fits = omega (arith, of_left.few, of_right.few, f.count, all, c.requires.fits) }

pub returns-in_ok-middle-in-Branch-clause-ok : goal.returns-in_ok-middle-in-Branch-clause-ok
returns-in_ok-middle-in-Branch-clause-ok g t c =
    let n = c.in-Branch.node.value in
    let is = seen c.self.view_is c.in-Branch.is in
    let s = c.in_ok-split-in-Branch.split in
    let cut = rw (c.cut.view_is, c.deref.ensures, c.deref-node.ensures) at c.in_ok-split-in-Branch.ensures.ok in
    let of_left = rw c.deref-node.ensures at c.in_ok-left-in-Branch.ensures.ok in
    let of_right = rw c.deref-node.ensures at c.in_ok-right-in-Branch.ensures.ok in
    let chosen = rw c.deref-node.ensures at c.in_ok-middle-in-Branch.ensures in
    combined_result g.K.Ord.cmp g.met.K.Ord.total c.args.kept (pair_of n.entry.value) c.args.self.now.entries n.left.entries n.right.entries
    c.args.cut.now.entries s.before.entries s.after.entries c.in_ok-left-in-Branch.left.entries c.in_ok-right-in-Branch.right.entries
    (pair_lent s.found) (pair_held c.in_ok-middle-in-Branch.middle) c.requires.ascending (ap (λ s. s.entries) is) cut.cut of_left of_right chosen
    c.join_around.result c.join_around.ensures.ok

pub same-left : goal.same-left
same-left g t c = refl

pub same-right : goal.same-right
same-right g t c = refl

pub looked_up-requires-clause-ascending : goal.looked_up-requires-clause-ascending
looked_up-requires-clause-ascending g t c =
    rw c.cut.view_is c.requires.cut_ascending

pub looked_up-requires-clause-fits : goal.looked_up-requires-clause-fits
looked_up-requires-clause-fits g t c =
    omega (arith, c.requires.fits)

pub returns-then-count-most_looked_up-clause-ok : goal.returns-then-count-most_looked_up-clause-ok
returns-then-count-most_looked_up-clause-ok g t c =
    sifted_result g.K.Ord.cmp c.args.kept c.args.cut.now.entries g.met.K.Ord.total c.requires.alone c.args.self.now.entries c.requires.ascending
    c.looked_up.result (rw c.cut.view_is at c.looked_up.ensures.ok)

pub returns-then-count-most_looked_up-clause-steps : goal.returns-then-count-most_looked_up-clause-steps
returns-then-count-most_looked_up-clause-steps g t c =
    let sound = rw c.cut.view_is at c.prove_sound.ensures in
    let m = floor_log2 (length c.args.self.now.entries + length c.args.cut.now.entries + 1) in
    looked_up (length c.args.self.now.entries) (rank c.args.cut.now) m c.args.cut.now.depth (depth_rank c.args.cut.now sound)
    (rw c.cut.view_is at c.looked_up.ensures.steps)

pub share_if-requires : goal.share_if-requires
share_if-requires g t c =
    c.requires.height

pub returns-then-is_leaf-clause-compares : goal.returns-then-is_leaf-clause-compares
returns-then-is_leaf-clause-compares g t c =
    let empty = rw c.cut.view_is at (c.is_leaf.ensures.yes c.if-is_leaf.true) in
    whatever_comes c.share_if.result (λ _ some. absurd (some (ap (λ s. s.entries) empty)))

pub returns-then-count-most_looked_up-clause-compares : goal.returns-then-count-most_looked_up-clause-compares
returns-then-count-most_looked_up-clause-compares g t c =
    rw c.cut.view_is at c.looked_up.ensures.compares

pub returns-in_ok-middle-in-Branch-clause-compares : goal.returns-in_ok-middle-in-Branch-clause-compares
returns-in_ok-middle-in-Branch-clause-compares g t c =
    let split = rw c.cut.view_is at c.split.ensures.compares in
    whatever_comes c.join_around.result (λ _ some. omega (
      arith,
      split some,
      c.sift.ensures.steps.compared_least,
      c.sift-in-Branch.ensures.steps.compared_least,
      c.join_around.ensures.steps.compared_least,
    ))
