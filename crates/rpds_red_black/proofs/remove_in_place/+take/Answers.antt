use Rattle.rpds_red_black.specs.Sides.{with_near}
use Rattle.rpds_red_black.specs.Take.{loss_under, outcome_of}
use Rattle.rpds_red_black.proofs.Words.{rules, ◌≡◌, ◌<◌, ◌∙◌, inl, length, refl, sym, ap, arith, common_steps, Black, counted, painted}
use Rattle.rpds_red_black.proofs.Words.{shape_of, Shape, is_right, got_shorter, has_taken, within_more}
use Rattle.rpds_red_black.proofs.Node.{counted_at}
use Rattle.rpds_red_black.proofs.OpenNodes.{opened}
use Rattle.rpds_red_black.proofs.Insertion.{whole}
use Rattle.rpds_red_black.proofs.Settled.{below_again, below_even_again, below_settled, below_turned_even, darkened, far_settled, far_whole, last_settled, near_even, near_settled, nephew_level, nephew_lower, nephew_settled, has_color, painted_black, painted_if, painted_only, painted_red, plain_settled, root_counted, root_even, root_settled, turned, turned_whole}
use Rattle.rpds_red_black.proofs.Sides.{far_under, level_of, near_part, with_far_part, with_near_part}
use Rattle.rpds_red_black.proofs.Take.{below_even, black_over, kept_flat, length_rest, lower_color, lower_even, lower_node, rest_all, sought_finds, sought_rest, taken_on_left, taken_on_right, told_of_color}
use Rattle.rpds_red_black.proofs.TakeCounts.{made_one, made_first}
use Rattle.rpds_red_black.proofs.remove_in_place.+take.Goals as goal

pub take_with_red_far_nephew-invariant_of-far_nephew : goal.take_with_red_far_nephew-invariant_of-far_nephew
take_with_red_far_nephew-invariant_of-far_nephew g t c =
    let taken = outcome_of c.take-taken.result in
    let f = opened c.far_nephew.view_is c.in-Branch.is c.far_nephew.invariant (inl refl) in
    let paint = rw c.is_shorter.ensures at c.paint_if.ensures in
    let size = counted_at c.far_nephew.view_is c.in-Branch.is c.far_nephew.invariant in
    painted_black (got_shorter taken) c.paint_if.new.own c.in-Branch.field-1 c.in-Branch.field-2 f c.requires.red paint size c.prove_sound_in_black.ensures

pub take_with_red_far_nephew-returns-clause-taken : goal.take_with_red_far_nephew-returns-clause-taken
take_with_red_far_nephew-returns-clause-taken g t c =
    let taken = outcome_of c.take-taken.result in
    let f = opened c.far_nephew.view_is c.in-Branch.is c.far_nephew.invariant (inl refl) in
    let p = painted_only (got_shorter taken) _ _ _ c.in-Branch.field-2.value (rw c.is_shorter.ensures at c.paint_if.ensures) in
    darkened g.S.Seek.looks c.args.sought c.args.near.now c.take-taken.new.tree f taken (painted c.paint_if.new.own c.in-Branch.field-2.value) (shape_of (painted c.paint_if.new.own c.in-Branch.field-2.value)) c.requires.red p refl c.take-taken.ensures.taken

pub take_with_red_near_nephew-invariant_of-near_nephew-2 : goal.take_with_red_near_nephew-invariant_of-near_nephew-2
take_with_red_near_nephew-invariant_of-near_nephew-2 g t c =
    let taken = outcome_of c.take-taken.result in
    let f = opened c.near_nephew.view_is c.in-Branch.is c.near_nephew.invariant c.in-Ok.ensures.value in
    let near = c.take-taken.new.tree in
    let shorter = c.is_shorter-shorter in
    let unique = c.make_unique.follows.holds c.rotate_if.new.far (rw c.in-Ok.is refl) in
    let size = counted_at c.near_nephew.view_is c.in-Branch.is c.near_nephew.invariant ∙ ap (λ (s : Shape _ _). counted (length s.entries)) f.same in
    turned_whole (is_right c.args.side) Black near c.args.entry.now c.in-Branch.own c.in-Ok.root.now shorter.result c.paint_if.new.own c.recount_if.new.count c.in-Branch.count (c.make_unique.follows.lender c.rotate_if.new.far) c.rotate_if.new.far unique c.rotate_if.ensures.below c.paint_if.ensures c.recount_if.ensures (λ _. size) (λ h. below_even (is_right c.args.side) c.args.entry.now near (near_part (is_right c.args.side) (painted c.in-Branch.own c.in-Ok.root.now)) (nephew_level (is_right c.args.side) g.S.Seek.looks c.args.sought c.args.near.now c.args.entry.now f c.requires.red c.requires.lower taken near c.take-taken.ensures.taken (sym shorter.ensures ∙ h))) (λ _. f.even) c.prove_sound-2.ensures c.prove_sound.ensures.left c.prove_sound.ensures.right

pub take_with_red_near_nephew-returns-clause-taken : goal.take_with_red_near_nephew-returns-clause-taken
take_with_red_near_nephew-returns-clause-taken g t c =
    let f = opened c.near_nephew.view_is c.in-Branch.is c.near_nephew.invariant c.in-Ok.ensures.value in
    let near = c.take-taken.new.tree in
    let shorter = c.is_shorter-shorter in
    let unique = c.make_unique.follows.holds c.rotate_if.new.far (rw c.in-Ok.is refl) in
    let taken = outcome_of c.take-taken.result in
    let root = painted_if shorter.result _ _ _ _ _ _ c.paint_if.ensures c.rotate_if.ensures.below in
    let new = painted c.paint_if.new.own c.rotate_if.new.far in
    let up = ap (λ n. shape_of (painted c.paint_if.new.own n)) unique in
    let t = turned (is_right c.args.side) Black near c.args.entry.now (painted c.in-Branch.own c.in-Ok.root.now) (got_shorter taken) shorter.result shorter.ensures new c.rotate_if.new.near (shape_of (painted c.paint_if.new.own (c.make_unique.follows.lender c.rotate_if.new.far).value)) c.swap_if.new.b c.swap_if.new.a c.rotate_if.new.entry root c.rotate_if.ensures.above c.rotate_if.ensures.beside up c.swap_if.ensures.a c.swap_if.ensures.b in
    rw c.restored.ensures (nephew_settled (is_right c.args.side) g.S.Seek.looks c.args.sought c.args.near.now c.args.entry.now f c.requires.red c.requires.lower near new c.swap_if.new.b c.rotate_if.new.entry c.swap_if.new.a taken c.take-taken.ensures.taken t)

pub take_with_red_near_nephew-returns-in_default-make_unique-clause-steps :
    goal.take_with_red_near_nephew-returns-in_default-make_unique-clause-steps
take_with_red_near_nephew-returns-in_default-make_unique-clause-steps g t c = made_one c.make_unique.ensures.made (omega arith)

pub take_with_red_near_nephew-returns-clause-steps : goal.take_with_red_near_nephew-returns-clause-steps
take_with_red_near_nephew-returns-clause-steps g t c = made_first c.make_unique.ensures.made c.take-taken.ensures.steps (omega arith)

pub take_with_red_near_nephew-invariant_of-near_nephew : goal.take_with_red_near_nephew-invariant_of-near_nephew
take_with_red_near_nephew-invariant_of-near_nephew g t c = grind (arith, common_steps)

pub take_with_black_sibling-invariant_of-far-then-has_red_root : goal.take_with_black_sibling-invariant_of-far-then-has_red_root
take_with_black_sibling-invariant_of-far-then-has_red_root g t c =
    let taken = outcome_of c.take_with_red_far_nephew-taken.result in
    let f = opened c.far.view_is c.in-Branch.is c.far.invariant c.in-Ok.ensures.value in
    let below = rw c.is_shorter-shorter.ensures at c.rotate_if.ensures.below in
    let count = rw c.is_shorter-shorter.ensures at c.recount_if.ensures in
    let size = counted_at c.far.view_is c.in-Branch.is c.far.invariant in
    let unique = c.make_unique.follows.holds c.rotate_if.new.far (rw c.in-Ok.is refl) in
    let given = rw c.far_mut.ensures.value at c.take_with_red_far_nephew-taken.ensures.taken in
    far_whole (is_right c.args.side) g.S.Seek.looks c.args.sought c.args.color.now c.args.near.now c.args.entry.now c.requires.even f c.requires.black c.take_with_red_far_nephew-taken.new.near c.take_with_red_far_nephew-taken.new.far_nephew taken c.recount_if.new.count c.in-Branch.count (c.make_unique.follows.lender c.rotate_if.new.far) c.rotate_if.new.far unique below count size given c.prove_sound-then-has_red_root.ensures c.prove_sound.ensures.left c.prove_sound.ensures.right

pub take_with_black_sibling-returns-then-has_red_root-clause-taken : goal.take_with_black_sibling-returns-then-has_red_root-clause-taken
take_with_black_sibling-returns-then-has_red_root-clause-taken g t c =
    let own = c.in-Branch.own in
    let f = opened c.far.view_is c.in-Branch.is c.far.invariant c.in-Ok.ensures.value in
    let taken = outcome_of c.take_with_red_far_nephew-taken.result in
    let near = c.take_with_red_far_nephew-taken.new.near in
    let far_nephew = c.take_with_red_far_nephew-taken.new.far_nephew in
    let unique = c.make_unique.follows.holds c.rotate_if.new.far (rw c.in-Ok.is refl) in
    let asked = c.is_shorter-shorter in
    let black : own ≡ Black = sym (ap (λ (s : Shape _ _). s.color) f.same) ∙ c.requires.black in
    let root = painted_if asked.result _ _ _ _ _ _ (has_color asked.result Black own black) c.rotate_if.ensures.below in
    let new = painted own c.rotate_if.new.far in
    let t = turned (is_right c.args.side) Black near c.args.entry.now (with_far_part (is_right c.args.side) (painted own c.in-Ok.sibling.now) far_nephew) (got_shorter taken) asked.result asked.ensures new c.rotate_if.new.near (shape_of (painted own (c.make_unique.follows.lender c.rotate_if.new.far).value)) c.swap_if.new.b c.swap_if.new.a c.rotate_if.new.entry root c.rotate_if.ensures.above c.rotate_if.ensures.beside (ap (λ n. shape_of (painted own n)) unique) c.swap_if.ensures.a c.swap_if.ensures.b in
    let given = rw c.far_mut.ensures.value at c.take_with_red_far_nephew-taken.ensures.taken in
    rw c.restored.ensures (far_settled (is_right c.args.side) g.S.Seek.looks c.args.sought c.args.color.now c.args.near.now c.args.entry.now c.requires.even f c.requires.black near far_nephew new c.swap_if.new.b c.rotate_if.new.entry c.swap_if.new.a taken given t)

pub take_with_black_sibling-invariant_of-far-then-has_red_root-2 : goal.take_with_black_sibling-invariant_of-far-then-has_red_root-2
take_with_black_sibling-invariant_of-far-then-has_red_root-2 g t c =
    let taken = outcome_of c.take_with_red_near_nephew-taken.result in
    let f = opened c.far.view_is c.in-Branch.is c.far.invariant c.in-Ok.ensures.value in
    let near_nephew = c.take_with_red_near_nephew-taken.new.near_nephew in
    let unique = c.make_unique.follows.holds (with_near (is_right c.args.side) c.in-Ok.sibling.now near_nephew) (rw c.in-Ok.is refl) in
    let given = rw c.near_mut-near_nephew.ensures.value at c.take_with_red_near_nephew-taken.ensures.taken in
    whole c.in-Branch.own c.count.result (c.make_unique.follows.lender (with_near (is_right c.args.side) c.in-Ok.sibling.now near_nephew)) (with_near (is_right c.args.side) c.in-Ok.sibling.now near_nephew) unique (near_even (is_right c.args.side) g.S.Seek.looks c.args.sought c.args.color.now c.args.near.now c.args.entry.now c.requires.even f c.requires.black c.take_with_red_near_nephew-taken.new.near c.take_with_red_near_nephew-taken.new.entry near_nephew taken given) c.count.ensures c.prove_sound-then-has_red_root-2.ensures.left c.prove_sound-then-has_red_root-2.ensures.right

pub take_with_black_sibling-returns-then-has_red_root-2-clause-taken : goal.take_with_black_sibling-returns-then-has_red_root-2-clause-taken
take_with_black_sibling-returns-then-has_red_root-2-clause-taken g t c =
    let taken = outcome_of c.take_with_red_near_nephew-taken.result in
    let f = opened c.far.view_is c.in-Branch.is c.far.invariant c.in-Ok.ensures.value in
    let near_nephew = c.take_with_red_near_nephew-taken.new.near_nephew in
    let unique = c.make_unique.follows.holds (with_near (is_right c.args.side) c.in-Ok.sibling.now near_nephew) (rw c.in-Ok.is refl) in
    let given = rw c.near_mut-near_nephew.ensures.value at c.take_with_red_near_nephew-taken.ensures.taken in
    near_settled (is_right c.args.side) g.S.Seek.looks c.args.sought c.args.color.now c.args.near.now c.args.entry.now c.requires.even f c.requires.black c.take_with_red_near_nephew-taken.new.near c.take_with_red_near_nephew-taken.new.entry near_nephew taken (shape_of (painted c.in-Branch.own (c.make_unique.follows.lender (with_near (is_right c.args.side) c.in-Ok.sibling.now near_nephew)).value)) given (ap (λ n. shape_of (painted c.in-Branch.own n)) unique)

pub take_with_black_sibling-invariant_of-far-2 : goal.take_with_black_sibling-invariant_of-far-2
take_with_black_sibling-invariant_of-far-2 g t c =
    let taken = outcome_of c.take-taken.result in
    let f = opened c.far.view_is c.in-Branch.is c.far.invariant c.in-Ok.ensures.value in
    let paint = rw c.is_shorter.ensures at c.paint_if.ensures in
    let unique = c.make_unique.follows.holds c.in-Ok.sibling.now (rw c.in-Ok.is refl) in
    let size = counted_at c.far.view_is c.in-Branch.is c.far.invariant ∙ ap (λ (s : Shape _ _). counted (length s.entries)) f.same in
    let beyond = rw c.far-2.ensures at (c.has_red_root.ensures.no c.if-has_red_root.false) in
    let beside = rw c.near.ensures at (c.has_red_root-2.ensures.no c.if-has_red_root-2.false) in
    painted_red (is_right c.args.side) (got_shorter taken) c.paint_if.new.own c.in-Branch.own c.in-Branch.count (c.make_unique.follows.lender c.in-Ok.sibling.now) c.in-Ok.sibling.now unique paint f.even beside beyond size c.prove_sound.ensures.left c.prove_sound.ensures.right

pub take_with_black_sibling-returns-clause-taken : goal.take_with_black_sibling-returns-clause-taken
take_with_black_sibling-returns-clause-taken g t c =
    let taken = outcome_of c.take-taken.result in
    let f = opened c.far.view_is c.in-Branch.is c.far.invariant c.in-Ok.ensures.value in
    let paint = rw c.is_shorter.ensures at c.paint_if.ensures in
    let unique = c.make_unique.follows.holds c.in-Ok.sibling.now (rw c.in-Ok.is refl) in
    let p = painted_only (got_shorter taken) _ _ _ c.in-Ok.sibling.now paint in
    rw c.lost_under.ensures.loss (plain_settled (is_right c.args.side) g.S.Seek.looks c.args.sought c.args.color.now c.args.near.now c.args.entry.now c.requires.even f c.requires.black c.take-taken.new.tree (painted c.paint_if.new.own c.in-Ok.sibling.now) c.lost_under.new.color (shape_of (painted c.paint_if.new.own (c.make_unique.follows.lender c.in-Ok.sibling.now).value)) taken c.take-taken.ensures.taken p c.lost_under.ensures.black (ap (λ n. shape_of (painted c.paint_if.new.own n)) unique))

pub take_with_black_sibling-returns-in_default-make_unique-clause-steps :
    goal.take_with_black_sibling-returns-in_default-make_unique-clause-steps
take_with_black_sibling-returns-in_default-make_unique-clause-steps g t c = made_one c.make_unique.ensures.made (omega arith)

pub take_with_black_sibling-returns-then-has_red_root-clause-steps : goal.take_with_black_sibling-returns-then-has_red_root-clause-steps
take_with_black_sibling-returns-then-has_red_root-clause-steps g t c =
    made_first c.make_unique.ensures.made c.take_with_red_far_nephew-taken.ensures.steps (omega arith)

pub take_with_black_sibling-returns-then-has_red_root-2-clause-steps : goal.take_with_black_sibling-returns-then-has_red_root-2-clause-steps
take_with_black_sibling-returns-then-has_red_root-2-clause-steps g t c = made_first c.make_unique.ensures.made c.take_with_red_near_nephew-taken.ensures.steps (omega arith)

pub take_with_black_sibling-returns-clause-steps : goal.take_with_black_sibling-returns-clause-steps
take_with_black_sibling-returns-clause-steps g t c = made_first c.make_unique.ensures.made c.take-taken.ensures.steps (omega arith)

pub take_with_black_sibling-invariant_of-far : goal.take_with_black_sibling-invariant_of-far
take_with_black_sibling-invariant_of-far g t c = grind (arith, common_steps)

pub take_with_black_sibling-take_with_red_near_nephew-taken-requires : goal.take_with_black_sibling-take_with_red_near_nephew-taken-requires
take_with_black_sibling-take_with_red_near_nephew-taken-requires g t c κs within =
    let f = opened c.far.view_is c.in-Branch.is c.far.invariant c.in-Ok.ensures.value in
    let v = c.near_mut-near_nephew.ensures.value in
    let red = rw c.near.ensures at (c.has_red_root-2.ensures.yes c.if-has_red_root-2.true) in
    (omega (arith, c.decreases), (within.0, (within.1.0, (within.1.1.0, (within.1.1.1, (rw v red, (rw v (nephew_lower (is_right c.args.side) g.S.Seek.looks c.args.sought c.args.color.now c.args.near.now c.args.entry.now c.requires.even f c.requires.black), c.requires.ready)))))))

pub take_with_red_sibling-invariant_of-far-2 : goal.take_with_red_sibling-invariant_of-far-2
take_with_red_sibling-invariant_of-far-2 g t c =
    let taken = outcome_of c.take_with_black_sibling-taken.result in
    let r = is_right c.args.side in
    let f = opened c.far.view_is c.in-Branch.is c.far.invariant c.in-Ok.ensures.value in
    let near_nephew = c.take_with_black_sibling-taken.new.far in
    let unique = c.make_unique.follows.holds c.rotate_if.new.far (rw c.in-Ok.is refl) in
    let given = rw c.near_mut-near_nephew.ensures.value at c.take_with_black_sibling-taken.ensures.taken in
    let told = sym c.is_taken-removed.ensures in
    let size = counted_at c.far.view_is c.in-Branch.is c.far.invariant ∙ ap (λ (s : Shape _ _). counted (length s.entries)) f.same in
    turned_whole r c.take_with_black_sibling-taken.new.color c.take_with_black_sibling-taken.new.near c.take_with_black_sibling-taken.new.entry c.in-Branch.own (with_near r c.in-Ok.sibling.now near_nephew) c.is_taken-removed.result c.paint_if.new.own c.recount_if.new.count c.in-Branch.count (c.make_unique.follows.lender c.rotate_if.new.far) c.rotate_if.new.far unique c.rotate_if.ensures.below c.paint_if.ensures c.recount_if.ensures (λ h. size ∙ ap (λ n. counted (length (shape_of n).entries)) (sym (below_again r g.S.Seek.looks c.args.sought c.args.near.now c.args.entry.now c.requires.level f c.take_with_black_sibling-taken.new.color c.take_with_black_sibling-taken.new.near c.take_with_black_sibling-taken.new.entry near_nephew taken given (told ∙ h)))) (λ h. below_turned_even r g.S.Seek.looks c.args.sought c.args.near.now c.args.entry.now c.requires.level f c.take_with_black_sibling-taken.new.color c.take_with_black_sibling-taken.new.near c.take_with_black_sibling-taken.new.entry near_nephew taken given (told ∙ h)) (λ h. below_even_again r g.S.Seek.looks c.args.sought c.args.near.now c.args.entry.now c.requires.level f c.take_with_black_sibling-taken.new.color c.take_with_black_sibling-taken.new.near c.take_with_black_sibling-taken.new.entry near_nephew taken given (told ∙ h)) c.prove_sound-2.ensures c.prove_sound-3.ensures.left c.prove_sound-3.ensures.right

pub take_with_red_sibling-returns-clause-taken : goal.take_with_red_sibling-returns-clause-taken
take_with_red_sibling-returns-clause-taken g t c =
    let taken = outcome_of c.take_with_black_sibling-taken.result in
    let f = opened c.far.view_is c.in-Branch.is c.far.invariant c.in-Ok.ensures.value in
    let near_nephew = c.take_with_black_sibling-taken.new.far in
    let unique = c.make_unique.follows.holds c.rotate_if.new.far (rw c.in-Ok.is refl) in
    let given = rw c.near_mut-near_nephew.ensures.value at c.take_with_black_sibling-taken.ensures.taken in
    let root = painted_if c.is_taken-removed.result _ _ _ _ _ _ c.paint_if.ensures c.rotate_if.ensures.below in
    let new = painted c.paint_if.new.own c.rotate_if.new.far in
    let t = turned (is_right c.args.side) c.take_with_black_sibling-taken.new.color c.take_with_black_sibling-taken.new.near c.take_with_black_sibling-taken.new.entry (with_near_part (is_right c.args.side) (painted c.in-Branch.own c.in-Ok.sibling.now) near_nephew) (has_taken taken) c.is_taken-removed.result c.is_taken-removed.ensures new c.rotate_if.new.near (shape_of (painted c.paint_if.new.own (c.make_unique.follows.lender c.rotate_if.new.far).value)) c.swap_if.new.b c.swap_if.new.a c.rotate_if.new.entry root c.rotate_if.ensures.above c.rotate_if.ensures.beside (ap (λ n. shape_of (painted c.paint_if.new.own n)) unique) c.swap_if.ensures.a c.swap_if.ensures.b in
    below_settled (is_right c.args.side) g.S.Seek.looks c.args.sought c.args.near.now c.args.entry.now c.requires.level f c.take_with_black_sibling-taken.new.color c.take_with_black_sibling-taken.new.near c.take_with_black_sibling-taken.new.entry near_nephew new c.swap_if.new.b c.rotate_if.new.entry c.swap_if.new.a taken (rest_all g.S.Seek.ready g.S.Seek.looks g.met.S.Seek.parts c.args.sought c.args.near.now.entries c.requires.ready) c.requires.red c.requires.black given t

pub take_with_red_sibling-returns-in_default-make_unique-clause-steps :
    goal.take_with_red_sibling-returns-in_default-make_unique-clause-steps
take_with_red_sibling-returns-in_default-make_unique-clause-steps g t c = made_one c.make_unique.ensures.made (omega arith)

pub take_with_red_sibling-returns-clause-steps : goal.take_with_red_sibling-returns-clause-steps
take_with_red_sibling-returns-clause-steps g t c = made_first c.make_unique.ensures.made c.take_with_black_sibling-taken.ensures.steps (omega arith)

pub take_with_red_sibling-invariant_of-far : goal.take_with_red_sibling-invariant_of-far
take_with_red_sibling-invariant_of-far g t c = grind (arith, common_steps)

pub take_with_red_sibling-take_with_black_sibling-taken-requires : goal.take_with_red_sibling-take_with_black_sibling-taken-requires
take_with_red_sibling-take_with_black_sibling-taken-requires g t c κs within =
    let f = opened c.far.view_is c.in-Branch.is c.far.invariant c.in-Ok.ensures.value in
    let v = c.near_mut-near_nephew.ensures.value in
    (omega (arith, c.decreases), (within.0, (within.1.0, (within.1.1.0, (within.1.1.1, (rw v (lower_even (is_right c.args.side) g.S.Seek.looks c.args.sought c.args.near.now c.args.entry.now c.args.far.now c.requires.level (painted c.in-Branch.own c.in-Ok.sibling.now) f.same f.even c.requires.red c.requires.black), (rw v (lower_color (is_right c.args.side) g.S.Seek.looks c.args.sought c.args.near.now c.args.entry.now c.args.far.now c.requires.level (painted c.in-Branch.own c.in-Ok.sibling.now) f.same f.even c.requires.red c.requires.black), (rw v (lower_node (is_right c.args.side) g.S.Seek.looks c.args.sought c.args.near.now c.args.entry.now c.args.far.now c.requires.level (painted c.in-Branch.own c.in-Ok.sibling.now) f.same f.even c.requires.red c.requires.black c.requires.node), c.requires.ready))))))))

pub take_from_near-returns-then-not-has_black_root-clause-taken : goal.take_from_near-returns-then-not-has_black_root-clause-taken
take_from_near-returns-then-not-has_black_root-clause-taken g t c =
    let taken = outcome_of c.take.result in
    let flat : c.args.near.now.color ≡ Black → c.args.near.now.black ≡ 0 = search rules in
    kept_flat (is_right c.args.side) g.S.Seek.looks c.args.sought c.args.color.now c.args.near.now c.args.entry.now c.args.far.now c.requires.even taken c.take.new.tree flat c.take.ensures.taken

pub take_from_near-returns-then-has_red_root-clause-taken : goal.take_from_near-returns-then-has_red_root-clause-taken
take_from_near-returns-then-has_red_root-clause-taken g t c =
    let call = c.take_with_red_sibling in
    let taken = outcome_of call.result in
    let black = black_over c.args.color.now c.args.far.now (far_under (is_right c.args.side) c.args.color.now c.args.near.now c.args.entry.now c.args.far.now c.requires.even) (c.has_red_root.ensures.yes c.if-has_red_root.true) in
    told_of_color (is_right c.args.side) g.S.Seek.looks c.args.sought c.args.color.now c.args.near.now c.args.entry.now c.args.far.now call.new.near call.new.entry call.new.far black taken call.ensures.taken

pub take_from_near-take_with_red_sibling-requires : goal.take_from_near-take_with_red_sibling-requires
take_from_near-take_with_red_sibling-requires g t c κs within =
    let root : (c.args.near.now.color ≡ Black) × (0 < c.args.near.now.black) = search rules in
    (omega (arith, c.decreases), (within.0, (within.1.0, (within.1.1.0, (within.1.1.1, (level_of (is_right c.args.side) c.args.color.now c.args.near.now c.args.entry.now c.args.far.now c.requires.even, (c.has_red_root.ensures.yes c.if-has_red_root.true, (root.0, (root.1, c.requires.ready)))))))))

pub take_from_near-returns-then-not-has_black_root-clause-steps : goal.take_from_near-returns-then-not-has_black_root-clause-steps
take_from_near-returns-then-not-has_black_root-clause-steps g t c = within_more c.take.ensures.steps (omega arith) (omega arith)

pub take_from_near-returns-then-has_red_root-clause-steps : goal.take_from_near-returns-then-has_red_root-clause-steps
take_from_near-returns-then-has_red_root-clause-steps g t c = c.take_with_red_sibling.ensures.steps

pub take_from_near-returns-else-has_red_root-clause-steps : goal.take_from_near-returns-else-has_red_root-clause-steps
take_from_near-returns-else-has_red_root-clause-steps g t c = within_more c.take_with_black_sibling.ensures.steps (omega arith) (omega arith)

pub take_in-take_from_near-requires : goal.take_in-take_from_near-requires
take_in-take_from_near-requires g t c κs within =
    let ready = rw c.in-Left.is at c.requires.ready in
    (omega (arith, c.decreases), (within.0, (within.1.0, (within.1.1.0, (within.1.1.1, (c.requires.even, ready))))))

pub take_in-take_from_near-requires-in-Right : goal.take_in-take_from_near-requires-in-Right
take_in-take_from_near-requires-in-Right g t c κs within =
    let even = c.requires.even in
    let ready = rw c.in-Right.is at c.requires.ready in
    (omega (arith, c.decreases), (within.0, (within.1.0, (within.1.1.0, (within.1.1.1, (record { level = even.level; left = even.left; right = even.right }, ready))))))

pub take_in-returns-in-Left-clause-taken : goal.take_in-returns-in-Left-clause-taken
take_in-returns-in-Left-clause-taken g t c =
    let call = c.take_from_near in
    let taken = outcome_of call.result in
    rw c.in-Left.is (taken_on_left _ _ (painted c.args.color.now c.args.node.now) call.new.color call.new.near call.new.entry call.new.far taken call.ensures.taken)

pub take_in-returns-in-Left-clause-steps : goal.take_in-returns-in-Left-clause-steps
take_in-returns-in-Left-clause-steps g t c = within_more c.take_from_near.ensures.steps (omega arith) (omega arith)

pub take_in-returns-in-Right-clause-taken : goal.take_in-returns-in-Right-clause-taken
take_in-returns-in-Right-clause-taken g t c =
    let call = c.take_from_near-in-Right in
    let taken = outcome_of call.result in
    rw c.in-Right.is (taken_on_right _ _ (painted c.args.color.now c.args.node.now) call.new.color call.new.near call.new.entry call.new.far taken call.ensures.taken)

pub take_in-returns-in-Right-clause-steps : goal.take_in-returns-in-Right-clause-steps
take_in-returns-in-Right-clause-steps g t c = within_more c.take_from_near-in-Right.ensures.steps (omega arith) (omega arith)

pub take-aim-aim-requires : goal.take-aim-aim-requires
take-aim-aim-requires g t c =
    let f = opened c.tree.view_is c.in-Branch.is c.tree.invariant c.in-Ok.ensures.value in
    rw f.same at c.requires.ready

pub take-invariant_of-tree-2 : goal.take-invariant_of-tree-2
take-invariant_of-tree-2 g t c =
    let n = c.in-Ok.root.now in
    let taken = outcome_of c.take_in-taken.result in
    let f = opened c.tree.view_is c.in-Branch.is c.tree.invariant c.in-Ok.ensures.value in
    let new = painted c.take_in-taken.new.color c.take_in-taken.new.node in
    let unique = c.make_unique.follows.holds c.take_in-taken.new.node (rw c.in-Ok.is refl) in
    let told = c.aim-aim.ensures.aim in
    let left = rw (sought_rest g.S.Seek.ready g.S.Seek.looks c.args.sought n c.aim-aim.result told, sought_finds g.S.Seek.ready g.S.Seek.looks c.args.sought n c.aim-aim.result told) at c.take_in-taken.ensures.taken in
    let even = root_even g.S.Seek.looks c.args.sought (painted c.in-Branch.color n) new taken f.even left in
    let ready = rw f.same at c.requires.ready in
    let was = counted_at c.tree.view_is c.in-Branch.is c.tree.invariant ∙ ap (λ (s : Shape _ _). counted (length s.entries)) f.same in
    let size = root_counted g.S.Seek.looks c.args.sought (painted c.in-Branch.color n) new taken c.count_taken.new.count c.in-Branch.count (length_rest g.S.Seek.ready g.S.Seek.looks g.met.S.Seek.parts c.args.sought _ ready) c.count_taken.ensures was left in
    whole c.take_in-taken.new.color c.count_taken.new.count (c.make_unique.follows.lender c.take_in-taken.new.node) c.take_in-taken.new.node unique even size c.prove_sound.ensures.left c.prove_sound.ensures.right

pub take-returns-clause-taken : goal.take-returns-clause-taken
take-returns-clause-taken g t c =
    let n = c.in-Ok.root.now in
    let taken = outcome_of c.take_in-taken.result in
    let f = opened c.tree.view_is c.in-Branch.is c.tree.invariant c.in-Ok.ensures.value in
    let new = painted c.take_in-taken.new.color c.take_in-taken.new.node in
    let unique = c.make_unique.follows.holds c.take_in-taken.new.node (rw c.in-Ok.is refl) in
    let told = c.aim-aim.ensures.aim in
    let left = rw (sought_rest g.S.Seek.ready g.S.Seek.looks c.args.sought n c.aim-aim.result told, sought_finds g.S.Seek.ready g.S.Seek.looks c.args.sought n c.aim-aim.result told) at c.take_in-taken.ensures.taken in
    root_settled g.S.Seek.looks c.args.sought (painted c.in-Branch.color n) new taken c.args.tree.now (shape_of (painted c.take_in-taken.new.color (c.make_unique.follows.lender c.take_in-taken.new.node).value)) f.same (ap (λ n. shape_of (painted c.take_in-taken.new.color n)) unique) left

pub take-returns-then-is_last-clause-taken : goal.take-returns-then-is_last-clause-taken
take-returns-then-is_last-clause-taken g t c =
    let n = c.in-Ok.root.now in
    let f = opened c.tree.view_is c.in-Branch.is c.tree.invariant c.in-Ok.ensures.value in
    let is_last = c.is_last.ensures.yes c.if-is_last.true in
    let told = c.aim-aim.ensures.aim in
    let here = rw is_last.0 at told in
    let loss = loss_under c.in-Branch.color in
    rw c.darken-loss.ensures.loss (last_settled g.S.Seek.ready g.S.Seek.looks c.args.sought (painted c.in-Branch.color n) c.args.tree.now f.same is_last.1 is_last.2 here loss refl)

pub take-returns-in_default-make_unique-clause-steps :
    goal.take-returns-in_default-make_unique-clause-steps
take-returns-in_default-make_unique-clause-steps g t c = grind (arith, common_steps)

pub take-returns-then-is_last-clause-steps : goal.take-returns-then-is_last-clause-steps
take-returns-then-is_last-clause-steps g t c = grind (arith, common_steps)

pub take-returns-clause-steps : goal.take-returns-clause-steps
take-returns-clause-steps g t c = grind (arith, common_steps)

pub take-invariant_of-tree : goal.take-invariant_of-tree
take-invariant_of-tree g t c = grind (arith, common_steps)

pub take-invariant_of-tree-in_default-make_unique : goal.take-invariant_of-tree-in_default-make_unique
take-invariant_of-tree-in_default-make_unique g t c = grind (arith, common_steps)
