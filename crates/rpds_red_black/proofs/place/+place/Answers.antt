use Rattle.rpds_red_black.proofs.Words.{rules, length, refl, sym, ap, ◌∙◌, arith, Red, Black, counted, painted, pairs_of, shape_of}
use Rattle.rpds_red_black.proofs.Words.{pair_of, Shape, is_right}
use Rattle.rpds_red_black.proofs.Insertion.{whole}
use Rattle.rpds_red_black.proofs.Placing.{placed_here}
use Rattle.rpds_red_black.proofs.Node.{counted_at}
use Rattle.rpds_red_black.proofs.OpenNodes.{opened}
use Rattle.rpds_red_black.proofs.Sides.{far_part, sound_far, whole_of}
use Rattle.rpds_red_black.proofs.Growth.{counted_grown, even_staying, recolored_near, refused, staying, still_painted, taller_even, taller_of, turned_even, turned_near, why_turned}
use Rattle.rpds_red_black.proofs.place.+place.Goals as goal

pub place_in-place_near-requires : goal.place_in-place_near-requires
place_in-place_near-requires g t c κs within =
    let told = rw (c.deref.ensures, c.in-Left.is) at c.aim-aim.ensures.aim in
    (omega (arith, c.decreases), (within.0, (within.1.0, (within.1.1.0, (within.1.1.1, (c.requires.even, (search rules, told.0)))))))

pub place_in-place_near-requires-in-Right : goal.place_in-place_near-requires-in-Right
place_in-place_near-requires-in-Right g t c κs within =
    let even = c.requires.even in
    let told = rw (c.deref.ensures, c.in-Right.is) at c.aim-aim.ensures.aim in
    (omega (arith, c.decreases), (within.0, (within.1.0, (within.1.1.0, (within.1.1.1, (record { level = even.level; left = even.left; right = even.right }, (search rules, told.0)))))))

pub place_in-returns-in-Here-clause-ok : goal.place_in-returns-in-Here-clause-ok
place_in-returns-in-Here-clause-ok g t c =
    let told = rw (c.deref.ensures, c.in-Here.is) at c.aim-aim.ensures.aim in
    placed_here c.args.entry (painted c.args.color c.args.node.now) _ told c.requires.even c.args.lean

pub place_near-invariant_of-near-then-stays : goal.place_near-invariant_of-near-then-stays
place_near-invariant_of-near-then-stays g t c =
    let m = c.place_in-grown.new.node in
    let old = painted c.in-Branch.own c.in_ok-node.node.now in
    let new = painted c.in-Branch.own m in
    let f = opened c.near.view_is c.in-Branch.is c.near.invariant c.in_ok-node.ensures.value in
    let grown = rw (← ap (λ (s : Shape _ _). s.entries) f.same) at c.place_in-grown.ensures.ok in
    let err = still_painted c.in-Branch.own c.in_ok-node.node.now m c.place_in-grown.result c.place_in-grown.ensures.err in
    let unique = c.make_unique.follows.holds m (rw c.in_ok-node.was refl) in
    let size = counted_grown c.args.near.now old new (g.P.Place.placed c.args.place (pair_of c.args.entry.value) c.args.near.now.entries) c.args.side c.place_in-grown.result c.in-Branch.count c.count_added.new.count f.same (counted_at c.near.view_is c.in-Branch.is c.near.invariant) c.count_added.ensures grown err in
    let stays = sym c.stays.ensures ∙ c.if-stays.true in
    whole c.in-Branch.own c.count_added.new.count (c.make_unique.follows.lender m) m unique (even_staying c.args.side c.args.lean c.args.color c.args.near.now c.args.above.now c.args.far.now c.requires.even old new f.same (g.P.Place.placed c.args.place (pair_of c.args.entry.value) c.args.near.now.entries) c.is.result c.is.ensures.yes c.place_in-grown.result stays f.even grown err) size c.prove_sound-2.ensures.left c.prove_sound-2.ensures.right

pub place_near-returns-then-stays-clause-ok : goal.place_near-returns-then-stays-clause-ok
place_near-returns-then-stays-clause-ok g t c =
    let m = c.place_in-grown.new.node in
    let old = painted c.in-Branch.own c.in_ok-node.node.now in
    let new = painted c.in-Branch.own m in
    let f = opened c.near.view_is c.in-Branch.is c.near.invariant c.in_ok-node.ensures.value in
    let grown = rw (← ap (λ (s : Shape _ _). s.entries) f.same) at c.place_in-grown.ensures.ok in
    let unique = c.make_unique.follows.holds m (rw c.in_ok-node.was refl) in
    let stays = sym c.stays.ensures ∙ c.if-stays.true in
    staying c.args.side c.args.lean c.args.color c.args.near.now c.args.above.now c.args.far.now c.requires.even old new f.same (g.P.Place.placed c.args.place (pair_of c.args.entry.value) c.args.near.now.entries) c.is.result c.is.ensures.yes c.place_in-grown.result (shape_of (painted c.in-Branch.own (c.make_unique.follows.lender m).value)) stays (ap (λ n. shape_of (painted c.in-Branch.own n)) unique) grown

pub place_near-returns-then-stays-clause-err : goal.place_near-returns-then-stays-clause-err
place_near-returns-then-stays-clause-err g t c =
    let own = c.in-Branch.own in
    let m = c.place_in-grown.new.node in
    let old = painted own c.in_ok-node.node.now in
    let new = painted own m in
    let f = opened c.near.view_is c.in-Branch.is c.near.invariant c.in_ok-node.ensures.value in
    let err = still_painted own c.in_ok-node.node.now m c.place_in-grown.result c.place_in-grown.ensures.err in
    let unique = c.make_unique.follows.holds m (rw c.in_ok-node.was refl) in
    refused c.args.side c.args.lean c.args.color c.args.near.now c.args.above.now c.args.far.now c.requires.even old new f.same c.place_in-grown.result (shape_of (painted own (c.make_unique.follows.lender m).value)) (ap (λ n. shape_of (painted own n)) unique) err

pub place_near-invariant_of-near-then-are_black : goal.place_near-invariant_of-near-then-are_black
place_near-invariant_of-near-then-are_black g t c =
    let m = c.place_in-grown.new.node in
    let old = painted c.in-Branch.own c.in_ok-node.node.now in
    let new = painted c.in-Branch.own m in
    let f = opened c.near.view_is c.in-Branch.is c.near.invariant c.in_ok-node.ensures.value in
    let grown = rw (← ap (λ (s : Shape _ _). s.entries) f.same) at c.place_in-grown.ensures.ok in
    let err = still_painted c.in-Branch.own c.in_ok-node.node.now m c.place_in-grown.result c.place_in-grown.ensures.err in
    let unique = c.make_unique.follows.holds m (rw c.in_ok-node.was refl) in
    let size = counted_grown c.args.near.now old new (g.P.Place.placed c.args.place (pair_of c.args.entry.value) c.args.near.now.entries) c.args.side c.place_in-grown.result c.in-Branch.count c.count_added.new.count f.same (counted_at c.near.view_is c.in-Branch.is c.near.invariant) c.count_added.ensures grown err in
    let put = taller_of c.args.side c.args.lean c.args.color c.args.near.now c.args.above.now c.args.far.now c.requires.even old new f.same c.is.result _ c.place_in-grown.result (sym c.stays.ensures ∙ c.if-stays.false) grown in
    let black = c.are_black.ensures.yes c.if-are_black.true in
    let even = taller_even old new (sym put.grown.stays ∙ black.1) put in
    whole Red c.count_added.new.count (c.make_unique.follows.lender m) m unique (record { level = even.level; left = put.grown.over_left; right = put.grown.over_right }) size c.prove_sound-2.ensures.left c.prove_sound-2.ensures.right

pub place_near-returns-then-are_black-clause-ok : goal.place_near-returns-then-are_black-clause-ok
place_near-returns-then-are_black-clause-ok g t c =
    let m = c.place_in-grown.new.node in
    let old = painted c.in-Branch.own c.in_ok-node.node.now in
    let new = painted c.in-Branch.own m in
    let f = opened c.near.view_is c.in-Branch.is c.near.invariant c.in_ok-node.ensures.value in
    let grown = rw (← ap (λ (s : Shape _ _). s.entries) f.same) at c.place_in-grown.ensures.ok in
    let unique = c.make_unique.follows.holds m (rw c.in_ok-node.was refl) in
    let put = taller_of c.args.side c.args.lean c.args.color c.args.near.now c.args.above.now c.args.far.now c.requires.even old new f.same c.is.result _ c.place_in-grown.result (sym c.stays.ensures ∙ c.if-stays.false) grown in
    let black = c.are_black.ensures.yes c.if-are_black.true in
    recolored_near c.args.side c.args.lean c.args.color c.args.near.now c.args.above.now c.args.far.now c.requires.even old new f.same (shape_of (painted Red (c.make_unique.follows.lender m).value)) (ap (λ n. shape_of (painted Red n)) unique) black.0 black.1 put

pub place_near-invariant_of-near-2 : goal.place_near-invariant_of-near-2
place_near-invariant_of-near-2 g t c =
    let m = c.place_in-grown.new.node in
    let old = painted c.in-Branch.own c.in_ok-node.node.now in
    let new = painted c.in-Branch.own m in
    let f = opened c.near.view_is c.in-Branch.is c.near.invariant c.in_ok-node.ensures.value in
    let grown = rw (← ap (λ (s : Shape _ _). s.entries) f.same) at c.place_in-grown.ensures.ok in
    let put = taller_of c.args.side c.args.lean c.args.color c.args.near.now c.args.above.now c.args.far.now c.requires.even old new f.same c.is.result _ c.place_in-grown.result (sym c.stays.ensures ∙ c.if-stays.false) grown in
    let why = why_turned c.args.side c.args.lean c.args.color c.args.near.now c.args.above.now c.args.far.now c.requires.even old new f.same c.is.result c.place_in-grown.result (sym c.stays.ensures ∙ c.if-stays.false) c.is.ensures.no (c.are_black.ensures.no c.if-are_black.false) in
    let unique = c.make_unique.follows.holds c.rotate_away.new.near (rw c.in_ok-node.was refl) in
    whole_of (is_right c.args.side) (c.make_unique.follows.lender c.rotate_away.new.near) Black c.count.result (far_part (is_right c.args.side) new) c.args.above.now c.args.far.now (unique ∙ c.rotate_away.ensures.below) (turned_even c.args.side c.args.lean c.args.color c.args.near.now c.args.above.now c.args.far.now c.requires.even old new f.same put why) (c.count.ensures ∙ ap (λ n. counted (length (pairs_of n))) c.rotate_away.ensures.below) (sound_far (is_right c.args.side) new c.prove_sound-2.ensures.left c.prove_sound-2.ensures.right) c.prove_sound.ensures

pub place_near-returns-clause-ok : goal.place_near-returns-clause-ok
place_near-returns-clause-ok g t c =
    let m = c.place_in-grown.new.node in
    let old = painted c.in-Branch.own c.in_ok-node.node.now in
    let new = painted c.in-Branch.own m in
    let f = opened c.near.view_is c.in-Branch.is c.near.invariant c.in_ok-node.ensures.value in
    let grown = rw (← ap (λ (s : Shape _ _). s.entries) f.same) at c.place_in-grown.ensures.ok in
    let put = taller_of c.args.side c.args.lean c.args.color c.args.near.now c.args.above.now c.args.far.now c.requires.even old new f.same c.is.result _ c.place_in-grown.result (sym c.stays.ensures ∙ c.if-stays.false) grown in
    let why = why_turned c.args.side c.args.lean c.args.color c.args.near.now c.args.above.now c.args.far.now c.requires.even old new f.same c.is.result c.place_in-grown.result (sym c.stays.ensures ∙ c.if-stays.false) c.is.ensures.no (c.are_black.ensures.no c.if-are_black.false) in
    let unique = c.make_unique.follows.holds c.rotate_away.new.near (rw c.in_ok-node.was refl) in
    turned_near c.args.side c.args.lean c.args.color c.args.near.now c.args.above.now c.args.far.now c.requires.even old new f.same put why c.swap.new.x c.swap.new.y c.rotate_away.new.entry (c.swap.ensures.x_after ∙ c.rotate_away.ensures.beside) c.rotate_away.ensures.above (c.swap.ensures.y_after ∙ ap (λ n. shape_of (painted Black n)) (unique ∙ c.rotate_away.ensures.below))
