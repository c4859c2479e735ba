use Rattle.rpds_red_black.specs.Take.{outcome_of}
use Rattle.rpds_red_black.proofs.Words.{◌∙◌, length, refl, sym, ap, arith, common_steps, Black, counted, painted, shape_of, Shape}
use Rattle.rpds_red_black.proofs.Insertion.{whole}
use Rattle.rpds_red_black.proofs.Node.{counted_at}
use Rattle.rpds_red_black.proofs.OpenNodes.{copied, opened}
use Rattle.rpds_red_black.proofs.Settled.{last_found, last_pairs, root_counted, root_even, told}
use Rattle.rpds_red_black.proofs.Take.{length_rest, sought_copy, sought_finds, sought_rest}
use Rattle.rpds_red_black.proofs.tree.Tree.take_sought.Goals as goal

pub invariant_of-self-2 : goal.invariant_of-self-2
invariant_of-self-2 g c =
    let n = c.in_ok-root.root.now in
    let f = opened c.self.view_is c.in-Branch.is c.self.invariant c.in_ok-root.ensures.value in
    let taken = outcome_of c.take_in-taken.result in
    let m = c.take_in-taken.new.node in
    let new = painted c.take_in-taken.new.color m in
    let unique = c.make_unique.follows.holds m (rw c.in_ok-root.was refl) in
    let aimed = sought_copy g.S.Seek.ready g.S.Seek.looks c.args.sought c.in-Branch.root.value n c.aim-aim.result (copied c.in-Branch.root.value n c.in_ok-root.ensures.value) (rw c.deref.ensures at c.aim-aim.ensures.aim) in
    let left = rw (sought_rest g.S.Seek.ready g.S.Seek.looks c.args.sought n c.aim-aim.result aimed, sought_finds g.S.Seek.ready g.S.Seek.looks c.args.sought n c.aim-aim.result aimed) at c.take_in-taken.ensures.taken in
    let black = record (painted c.in-Branch.color n) { color = Black } in
    let even = root_even g.S.Seek.looks c.args.sought black new taken (record { level = f.even.level; left = tt; right = tt }) left in
    let ready = rw f.same at c.requires.ready in
    let was = counted_at c.self.view_is c.in-Branch.is c.self.invariant ∙ ap (λ (s : Shape _ _). counted (length s.entries)) f.same in
    let size = root_counted g.S.Seek.looks c.args.sought black new taken c.count_taken.new.count c.in-Branch.count (length_rest g.S.Seek.ready g.S.Seek.looks g.met.S.Seek.parts c.args.sought _ ready) c.count_taken.ensures was left in
    whole c.take_in-taken.new.color c.count_taken.new.count (c.make_unique.follows.lender m) m unique even size c.prove_sound.ensures.left c.prove_sound.ensures.right

pub returns : goal.returns
returns g c =
    let n = c.in_ok-root.root.now in
    let f = opened c.self.view_is c.in-Branch.is c.self.invariant c.in_ok-root.ensures.value in
    let taken = outcome_of c.take_in-taken.result in
    let m = c.take_in-taken.new.node in
    let new = painted c.take_in-taken.new.color m in
    let unique = ap (λ n. shape_of (painted c.take_in-taken.new.color n)) (c.make_unique.follows.holds m (rw c.in_ok-root.was refl)) in
    let aimed = sought_copy g.S.Seek.ready g.S.Seek.looks c.args.sought c.in-Branch.root.value n c.aim-aim.result (copied c.in-Branch.root.value n c.in_ok-root.ensures.value) (rw c.deref.ensures at c.aim-aim.ensures.aim) in
    let left = rw (sought_rest g.S.Seek.ready g.S.Seek.looks c.args.sought n c.aim-aim.result aimed, sought_finds g.S.Seek.ready g.S.Seek.looks c.args.sought n c.aim-aim.result aimed) at c.take_in-taken.ensures.taken in
    let t = told g.S.Seek.looks c.args.sought (painted c.in-Branch.color n) new c.args.self.now (shape_of (painted c.take_in-taken.new.color (c.make_unique.follows.lender m).value)) f.same unique taken left in
    rw c.was_there.ensures record {
      pairs = t.pairs;
      found = t.found;
      absent = t.absent;
      black = t.black;
      err = t.err;
      steps = grind (arith, common_steps);
      compares = grind (arith, common_steps);
    }

pub returns-then-is_last : goal.returns-then-is_last
returns-then-is_last g c =
    let n = c.in_ok-root.root.now in
    let f = opened c.self.view_is c.in-Branch.is c.self.invariant c.in_ok-root.ensures.value in
    let is_last = c.is_last.ensures.yes c.if-is_last.true in
    let aimed = sought_copy g.S.Seek.ready g.S.Seek.looks c.args.sought c.in-Branch.root.value n c.aim-aim.result (copied c.in-Branch.root.value n c.in_ok-root.ensures.value) (rw c.deref.ensures at c.aim-aim.ensures.aim) in
    let here = rw is_last.0 at aimed in
    let root = painted c.in-Branch.color n in
    record {
      pairs = sym (last_pairs g.S.Seek.ready g.S.Seek.looks c.args.sought root c.args.self.now f.same is_last.1 is_last.2 here);
      found = sym (last_found g.S.Seek.ready g.S.Seek.looks c.args.sought root c.args.self.now f.same is_last.1 is_last.2 here);
      absent = λ e. cc;
      black = refl;
      err = tt;
      steps = grind (arith, common_steps);
      compares = grind (arith, common_steps);
    }

pub returns-in_err-root : goal.returns-in_err-root
returns-in_err-root g c = grind (arith, common_steps)
