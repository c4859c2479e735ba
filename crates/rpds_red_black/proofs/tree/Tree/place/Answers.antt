use Rattle.rpds_red_black.proofs.Words.{◌∙◌, length, refl, ap, arith, common_steps, Shape, counted, painted, shape_of, pair_of, Left, Black}
use Rattle.rpds_red_black.proofs.Growth.{black_root_even, counted_grown, inserted, still_painted}
use Rattle.rpds_red_black.proofs.Insertion.{whole}
use Rattle.rpds_red_black.proofs.Node.{counted_at}
use Rattle.rpds_red_black.proofs.OpenNodes.{opened}
use Rattle.rpds_red_black.proofs.tree.Tree.place.Goals as goal

pub invariant_of-self-2 : goal.invariant_of-self-2
invariant_of-self-2 g c =
    let n = c.in_ok-root.root.now in
    let m = c.place_in-grown.new.node in
    let f = opened c.self.view_is c.in-Branch.is c.self.invariant c.in_ok-root.ensures.value in
    let unique = c.make_unique.follows.holds m (rw c.in_ok-root.was refl) in
    let old = painted Black n in
    let new = painted Black m in
    let err = still_painted Black n m c.place_in-grown.result c.place_in-grown.ensures.err in
    let was = counted_at c.self.view_is c.in-Branch.is c.self.invariant ∙ ap (λ (s : Shape _ _). counted (length s.entries)) f.same in
    let even = black_root_even old new _ Left c.place_in-grown.result refl (record { level = f.even.level; left = tt; right = tt }) c.place_in-grown.ensures.ok err in
    let size = counted_grown (shape_of old) old new _ Left c.place_in-grown.result c.in-Branch.count c.count_added.new.count refl was c.count_added.ensures c.place_in-grown.ensures.ok err in
    whole Black c.count_added.new.count (c.make_unique.follows.lender m) m unique even size c.prove_sound-2.ensures.left c.prove_sound-2.ensures.right

pub returns : goal.returns
returns g c =
    let n = c.in_ok-root.root.now in
    let m = c.place_in-grown.new.node in
    let f = opened c.self.view_is c.in-Branch.is c.self.invariant c.in_ok-root.ensures.value in
    let unique = ap (λ n. shape_of (painted Black n)) (c.make_unique.follows.holds m (rw c.in_ok-root.was refl)) in
    let grown = rw (← ap (λ (s : Shape _ _). s.entries) f.same) at c.place_in-grown.ensures.ok in
    let t = inserted c.in-Branch.color n m (g.P.Place.placed c.args.place (pair_of c.args.entry.value) c.args.self.now.entries) Left c.args.self.now (shape_of (painted Black (c.make_unique.follows.lender m).value)) c.place_in-grown.result f.same unique grown c.place_in-grown.ensures.err in
    rw c.was_added.ensures record {
      pairs = t.pairs;
      count = t.count;
      black = t.black;
      err = t.err;
      steps = grind (arith, common_steps);
      makes = grind (arith, common_steps);
      compares = grind (arith, common_steps);
    }
