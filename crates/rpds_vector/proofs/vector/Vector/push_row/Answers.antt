use Rattle.rpds_vector.proofs.Words.{◌≡◌, refl, ap, ◌∙◌, arith, length, length-append, common_steps, behind, behind_length, Contents}
use Rattle.rpds_vector.proofs.Roots.{opened, vector_more}
use Rattle.rpds_vector.proofs.vector.Vector.push_row.Goals as goal

pub push_leaf-requires-clause-leaf : goal.push_leaf-requires-clause-leaf
push_leaf-requires-clause-leaf g c =
    let size = behind_length c.args.row.items in
    record {
      bits_in = rw (ap (λ (s : Contents g.row.T.Denot). s.bits) c.self.view_is) at c.self.invariant.bits_in;
      some = grind (arith, common_steps);
      few = omega (arith, c.requires);
    }

pub invariant_of-self-in-Some : goal.invariant_of-self-in-Some
invariant_of-self-in-Some g c =
    let few : c.len.result ≡ length (behind c.args.row.items) = omega (arith, c.len.ensures, c.args.row.ok.0, behind_length c.args.row.items) in
    let made = c.in_ok-make_unique-in-Some.ensures.value in
    let o = opened c.self.view_is c.in-Some.is made c.self.invariant in
    let longer = c.make_unique.follows.holds c.push_row.new.self (rw c.in_ok-make_unique-in-Some.was refl) ∙ c.in_ok-push_row-in-Some.ensures in
    let size = length-append c.in_ok-make_unique-in-Some.field-0.now.items (behind c.args.row.items) in
    vector_more c.self.invariant.bits_in (c.make_unique.follows.lender c.push_row.new.self) _ o longer (omega (arith, c.in_ok-longer.ensures.sum, size, few, o.counted)) (omega (arith, c.in_ok-longer.ensures.sum))
