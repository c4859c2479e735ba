use Rattle.rpds_vector.proofs.Words.{refl, ◌∙◌, arith, common_steps, on_ok_weaker, behind}
use Rattle.rpds_vector.proofs.Builder.{longer_leaf, ready_leaf, no_leaf, all_in}
use Rattle.rpds_vector.proofs.vector.builder.Builder.push_shared.Goals as goal

pub returns-then-len-leaf_room : goal.returns-then-len-leaf_room
returns-then-len-leaf_room g c =
    longer_leaf c.self.inside.vector c.self.inside.leaf.items c.push.new.self.items c.args.item c.in_ok-push.ensures.items
    ∙ rw (← c.self.view_is) refl

pub push_leaf-requires-clause-leaf : goal.push_leaf-requires-clause-leaf
push_leaf-requires-clause-leaf g c =
    rw c.replace-leaf.ensures.value (ready_leaf c.self.inside.vector c.self.inside.leaf.items c.push.new.self.items c.args.item c.self.invariant c.in_ok-push.ensures.items)

pub invariant_of-self-2 : goal.invariant_of-self-2
invariant_of-self-2 g c =
    let none = rw (← c.replace-leaf.ensures.after) at c.new.ensures.items in
    no_leaf c.self.inside.vector c.push_leaf.new.self (behind c.replace-leaf.result.items) c.replace-leaf.new.dest.items c.self.invariant.bits_in c.push_leaf.result c.push_leaf.ensures.ok c.push_leaf.ensures.err none

pub returns : goal.returns
returns g c =
    let none = rw (← c.replace-leaf.ensures.after) at c.new.ensures.items in
    on_ok_weaker c.push_leaf.result (λ e.
    all_in c.push_leaf.new.self c.replace-leaf.new.dest.items none ∙ rw c.replace-leaf.ensures.value at e
    ∙ longer_leaf c.self.inside.vector c.self.inside.leaf.items c.push.new.self.items c.args.item c.in_ok-push.ensures.items
    ∙ rw (← c.self.view_is) refl) c.push_leaf.ensures.ok

pub invariant_of-self : goal.invariant_of-self
invariant_of-self g c = grind (arith, common_steps)

pub invariant_of-self-in_err-push : goal.invariant_of-self-in_err-push
invariant_of-self-in_err-push g c = grind (arith, common_steps)

pub invariant_of-self-then-len-leaf_room : goal.invariant_of-self-then-len-leaf_room
invariant_of-self-then-len-leaf_room g c = grind (arith, common_steps)

pub returns-then-not-has_full_leaves : goal.returns-then-not-has_full_leaves
returns-then-not-has_full_leaves g c = grind (arith, common_steps)
