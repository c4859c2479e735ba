use Rattle.rpds_vector.proofs.Words.{◌∷◌, [], sym, arith, common_steps}
use Rattle.rpds_vector.proofs.OpenNodes.{open_leaf}
use Rattle.rpds_vector.proofs.Places.{in_branch, low, same_bits}
use Rattle.rpds_vector.proofs.Changes.{last_at_end, last_child, last_room, end_below, branch_longer, branch_more, leaf_push}
use Rattle.rpds_vector.proofs.vector.node.Node.+push.Goals as goal

pub push-requires : goal.push-requires
push-requires g t c κs within =
    let a = in_branch c.args.index c.args.height c.self.view_is c.in-Branch.is c.self.invariant c.requires.level c.bucket-place.ensures in
    let l = last_at_end a c.requires.end (omega (arith, c.if-place-len.true, c.len.ensures, c.in-Branch.children.ok.0)) c.index.ensures in
    let k = last_child l a in
    rw c.deref.ensures (omega (arith, k.falls, c.decreases), (within.0, (within.1, (k.level, (k.shift 64 c.requires.shift, end_below l a c.requires.end)))))

pub new-requires : goal.new-requires
new-requires g t c =
    let a = in_branch c.args.index c.args.height c.self.view_is c.in-Branch.is c.self.invariant c.requires.level c.bucket-place.ensures in
    let l = last_at_end a c.requires.end (omega (arith, c.if-place-len.true, c.len.ensures, c.in-Branch.children.ok.0)) c.index.ensures in
    let new = branch_longer l (c.args.item.value ∷ []) (last_room l a c.requires.end 1 (omega (arith, low a))) _ (rw c.deref.ensures at c.in_ok-child-in-Branch.ensures.ok) in
    rw (c.in_ok-children-in-Branch.ensures, c.deref-then-place-len.ensures.value) new.sound

pub returns-then-place-len-clause-ok : goal.returns-then-place-len-clause-ok
returns-then-place-len-clause-ok g t c =
    let a = in_branch c.args.index c.args.height c.self.view_is c.in-Branch.is c.self.invariant c.requires.level c.bucket-place.ensures in
    let l = last_at_end a c.requires.end (omega (arith, c.if-place-len.true, c.len.ensures, c.in-Branch.children.ok.0)) c.index.ensures in
    let new = branch_longer l (c.args.item.value ∷ []) (last_room l a c.requires.end 1 (omega (arith, low a))) _ (rw c.deref.ensures at c.in_ok-child-in-Branch.ensures.ok) in
    rw (c.in_ok-children-in-Branch.ensures, c.deref-then-place-len.ensures.value, new.is) at c.new.ensures.ok

pub new-requires-in-Branch : goal.new-requires-in-Branch
new-requires-in-Branch g t c =
    let a = in_branch c.args.index c.args.height c.self.view_is c.in-Branch.is c.self.invariant c.requires.level c.bucket-place.ensures in
    let path = rw c.in_ok-leaf-in-Branch.ensures.ok at c.in_ok-child-in-Branch-2.ensures.ok in
    let new = branch_more a c.requires.end (omega (arith, c.if-place-len.false, c.len.ensures, c.in-Branch.children.ok.0)) (rw c.deref-in-Branch.ensures at c.prove_sound.ensures) (sym (same_bits a)) path in
    rw (c.in_ok-children-in-Branch-2.ensures, c.deref-in-Branch-2.ensures.value) new.sound

pub returns-in_ok-children-in-Branch-2-clause-ok : goal.returns-in_ok-children-in-Branch-2-clause-ok
returns-in_ok-children-in-Branch-2-clause-ok g t c =
    let a = in_branch c.args.index c.args.height c.self.view_is c.in-Branch.is c.self.invariant c.requires.level c.bucket-place.ensures in
    let path = rw c.in_ok-leaf-in-Branch.ensures.ok at c.in_ok-child-in-Branch-2.ensures.ok in
    let new = branch_more a c.requires.end (omega (arith, c.if-place-len.false, c.len.ensures, c.in-Branch.children.ok.0)) (rw c.deref-in-Branch.ensures at c.prove_sound.ensures) (sym (same_bits a)) path in
    rw (c.in_ok-children-in-Branch-2.ensures, c.deref-in-Branch-2.ensures.value, new.is) at c.new-in-Branch.ensures.ok

pub new-requires-in-Leaf : goal.new-requires-in-Leaf
new-requires-in-Leaf g t c =
    let o = open_leaf c.self.view_is c.in-Leaf.is c.self.invariant in
    rw (c.in_ok-items-in-Leaf.ensures, c.deref-in-Leaf.ensures.value) (leaf_push o c.args.index c.args.height c.requires.level c.requires.end c.args.item.value).sound

pub returns-in_err-child-in-Branch-clause-refused : goal.returns-in_err-child-in-Branch-clause-refused
returns-in_err-child-in-Branch-clause-refused g t c = grind (arith, common_steps)

pub returns-in_err-children-in-Branch-clause-refused : goal.returns-in_err-children-in-Branch-clause-refused
returns-in_err-children-in-Branch-clause-refused g t c = grind (arith, common_steps)

pub returns-in_err-leaf-in-Branch-clause-refused : goal.returns-in_err-leaf-in-Branch-clause-refused
returns-in_err-leaf-in-Branch-clause-refused g t c = grind (arith, common_steps)

pub returns-in_err-child-in-Branch-2-clause-refused : goal.returns-in_err-child-in-Branch-2-clause-refused
returns-in_err-child-in-Branch-2-clause-refused g t c = grind (arith, common_steps)

pub returns-in_err-children-in-Branch-2-clause-refused : goal.returns-in_err-children-in-Branch-2-clause-refused
returns-in_err-children-in-Branch-2-clause-refused g t c = grind (arith, common_steps)

pub returns-then-place-len-clause-refused : goal.returns-then-place-len-clause-refused
returns-then-place-len-clause-refused g t c = grind (arith, common_steps)

pub returns-in_ok-children-in-Branch-2-clause-refused : goal.returns-in_ok-children-in-Branch-2-clause-refused
returns-in_ok-children-in-Branch-2-clause-refused g t c = grind (arith, common_steps)

pub returns-in_ok-items-in-Leaf-clause-refused : goal.returns-in_ok-items-in-Leaf-clause-refused
returns-in_ok-items-in-Leaf-clause-refused g t c = grind (arith, common_steps)

pub returns-then-place-len-clause-made : goal.returns-then-place-len-clause-made
returns-then-place-len-clause-made g t c = grind (arith, common_steps)

pub returns-in_ok-children-in-Branch-2-clause-made : goal.returns-in_ok-children-in-Branch-2-clause-made
returns-in_ok-children-in-Branch-2-clause-made g t c = grind (arith, common_steps)

pub returns-in_ok-items-in-Leaf-clause-made : goal.returns-in_ok-items-in-Leaf-clause-made
returns-in_ok-items-in-Leaf-clause-made g t c = grind (arith, common_steps)

pub returns-in_ok-items-in-Leaf-clause-ok : goal.returns-in_ok-items-in-Leaf-clause-ok
returns-in_ok-items-in-Leaf-clause-ok g t c = grind (arith, common_steps)
