use Rattle.rpds_vector.proofs.Words.{◌≡◌, ◌+◌, ap, refl, ◌∙◌, arith, common_steps, Trie, IsSound}
use Rattle.rpds_vector.proofs.Changes.{path_sound}
use Rattle.rpds_vector.proofs.vector.node.Node.+path.Goals as goal

pub new-requires : goal.new-requires
new-requires g t c =
    let k = c.in_ok-child.child.value in
    let bits : k.bits ≡ c.args.bits = ap (λ (t : Trie g.row.T.Denot). t.bits) c.in_ok-child.ensures.ok ∙ c.requires.same_bits in
    let sound : IsSound k = rw c.deref.ensures at c.prove_sound.ensures in
    rw (c.in_ok-children.ensures, ← bits) (path_sound k sound)

pub returns-then-height-eq0-clause-made : goal.returns-then-height-eq0-clause-made
returns-then-height-eq0-clause-made g t c =
    let e : c.args.steps.now.made + c.args.height ≡ c.args.steps.now.made = omega (arith, c.if-height-eq0.true) in
    rw e refl

pub returns-clause-made : goal.returns-clause-made
returns-clause-made g t c = grind (arith, common_steps)

pub returns-clause-refused : goal.returns-clause-refused
returns-clause-refused g t c = grind (arith, common_steps)

pub returns-in_err-child-clause-refused : goal.returns-in_err-child-clause-refused
returns-in_err-child-clause-refused g t c = grind (arith, common_steps)

pub returns-in_err-children-clause-refused : goal.returns-in_err-children-clause-refused
returns-in_err-children-clause-refused g t c = grind (arith, common_steps)
