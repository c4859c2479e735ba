use Rattle.rpds_vector.proofs.Words.{◌≡◌, ◌+◌, ◌-◌, [], ◌∷◌, ap, sym, ◌∙◌, arith, length, length-append, common_steps, Steps, Trie, IsFull, Contents, items_of, width, made_more, made_then}
use Rattle.rpds_vector.proofs.Roots.{IsNext, as_seen, next_of, width_next, full_root, vector_of, vector_over, vector_more}
use Rattle.rpds_vector.proofs.Levels.{width_one}
use Rattle.rpds_vector.proofs.vector.Vector.push_back_counted.Given.{Over}
use Rattle.rpds_vector.proofs.vector.Vector.push_back_counted.Goals as goal
use Rattle.rpds_vector.proofs.vector.Vector.push_back_counted.Goals.{After-height_for-height}

-- one item more
grown : (g : Over) (c : After-height_for-height g) → IsNext c.args.self.now c.deref-root.result.now c.self.inside.bits c.self.inside.len c.height_for-height.result c.height_for-next.result
grown g c =
    next_of c.self.view_is c.in-Some.is c.deref-root.ensures c.self.invariant c.prove_sound.ensures c.height_for-height.ensures.levels
    (rw c.in_ok-len.ensures.sum at c.height_for-next.ensures.levels)

width_now : (g : Over) (c : After-height_for-height g) → width (length c.args.self.now.items + 1) c.args.self.now.bits ≡ c.height_for-next.result + 1
width_now g c = width_next (grown g c) (rw c.in_ok-len.ensures.sum at c.height_for-next.ensures.levels)

pub push-requires-clause-level : goal.push-requires-clause-level
push-requires-clause-level g c =
    let i = grown g (goal.at.push-requires-clause-level g c).After-height_for-height in
    (i.stays c.if-next-height.false).1 ∙ i.same

pub above-requires-clause-full : goal.above-requires-clause-full
above-requires-clause-full g c =
    let i = grown g (goal.at.above-requires-clause-full g c).After-height_for-height in
    full_root i c.if-next-height.true (omega (arith, (i.grows c.if-next-height.true).1)) (sym c.deref-root.ensures)

pub with_root-requires : goal.with_root-requires
with_root-requires g c =
    let root = c.in_ok-root-in-None.ensures.ok in
    as_seen c.self.view_is (vector_of c.self.invariant.bits_in c.in_ok-root-in-None.root 1 (ap (λ (t : Trie g.row.T.Denot). t.bits) root) (ap (λ (t : Trie g.row.T.Denot). length t.items) root) (rw root (λ p. absurd (omega arith))))

pub with_root-requires-then-next-height : goal.with_root-requires-then-next-height
with_root-requires-then-next-height g c =
    let i = grown g (goal.at.with_root-requires-then-next-height g c).After-height_for-height in
    let full : IsFull c.self.inside.bits (c.height_for-next.result - 1) c.in-Some.shared.value = full_root i c.if-next-height.true (omega (arith, (i.grows c.if-next-height.true).1)) (sym c.deref-root.ensures) in
    let leaf = ap (λ (t : Trie g.row.T.Denot). t.items) c.in_ok-leaf-in-Some.ensures.ok in
    as_seen c.self.view_is (vector_over c.self.invariant.bits_in c.in_ok-higher-in-Some.higher (c.in_ok-item.item.value ∷ []) full (rw leaf at c.in_ok-higher-in-Some.ensures.ok) (omega (arith, c.in_ok-len.ensures.sum, i.o.counted, ap (λ (t : Trie g.row.T.Denot). length t.items) c.deref-root.ensures)) (omega arith))

pub with_root-requires-in-Some : goal.with_root-requires-in-Some
with_root-requires-in-Some g c =
    let i = grown g (goal.at.with_root-requires-in-Some g c).After-height_for-height in
    let size = length-append c.deref-root.result.now.items (c.in_ok-item.item.value ∷ []) in
    as_seen c.self.view_is (vector_more c.self.invariant.bits_in c.in_ok-longer-in-Some.longer _ i.o c.in_ok-longer-in-Some.ensures.ok (omega (arith, c.in_ok-len.ensures.sum, size, i.o.counted)) (omega (arith, c.in_ok-len.ensures.sum)))

pub returns-in_ok-root-in-None-clause-made : goal.returns-in_ok-root-in-None-clause-made
returns-in_ok-root-in-None-clause-made g c =
    let s = c.args.self.now in
    let empty : length s.items ≡ 0 = sym (ap (λ (t : Contents g.row.T.Denot). length t.items) c.self.view_is) ∙ ap (λ r. length (items_of r)) c.in-None.is in
    let bits = ap (λ (t : Contents g.row.T.Denot). t.bits) c.self.view_is in
    let one = width_one (length s.items + 1) s.bits (rw bits at c.self.invariant.bits_in.0) (omega (arith, empty)) in
    omega (arith, one, ap (λ (t : Steps). t.made) c.in_ok-root-in-None.ensures.made)

pub returns-in_ok-root-in-None-clause-ok : goal.returns-in_ok-root-in-None-clause-ok
returns-in_ok-root-in-None-clause-ok g c = grind (arith, common_steps)

pub returns-in_ok-root-in-None-clause-at_most : goal.returns-in_ok-root-in-None-clause-at_most
returns-in_ok-root-in-None-clause-at_most g c = grind (arith, common_steps)

pub returns-then-next-height-clause-ok : goal.returns-then-next-height-clause-ok
returns-then-next-height-clause-ok g c = grind (arith, common_steps)

pub returns-then-next-height-clause-made : goal.returns-then-next-height-clause-made
returns-then-next-height-clause-made g c =
    omega (arith, width_now g (goal.at.returns-then-next-height-clause-made g c).After-height_for-height, ap (λ (t : Steps). t.made) c.in_ok-leaf-in-Some.ensures.made, ap (λ (t : Steps). t.made) c.in_ok-higher-in-Some.ensures.made, c.if-next-height.true)

pub returns-then-next-height-clause-at_most : goal.returns-then-next-height-clause-at_most
returns-then-next-height-clause-at_most g c =
    made_more (made_then c.in_ok-leaf-in-Some.ensures.refused c.in_ok-higher-in-Some.ensures.refused)
    (omega (arith, width_now g (goal.at.returns-then-next-height-clause-at_most g c).After-height_for-height, c.if-next-height.true))

pub returns-in_ok-longer-in-Some-clause-ok : goal.returns-in_ok-longer-in-Some-clause-ok
returns-in_ok-longer-in-Some-clause-ok g c = grind (arith, common_steps)

pub returns-in_ok-longer-in-Some-clause-made : goal.returns-in_ok-longer-in-Some-clause-made
returns-in_ok-longer-in-Some-clause-made g c =
    omega (arith, width_now g (goal.at.returns-in_ok-longer-in-Some-clause-made g c).After-height_for-height, ap (λ (t : Steps). t.made) c.in_ok-longer-in-Some.ensures.made)

pub returns-in_ok-longer-in-Some-clause-at_most : goal.returns-in_ok-longer-in-Some-clause-at_most
returns-in_ok-longer-in-Some-clause-at_most g c =
    made_more c.in_ok-longer-in-Some.ensures.refused (omega (arith, width_now g (goal.at.returns-in_ok-longer-in-Some-clause-at_most g c).After-height_for-height))

pub returns-in_err-higher-in-Some-clause-at_most : goal.returns-in_err-higher-in-Some-clause-at_most
returns-in_err-higher-in-Some-clause-at_most g c =
    made_more (made_then c.in_ok-leaf-in-Some.ensures.refused c.in_err-higher-in-Some.ensures.refused)
    (omega (arith, width_now g (goal.at.returns-in_err-higher-in-Some-clause-at_most g c).After-height_for-height, c.if-next-height.true))

pub returns-in_err-leaf-in-Some-clause-at_most : goal.returns-in_err-leaf-in-Some-clause-at_most
returns-in_err-leaf-in-Some-clause-at_most g c =
    made_more c.in_err-leaf-in-Some.ensures.refused (omega (arith, width_now g (goal.at.returns-in_err-leaf-in-Some-clause-at_most g c).After-height_for-height))

pub returns-in_err-longer-in-Some-clause-at_most : goal.returns-in_err-longer-in-Some-clause-at_most
returns-in_err-longer-in-Some-clause-at_most g c =
    made_more c.in_err-longer-in-Some.ensures.refused (omega (arith, width_now g (goal.at.returns-in_err-longer-in-Some-clause-at_most g c).After-height_for-height))

pub returns-in_err-root-in-None-clause-at_most : goal.returns-in_err-root-in-None-clause-at_most
returns-in_err-root-in-None-clause-at_most g c = grind (arith, common_steps)
