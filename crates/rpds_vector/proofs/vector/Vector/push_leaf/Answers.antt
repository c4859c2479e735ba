use Rattle.rpds_vector.proofs.Words.{◌≡◌, None, refl, ap, sym, ◌∙◌, arith, length, length-append, mod-eq_of_lt, common_steps, behind, behind_length, Trie}
use Rattle.rpds_vector.proofs.Words.{items_of}
use Rattle.rpds_vector.proofs.Roots.{opened, level_of, next_of, full_root, vector_of, vector_more, vector_over}
use Rattle.rpds_vector.proofs.vector.Vector.push_leaf.Goals as goal
use Rattle.rpds_vector.proofs.vector.Vector.push_leaf.Goals.{in-None+in-Some-1, in-None+in-None-1, in-Some+then-next-height+in_ok-root-in-Some, in-Some+else-next-height+in_ok-make_unique-in-Some+in_ok-push_leaf-in-Some}

pub above-requires-clause-full : goal.above-requires-clause-full
above-requires-clause-full g c =
    let i = next_of c.self.view_is c.in-Some.is c.deref.ensures c.self.invariant c.prove_sound.ensures c.height_for-height.ensures.levels c.height_for-next.ensures.levels in
    full_root i c.if-next-height.true refl (sym c.deref.ensures)

pub push_leaf-requires-clause-level : goal.push_leaf-requires-clause-level
push_leaf-requires-clause-level g c =
    let o = opened c.self.view_is c.in-Some.is c.deref.ensures c.self.invariant in
    level_of c.height_for-height.result o c.prove_sound.ensures c.height_for-height.ensures.levels ∙ ap (λ (t : Trie g.row.T.Denot). t.height) (c.deref.ensures ∙ sym c.in_ok-make_unique-in-Some.ensures.value)

pub push_leaf-requires-clause-end : goal.push_leaf-requires-clause-end
push_leaf-requires-clause-end g c =
    let i = next_of c.self.view_is c.in-Some.is c.deref.ensures c.self.invariant c.prove_sound.ensures c.height_for-height.ensures.levels c.height_for-next.ensures.levels in
    rw (c.in_ok-make_unique-in-Some.ensures.value, ← c.deref.ensures, i.o.same_bits, i.o.counted) (mod-eq_of_lt (i.stays c.if-next-height.false).0)

pub invariant_of-self-2 : goal.invariant_of-self-2
invariant_of-self-2 g c =
    let bits_in = c.self.invariant.bits_in in
    let few : c.len.result ≡ length (behind c.args.items.items) = omega (arith, c.len.ensures, c.args.items.ok.0, behind_length c.args.items.items) in
    let leaf = c.in_ok-leaf.ensures.ok in
    let leaf_items = ap (λ (t : Trie g.row.T.Denot). t.items) leaf in
    let all = c.in_ok-longer.ensures.sum in
    let first = λ (none : c.self.inside.root ≡ None).
    let empty : c.self.inside.len ≡ 0 = c.self.invariant.counted ∙ ap (λ r. length (items_of r)) none in
    vector_of bits_in c.in_ok-leaf.leaf c.in_ok-longer.longer (ap (λ (t : Trie g.row.T.Denot). t.bits) leaf) (omega (arith, all, empty, few, ap (λ (t : Trie g.row.T.Denot). length t.items) leaf)) (rw leaf (λ p. absurd (omega arith))) in
    elim c.match-self.branch [
      | in-None+in-Some-1 w ↦ rw w.self-inside-is (first w.in-None.is)
      | in-None+in-None-1 w ↦ rw w.self-inside-is (first w.in-None.is)
      | in-Some+then-next-height+in_ok-root-in-Some w ↦
          let i = next_of c.self.view_is w.in-Some.is w.deref.ensures c.self.invariant w.prove_sound.ensures w.height_for-height.ensures.levels w.height_for-next.ensures.levels in
          let full = full_root i w.if-next-height.true refl (sym w.deref.ensures) in
          let higher = rw leaf_items at w.in_ok-root-in-Some.ensures.ok in
          rw w.self-inside-is (vector_over bits_in _ (behind c.args.items.items) full higher (omega (arith, all, few, i.o.counted, ap (λ (t : Trie g.row.T.Denot). length t.items) w.deref.ensures)) c.requires.leaf.some)
      | in-Some+else-next-height+in_ok-make_unique-in-Some+in_ok-push_leaf-in-Some w ↦
          let made = w.in_ok-make_unique-in-Some.ensures.value in
          let o = opened c.self.view_is w.in-Some.is made c.self.invariant in
          let longer = w.make_unique.follows.holds w.push_leaf.new.self (rw w.in_ok-make_unique-in-Some.was refl) ∙ rw leaf_items at w.in_ok-push_leaf-in-Some.ensures in
          let size = length-append w.in_ok-make_unique-in-Some.field-0.now.items (behind c.args.items.items) in
          rw w.self-inside-is (vector_more bits_in (w.make_unique.follows.lender w.push_leaf.new.self) _ o longer (omega (arith, all, size, few, o.counted)) (omega (arith, all)))
    ]

pub invariant_of-self : goal.invariant_of-self
invariant_of-self g c = grind (arith, common_steps)

pub invariant_of-self-in_err-make_unique-in-Some : goal.invariant_of-self-in_err-make_unique-in-Some
invariant_of-self-in_err-make_unique-in-Some g c = grind (arith, common_steps)

pub invariant_of-self-in_err-push_leaf-in-Some : goal.invariant_of-self-in_err-push_leaf-in-Some
invariant_of-self-in_err-push_leaf-in-Some g c = grind (arith, common_steps)

pub returns-clause-ok : goal.returns-clause-ok
returns-clause-ok g c = grind (arith, common_steps)

pub returns-in_err-make_unique-in-Some-clause-err : goal.returns-in_err-make_unique-in-Some-clause-err
returns-in_err-make_unique-in-Some-clause-err g c = grind (arith, common_steps)

pub returns-in_err-push_leaf-in-Some-clause-err : goal.returns-in_err-push_leaf-in-Some-clause-err
returns-in_err-push_leaf-in-Some-clause-err g c = grind (arith, common_steps)

pub returns-in_err-root-in-Some-clause-err : goal.returns-in_err-root-in-Some-clause-err
returns-in_err-root-in-Some-clause-err g c = grind (arith, common_steps)
