use Rattle.rpds_vector.proofs.Words.{rules, ◌≡◌, ◌+◌, [], ◌∷◌, ◌++◌, length, ◌∙◌, arith, length-append, append_assoc, Yields-more, behind, behind_append}
use Rattle.rpds_vector.proofs.Words.{behind_length}
use Rattle.rpds_vector.proofs.vector.collects.gather.Goals as goal

pub returns-in-None-clause-most : goal.returns-in-None-clause-most
returns-in-None-clause-most g c =
    let size : length (behind c.push.new.self.items) ≡ length c.loop-alloc.row.items + 1 = behind_length c.push.new.self.items ∙ rw c.in_ok-push.ensures.items (length-append c.loop-alloc.row.items (c.in_ok-new.field-0 ∷ [])) in
    omega (arith, size, c.loop-alloc.row.ok.0, c.len.ensures, c.loop-alloc-test.true)

pub returns-in-None-clause-items : goal.returns-in-None-clause-items
returns-in-None-clause-items g c = λ before given.
    let held = c.loop-alloc.invariant.3 before given in
    let one = c.loop-alloc.item ∷ [] in (
      held.0 ++ one,
      rw (c.in_ok-push.ensures.items, behind_append c.loop-alloc.row.items (c.in_ok-new.field-0 ∷ []), c.in_ok-new.ensures.ok, held.1) (append_assoc (behind c.args.row.now.items) held.0 one),
      (c.loop-alloc.items, Yields-more g.I.Iterator.next_gives before held.0 held.2.0 c.loop-alloc.item c.loop-alloc.items held.2.1 held.2.2, c.in-None.ensures.steps),
    )

pub loop-alloc-preserved : goal.loop-alloc-preserved
loop-alloc-preserved g c =
    let size : length (behind c.push.new.self.items) ≡ length c.loop-alloc.row.items + 1 = behind_length c.push.new.self.items ∙ rw c.in_ok-push.ensures.items (length-append c.loop-alloc.row.items (c.in_ok-new.field-0 ∷ [])) in (
      search rules,
      search rules,
      omega (arith, size, c.loop-alloc.row.ok.0, c.len.ensures, c.loop-alloc-test.true),
      λ before given.
          let held = c.loop-alloc.invariant.3 before given in
          let one = c.loop-alloc.item ∷ [] in (
            held.0 ++ one,
            rw (c.in_ok-push.ensures.items, behind_append c.loop-alloc.row.items (c.in_ok-new.field-0 ∷ []), c.in_ok-new.ensures.ok, held.1) (append_assoc (behind c.args.row.now.items) held.0 one),
            (c.loop-alloc.items, Yields-more g.I.Iterator.next_gives before held.0 held.2.0 c.loop-alloc.item c.loop-alloc.items held.2.1 held.2.2, c.in-Some.ensures.steps),
          ),
    )
