use Rattle.std.proofs.Common.{not, sym, ap, subst, ◌∙◌}
use Rattle.std.proofs.lemmas.Bool.{not-false, not-true, true≢false}
use Rattle.example_queens.specs.Lines.{IsMarked}
use Rattle.example_queens.proofs.Attacks.{attacked_in_column, attacked_rising, decided, has}
use Rattle.example_queens.proofs.board.Board.is_free.Goals as goal
use Rattle.example_queens.proofs.board.Board.is_free.Goals.{then-not-contains, else-not-contains}

pub returns-then-not-contains-2 : goal.returns-then-not-contains-2
returns-then-not-contains-2 c =
    let i = c.self.inside in
    let marked = subst (λ q. IsMarked q i.columns.members i.rising.members i.falling.members) c.self.view_is c.self.invariant in
    elim c.if-not-contains.branch [
      | then-not-contains w ↦
          decided c.put_member_is_lawful.ensures.has c.args.self.now i.columns.members i.rising.members i.falling.members marked c.args.column c.requires.room
          c.contains-then-not-contains-2.result (c.contains-then-not-contains-2.ensures ∙ ap (λ x. has x i.falling.members) c.falling_line.ensures)
          (sym c.contains.ensures ∙ w.if-not-contains.true)
          (ap (λ x. has x i.rising.members) (sym w.rising_line.ensures) ∙ sym w.contains-then-not-contains.ensures ∙ not-true _ (sym w.value-is ∙ c.if-not-contains-2.true))
      | else-not-contains w ↦ absurd (true≢false (sym c.if-not-contains-2.true ∙ w.value-is ∙ ap not w.if-not-contains.false))
    ]

pub returns-else-not-contains-2 : goal.returns-else-not-contains-2
returns-else-not-contains-2 c =
    let i = c.self.inside in
    let marked = subst (λ q. IsMarked q i.columns.members i.rising.members i.falling.members) c.self.view_is c.self.invariant in
    let queens = c.args.self.now in
    rw c.if-not-contains-2.false (
    elim c.if-not-contains.branch [
      | then-not-contains w ↦
          attacked_rising c.put_member_is_lawful.ensures.has queens i.columns.members i.rising.members i.falling.members marked c.args.column c.requires.room
          (ap (λ x. has x i.rising.members) (sym w.rising_line.ensures) ∙ sym w.contains-then-not-contains.ensures ∙ not-false _ (sym w.value-is ∙ c.if-not-contains-2.false))
      | else-not-contains w ↦
          attacked_in_column c.put_member_is_lawful.ensures.has queens i.columns.members i.rising.members i.falling.members marked c.args.column c.requires.room
          (sym c.contains.ensures ∙ w.if-not-contains.false)
    ])
