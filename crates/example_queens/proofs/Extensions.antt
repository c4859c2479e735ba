-- Which solutions go on from a board.
use Rattle.std.proofs.Common.{◌≡◌, ℕ, suc, Option, Some, None, IfNone, ◌-◌, ◌<◌, List, [], ◌∷◌, ◌++◌, length, get_or, refl, sym, ap, subst, ◌∙◌, arith, append_assoc, length-append}
use Rattle.std.specs.List.{All}
use Rattle.std.proofs.Math.Seq.{get_or-append_seam}
use Rattle.std.proofs.lemmas.List.{append-nil}
use Rattle.example_queens.specs.Queens.{AreApart, ArePeaceful, GoesOn, IsDeadEnd, IsUnsolvable}

-- the queen before these
next_queen : (m : ℕ) (ms first : List ℕ) → (column : ℕ) × (more : List ℕ) × (m ∷ ms ++ first ≡ more ++ column ∷ first)
next_queen m [] first = (m, [], refl)
next_queen m (n ∷ ns) first = let w = next_queen n ns first in (w.0, m ∷ w.1, ap (λ l. m ∷ l) w.2)

stays_on_board : (size column : ℕ) (more first : List ℕ) → All (λ c. c < size) (more ++ column ∷ first) → column < size
stays_on_board size column more first all =
    subst (λ c. c < size) (get_or-append_seam more column first 0) (all (length more) 0 (omega (arith, length-append more (column ∷ first))))

-- a solution that goes on from too few queens goes on with a queen in one of the columns
pub goes_further : (size : ℕ) (first queens : List ℕ) → length first < size → GoesOn size first queens → (column : ℕ) × (column < size) × GoesOn size (column ∷ first) queens
goes_further size first queens fewer goes = go goes.from.0 goes.from.1
  where
    go : (more : List ℕ) → queens ≡ more ++ first → (column : ℕ) × (column < size) × GoesOn size (column ∷ first) queens
    go [] is = absurd (omega (arith, goes.solution.rows, ap length is))
    go (m ∷ ms) is =
        let w = next_queen m ms first in
        let from = is ∙ w.2 in
        (w.0, stays_on_board size w.0 w.1 first (subst (All (λ c. c < size)) from goes.solution.on_board), record { solution = goes.solution; from = (w.1, from) })

-- a solution that goes on from a board goes on from the board without the last queen
pub goes_before : (size column : ℕ) (first queens : List ℕ) → GoesOn size (column ∷ first) queens → GoesOn size first queens
goes_before size column first queens goes = record {
  solution = goes.solution;
  from = (goes.from.0 ++ column ∷ [], goes.from.1 ∙ sym (append_assoc goes.from.0 (column ∷ []) first));
}

peaceful_tail : (m : ℕ) (queens : List ℕ) → ArePeaceful (m ∷ queens) → ArePeaceful queens
peaceful_tail m queens peaceful = λ i j before within.
    let rows : suc j - suc i ≡ j - i = omega arith in
    subst (λ r. AreApart r (get_or queens i 0) (get_or queens j 0)) rows (peaceful (suc i) (suc j) (omega arith) (omega arith))

peaceful_end : (more first : List ℕ) → ArePeaceful (more ++ first) → ArePeaceful first
peaceful_end [] first peaceful = peaceful
peaceful_end (m ∷ more) first peaceful = peaceful_end more first (peaceful_tail m (more ++ first) peaceful)

-- no solution goes on from queens that attack each other
pub none_goes_on : (size : ℕ) (first : List ℕ) → (ArePeaceful first → ⊥) → (queens : List ℕ) → GoesOn size first queens → ⊥
none_goes_on size first attack queens goes = attack (peaceful_end goes.from.0 first (subst ArePeaceful goes.from.1 goes.solution.peaceful))

-- what is said of a search that found nothing
pub none_there : {X : Type 0} {P : Type 0} (found : Option X) → found ≡ None → IfNone found P → P
none_there None is none = none
none_there (Some x) is none = absurd (cc)

-- each solution goes on from the board without queens
pub unsolvable : (size : ℕ) (found : Option (List ℕ)) → IfNone found (IsDeadEnd size []) → IfNone found (IsUnsolvable size)
unsolvable size (Some queens) none = tt
unsolvable size None none = λ queens solution. none queens (record { solution = solution; from = (queens, sym (append-nil queens)) })
