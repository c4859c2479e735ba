-- Whether a queen in the next row attacks another.
use Rattle.std.proofs.Common.{◌≡◌, ◌≢◌, ℕ, zero, suc, ◌+◌, ◌-◌, ◌<◌, Bool, true, false, ◌||◌, not, List, [], ◌∷◌, length, get_or, is_some, refl, sym, ap, subst, ◌∙◌, arith}
use Rattle.std.specs.Bool.{MatchBool}
use Rattle.std.specs.Ordering.{nat_cmp, is_eq}
use Rattle.std.proofs.lemmas.Bool.{true≢false}
use Rattle.std.proofs.lemmas.Grind.{common_steps}
use Rattle.rpds.specs.OrderedSet.{find_member, put_member}
use Rattle.example_queens.specs.Lines.{IsMarked, lines}
use Rattle.example_queens.specs.Queens.{AreApart, ArePeaceful}
use Rattle.example_queens.specs.declared.board.TheConstants.{MOST_ROWS}

abbrev pub has : ℕ → List ℕ → Bool
has line set = is_some (find_member nat_cmp line set)

-- what a set has after an insertion
abbrev HasPut : Type 0
HasPut = (x y : ℕ) → (ms : List ℕ) → has y (put_member nat_cmp x ms) ≡ (is_eq (nat_cmp y x) || has y ms)

equal : (x y : ℕ) → is_eq (nat_cmp x y) ≡ true → x ≡ y
equal x y is = grind (arith, common_steps)

equal_itself : (x : ℕ) → is_eq (nat_cmp x x) ≡ true
equal_itself x = grind (arith, common_steps)

left : (a b : Bool) → a ≡ true → (a || b) ≡ true
left true b is = refl
left false b is = absurd (cc)

right : (a b : Bool) → b ≡ true → (a || b) ≡ true
right true b is = refl
right false b is = is

module _ (has_put : HasPut) (line : ℕ → ℕ → ℕ) where
  -- a queen's line is in the set
  line_of_queen : (queens : List ℕ) (i row : ℕ) → length queens ≡ row + suc i → has (line (get_or queens i 0) row) (lines line queens) ≡ true
  line_of_queen [] i row at = absurd (omega arith)
  line_of_queen (queen ∷ queens) zero row at =
      let own = line queen (length queens) in
      let last : length queens ≡ row = omega arith in
      subst (λ r. has (line queen r) (lines line (queen ∷ queens)) ≡ true) last (has_put own own (lines line queens) ∙ left _ _ (equal_itself own))
  line_of_queen (queen ∷ queens) (suc i) row at =
      has_put (line queen (length queens)) (line (get_or queens i 0) row) (lines line queens) ∙ right _ _ (line_of_queen queens i row (omega arith))

  -- and each line in the set is a queen's
  queen_of_line : (queens : List ℕ) (x : ℕ) → has x (lines line queens) ≡ true → (i : ℕ) × (row : ℕ) × (length queens ≡ row + suc i) × (line (get_or queens i 0) row ≡ x)
  queen_of_line [] x there = absurd (cc)
  queen_of_line (queen ∷ queens) x there = go (queen_of_line queens x) (is_eq (nat_cmp x own)) refl (sym (has_put own x (lines line queens)) ∙ there)
    where
      own : ℕ
      own = line queen (length queens)

      go : (has x (lines line queens) ≡ true → (i : ℕ) × (row : ℕ) × (length queens ≡ row + suc i) × (line (get_or queens i 0) row ≡ x))
          → (b : Bool) → is_eq (nat_cmp x own) ≡ b → (b || has x (lines line queens)) ≡ true → (i : ℕ) × (row : ℕ) × (length (queen ∷ queens) ≡ row + suc i) × (line (get_or (queen ∷ queens) i 0) row ≡ x)
      go rest true is there = (zero, length queens, omega arith, sym (equal x own is))
      go rest false is there = let w = rest there in (suc w.0, w.1, omega (arith, w.2), w.3)

  pub off_line : (set queens : List ℕ) (x : ℕ) → set ≡ lines line queens → has x set ≡ false → (i row : ℕ) → length queens ≡ row + suc i → line (get_or queens i 0) row ≢ x
  off_line set queens x is off i row at same =
      true≢false (sym (line_of_queen queens i row at) ∙ ap (λ y. has y (lines line queens)) same ∙ ap (has x) (sym is) ∙ off)

  pub on_line : (set queens : List ℕ) (x : ℕ) → set ≡ lines line queens → has x set ≡ true → (i : ℕ) × (row : ℕ) × (length queens ≡ row + suc i) × (line (get_or queens i 0) row ≡ x)
  on_line set queens x is on = queen_of_line queens x (ap (has x) (sym is) ∙ on)

-- peaceful queens, and one in the next row that is apart from each
peaceful_more : (column : ℕ) (queens : List ℕ) → ArePeaceful queens → ((i row : ℕ) → length queens ≡ row + suc i → AreApart (suc i) column (get_or queens i 0))
    → (i j : ℕ) → i < j → j < length (column ∷ queens) → AreApart (j - i) (get_or (column ∷ queens) i 0) (get_or (column ∷ queens) j 0)
peaceful_more column queens peaceful apart zero zero before within = absurd (omega arith)
peaceful_more column queens peaceful apart (suc i) zero before within = absurd (omega arith)
peaceful_more column queens peaceful apart zero (suc j) before within =
    let rows : suc j ≡ suc j - zero = omega arith in
    subst (λ r. AreApart r column (get_or queens j 0)) rows (apart j (length queens - suc j) (omega arith))
peaceful_more column queens peaceful apart (suc i) (suc j) before within =
    let rows : j - i ≡ suc j - suc i = omega arith in
    subst (λ r. AreApart r (get_or queens i 0) (get_or queens j 0)) rows (peaceful i j (omega arith) (omega arith))

apart_from : (column : ℕ) (queens : List ℕ) (i row : ℕ) → length queens ≡ row + suc i → ArePeaceful (column ∷ queens) → AreApart (suc i) column (get_or queens i 0)
apart_from column queens i row at peaceful =
    let rows : suc i - zero ≡ suc i = omega arith in
    subst (λ r. AreApart r column (get_or queens i 0)) rows (peaceful zero (suc i) (omega arith) (omega arith))

module _ (has_put : HasPut) (queens columns rising falling : List ℕ) (marked : IsMarked queens columns rising falling) (column : ℕ) (room : length queens < MOST_ROWS) where
  -- a queen in the next row, on no line, attacks none
  pub peaceful_off_lines : has column columns ≡ false → has (column + (MOST_ROWS - length queens)) rising ≡ false → has (column + length queens) falling ≡ false → ArePeaceful (column ∷ queens)
  peaceful_off_lines a b c = peaceful_more column queens marked.peaceful (λ i row at. record {
    column = λ same. off_line has_put (λ column row. column) columns queens column marked.columns_are a i row at (sym same);
    falling = λ same. off_line has_put (λ column row. column + row) falling queens (column + length queens) marked.falling_are c i row at (omega arith);
    rising = λ same. off_line has_put (λ column row. column + (MOST_ROWS - row)) rising queens (column + (MOST_ROWS - length queens)) marked.rising_are b i row at (omega arith);
  })

  pub attacked_in_column : has column columns ≡ true → ArePeaceful (column ∷ queens) → ⊥
  attacked_in_column on peaceful =
      let w = on_line has_put (λ column row. column) columns queens column marked.columns_are on in
      (apart_from column queens w.0 w.1 w.2 peaceful).column (sym w.3)

  pub attacked_rising : has (column + (MOST_ROWS - length queens)) rising ≡ true → ArePeaceful (column ∷ queens) → ⊥
  attacked_rising on peaceful =
      let w = on_line has_put (λ column row. column + (MOST_ROWS - row)) rising queens (column + (MOST_ROWS - length queens)) marked.rising_are on in
      (apart_from column queens w.0 w.1 w.2 peaceful).rising (omega (arith, w.2, w.3))

  pub attacked_falling : has (column + length queens) falling ≡ true → ArePeaceful (column ∷ queens) → ⊥
  attacked_falling on peaceful =
      let w = on_line has_put (λ column row. column + row) falling queens (column + length queens) marked.falling_are on in
      (apart_from column queens w.0 w.1 w.2 peaceful).falling (omega (arith, w.2, w.3))

  pub decided : (falls : Bool) → falls ≡ has (column + length queens) falling → has column columns ≡ false → has (column + (MOST_ROWS - length queens)) rising ≡ false
      → MatchBool (not falls) (ArePeaceful (column ∷ queens)) (ArePeaceful (column ∷ queens) → ⊥)
  decided true is a b = attacked_falling (sym is)
  decided false is a b = peaceful_off_lines a b (sym is)
