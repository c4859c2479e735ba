-- Rows of 64 items, and a last one.
use Rattle.std.proofs.Common.{◌≡◌, ℕ, zero, suc, ◌+◌, ◌-◌, ◌*◌, ◌/◌, ◌%◌, ◌<◌, ◌≤◌, Some, List, [], ◌∷◌, ◌++◌, length, set, take, get_or, refl, ap, sym, ◌∙◌, arith, length-append, append_assoc, append-nil}
use Rattle.std.specs.Prelude.{vec_len}
use Rattle.std.specs.declared.rc.Rc.{Rc}
use Rattle.std.specs.List.{slice_get}
use Rattle.std.proofs.lemmas.List.{nil_from_length, length-set, length-take, set-append_left, set-append_right}
use Rattle.std.proofs.lemmas.Grind.{flat_map-append}
use Rattle.std.proofs.Math.Seq.{take-append-add}
use Rattle.std.proofs.lemmas.Nat.{div-add-mod'}
use Rattle.std.proofs.lemmas.Option.{same_Some}
use Rattle.rpds_core.specs.Rows.{behind}
use Rattle.rpds_core.proofs.Lists.{slice_get_left, slice_get_right}
use Rattle.rpds_core.proofs.Rows.{behind_append, behind_length}
use Rattle.rpds_nest.specs.Level.{Row, contents, flat, AllFull}

module _ {T A : Type 0} where
  pub row_length : (row : Row T A) → length (contents row) ≡ vec_len row
  row_length row = behind_length row.items ∙ sym row.ok.0

  -- the item that is read from a row
  pub behind_read : (rcs : List (Rc T A)) (k : ℕ) (rc : Rc T A) → k < length rcs → rc ≡ get_or rcs k rc → slice_get (behind rcs) k ≡ Some rc.value
  behind_read [] k rc p e = absurd (omega (arith, p))
  behind_read (r ∷ rcs) zero rc p e = ap (λ (r : Rc T A). Some r.value) (sym e)
  behind_read (r ∷ rcs) (suc k) rc p e = behind_read rcs k rc (omega (arith, p)) e

  pub length_flat : (rows : List (Row T A)) → AllFull rows → length (flat rows) ≡ length rows * 64
  length_flat [] full = refl
  length_flat (row ∷ rows) full = omega (arith, length-append (contents row) (flat rows), length_flat rows full.1, full.0)

  pub full_at : (rows : List (Row T A)) (j : ℕ) (row : Row T A) → AllFull rows → slice_get rows j ≡ Some row → length (contents row) ≡ 64
  full_at [] j row full e = grind arith
  full_at (r ∷ rows) zero row full e = rw (← same_Some _ _ e) full.0
  full_at (r ∷ rows) (suc j) row full e = full_at rows j row full.1 e

  pub full_more : (rows : List (Row T A)) (row : Row T A) → AllFull rows → length (contents row) ≡ 64 → AllFull (rows ++ row ∷ [])
  full_more [] row full e = (e, tt)
  full_more (r ∷ rows) row full e = (full.0, full_more rows row full.1 e)

  pub full_set : (rows : List (Row T A)) (j : ℕ) (row : Row T A) → AllFull rows → length (contents row) ≡ 64 → AllFull (set rows j row)
  full_set [] j row full e = tt
  full_set (r ∷ rows) zero row full e = (e, full.1)
  full_set (r ∷ rows) (suc j) row full e = (full.0, full_set rows j row full.1 e)

  pub full_take : (n : ℕ) (rows : List (Row T A)) → AllFull rows → AllFull (take n rows)
  full_take zero rows full = tt
  full_take (suc n) [] full = tt
  full_take (suc n) (r ∷ rows) full = (full.0, full_take n rows full.1)

  -- an index has a place in its row
  pub row_room : (rows : List (Row T A)) (i : ℕ) (row : Row T A) → AllFull rows → slice_get rows (i / 64) ≡ Some row → i % 64 < vec_len row
  row_room rows i row full e = omega (arith, full_at rows (i / 64) row full e, row_length row)

  -- a row more
  pub flat_more : (rows : List (Row T A)) (row : Row T A) → flat (rows ++ row ∷ []) ≡ flat rows ++ contents row
  flat_more rows row = flat_map-append contents rows (row ∷ []) ∙ ap (λ z. flat rows ++ z) (append-nil (contents row))

  flat_last : (rows : List (Row T A)) (i : ℕ) (last : Row T A) → i + 1 ≡ length rows → slice_get rows i ≡ Some last → flat rows ≡ flat (take i rows) ++ contents last
  flat_last [] i last p e = absurd (omega arith)
  flat_last (r ∷ []) zero last p e = append-nil (contents r) ∙ ap (λ (r : Row T A). contents r) (same_Some _ _ e)
  flat_last (r ∷ r' ∷ rows) zero last p e = absurd (omega arith)
  flat_last (r ∷ rows) (suc i) last p e = ap (λ z. contents r ++ z) (flat_last rows i last (omega arith) e) ∙ sym (append_assoc (contents r) (flat (take i rows)) (contents last))

  get_at : (rows : List (Row T A)) (j k : ℕ) (row : Row T A) → AllFull rows → slice_get rows j ≡ Some row → k < 64 → slice_get (flat rows) (j * 64 + k) ≡ slice_get (contents row) k
  get_at [] j k row full e p = grind arith
  get_at (r ∷ rows) zero k row full e p =
      let q : zero * 64 + k ≡ k = omega arith in
      slice_get_left (contents r) (flat rows) (zero * 64 + k) (omega (arith, full.0)) ∙ ap (slice_get (contents r)) q ∙ ap (λ (r : Row T A). slice_get (contents r) k) (same_Some _ _ e)
  get_at (r ∷ rows) (suc j) k row full e p =
      slice_get_right (contents r) (flat rows) (suc j * 64 + k) (j * 64 + k) (omega (arith, full.0)) ∙ get_at rows j k row full.1 e p

  set_at : (rows : List (Row T A)) (j k : ℕ) (row new : Row T A) (x : T) → AllFull rows → slice_get rows j ≡ Some row → k < 64 → contents new ≡ set (contents row) k x → flat (set rows j new) ≡ set (flat rows) (j * 64 + k) x
  set_at [] j k row new x full e p is = grind arith
  set_at (r ∷ rows) zero k row new x full e p is =
      let same : contents r ≡ contents row = ap (λ (r : Row T A). contents r) (same_Some _ _ e) in
      let q : zero * 64 + k ≡ k = omega arith in
      rw (is, ← same, q) (sym (set-append_left (contents r) (flat rows) k x (omega (arith, full.0))))
  set_at (r ∷ rows) (suc j) k row new x full e p is =
      let q : suc j * 64 + k - 64 ≡ j * 64 + k = omega arith in
      let right = set-append_right (contents r) (flat rows) 64 (suc j * 64 + k) x full.0 (omega arith) in
      ap (λ z. contents r ++ z) (set_at rows j k row new x full.1 e p is) ∙ sym (right ∙ ap (λ n. contents r ++ set (flat rows) n x) q)

  -- n items, of which m lie in the tail
  module _ (rows : List (Row T A)) (tail : Row T A) (full : AllFull rows) {n m : ℕ} (counted : n ≡ length (flat rows ++ contents tail)) (size : m ≡ vec_len tail) where
    pub before : n - m ≡ length rows * 64
    before = omega (arith, length-append (flat rows) (contents tail), length_flat rows full, row_length tail)

    pub tail_within : m ≤ n
    tail_within = omega (arith, length-append (flat rows) (contents tail), row_length tail)

    pub rows_counted : (n - m) / 64 ≡ length rows
    rows_counted = omega (arith, before)

    pub row_inside : (i : ℕ) → i < n - m → i / 64 < (n - m) / 64
    row_inside i p = omega (arith, before)

    pub get_in_row : (i : ℕ) (row : Row T A) (rc : Rc T A) → i < n - m → slice_get rows (i / 64) ≡ Some row → rc ≡ get_or row.items (i % 64) rc → slice_get (flat rows ++ contents tail) i ≡ Some rc.value
    get_in_row i row rc p e read =
        let place : i / 64 * 64 + i % 64 ≡ i = div-add-mod' i 64 in
        slice_get_left (flat rows) (contents tail) i (omega (arith, before, length_flat rows full))
        ∙ ap (slice_get (flat rows)) (sym place) ∙ get_at rows (i / 64) (i % 64) row full e (omega arith)
        ∙ behind_read row.items (i % 64) rc (omega (arith, full_at rows (i / 64) row full e, behind_length row.items)) read

    pub get_in_tail : (i : ℕ) (rc : Rc T A) → n - m ≤ i → i < n → rc ≡ get_or tail.items (i - (n - m)) rc → slice_get (flat rows ++ contents tail) i ≡ Some rc.value
    get_in_tail i rc p q read =
        slice_get_right (flat rows) (contents tail) i (i - (n - m)) (omega (arith, before, length_flat rows full))
        ∙ behind_read tail.items (i - (n - m)) rc (omega (arith, before, length_flat rows full, length-append (flat rows) (contents tail), behind_length tail.items)) read

    pub set_in_row : (i : ℕ) (row new : Row T A) (x : T) → i < n - m → slice_get rows (i / 64) ≡ Some row → contents new ≡ set (contents row) (i % 64) x
        → (more : List (Row T A)) → more ≡ set rows (i / 64) new → flat more ++ contents tail ≡ set (flat rows ++ contents tail) i x
    set_in_row i row new x p e is more f =
        let place : i / 64 * 64 + i % 64 ≡ i = div-add-mod' i 64 in
        ap (λ rows. flat rows ++ contents tail) f ∙ ap (λ z. z ++ contents tail) (set_at rows (i / 64) (i % 64) row new x full e (omega arith) is ∙ ap (λ i. set (flat rows) i x) place)
        ∙ sym (set-append_left (flat rows) (contents tail) i x (omega (arith, before, length_flat rows full)))

    pub set_row_full : (i : ℕ) (row new : Row T A) (x : T) → slice_get rows (i / 64) ≡ Some row → contents new ≡ set (contents row) (i % 64) x
        → (more : List (Row T A)) → more ≡ set rows (i / 64) new → AllFull more
    set_row_full i row new x e is more f =
        let size : length (contents new) ≡ 64 = ap length is ∙ length-set (contents row) (i % 64) x ∙ full_at rows (i / 64) row full e in
        rw f (full_set rows (i / 64) new full size)

    pub set_in_tail : (i : ℕ) (new : Row T A) (x : T) → n - m ≤ i → contents new ≡ set (contents tail) (i - (n - m)) x → flat rows ++ contents new ≡ set (flat rows ++ contents tail) i x
    set_in_tail i new x p is =
        ap (λ z. flat rows ++ z) is ∙ sym (set-append_right (flat rows) (contents tail) (n - m) i x (omega (arith, before, length_flat rows full)) p)

    -- without the last item of the tail
    pub drop_in_tail : (new : Row T A) → 0 < m → contents new ≡ take (m - 1) (contents tail) → flat rows ++ contents new ≡ take (n - 1) (flat rows ++ contents tail)
    drop_in_tail new p is =
        let q : length (flat rows) + (m - 1) ≡ n - 1 = omega (arith, before, length_flat rows full, length-append (flat rows) (contents tail), row_length tail) in
        ap (λ z. flat rows ++ z) is ∙ sym (take-append-add (flat rows) (contents tail) (m - 1)) ∙ ap (λ n. take n (flat rows ++ contents tail)) q

    -- with the tail empty, all but the last of the last row is a tail
    module _ (none : m ≡ 0) where
      all_rows : flat rows ++ contents tail ≡ flat rows
      all_rows = ap (λ items. flat rows ++ items) (nil_from_length (contents tail) (omega (arith, row_length tail))) ∙ append-nil (flat rows)

      pub rows_are : n / 64 ≡ length rows
      rows_are = omega (arith, before)

      pub some_row : 0 < n → 0 < n / 64
      some_row p = omega (arith, before)

      pub last_room : (last : Row T A) → slice_get rows (n / 64 - 1) ≡ Some last → 63 ≤ vec_len last
      last_room last e = omega (arith, full_at rows (n / 64 - 1) last full e, row_length last)

      pub drop_full : (less : List (Row T A)) → less ≡ take (n / 64 - 1) rows → AllFull less
      drop_full less f = rw f (full_take (n / 64 - 1) rows full)

      pub drop_in_row : (last new : Row T A) (less : List (Row T A)) → 0 < n → slice_get rows (n / 64 - 1) ≡ Some last → contents new ≡ take 63 (contents last) → less ≡ take (n / 64 - 1) rows
          → flat less ++ contents new ≡ take (n - 1) (flat rows ++ contents tail)
      drop_in_row last new less some e is f =
          let q : n / 64 - 1 + 1 ≡ length rows = omega (arith, before) in
          let r : length (flat (take (n / 64 - 1) rows)) + 63 ≡ n - 1 = omega (arith, before, length_flat (take (n / 64 - 1) rows) (full_take (n / 64 - 1) rows full), length-take (n / 64 - 1) rows) in
          ap (λ z. flat z ++ contents new) f ∙ ap (λ z. flat (take (n / 64 - 1) rows) ++ z) is
          ∙ sym (ap (λ z. take (n - 1) z) (all_rows ∙ flat_last rows (n / 64 - 1) last q e) ∙ ap (λ k. take k (flat (take (n / 64 - 1) rows) ++ contents last)) (sym r) ∙ take-append-add (flat (take (n / 64 - 1) rows)) (contents last) 63)

  -- the tail is full, and becomes a row
  pub push_row : (rows more : List (Row T A)) (tail row next : Row T A) (x : T) → more ≡ rows ++ row ∷ [] → contents row ≡ contents tail → contents next ≡ x ∷ [] → flat more ++ contents next ≡ (flat rows ++ contents tail) ++ x ∷ []
  push_row rows more tail row next x e f g =
      ap (λ z. flat z ++ contents next) e ∙ ap (λ z. z ++ contents next) (flat_more rows row) ∙ (λ i. (flat rows ++ f i) ++ g i)

  pub push_tail : (rows : List (Row T A)) (tail new : Row T A) (rc : Rc T A) (x : T) → new.items ≡ tail.items ++ rc ∷ [] → rc.value ≡ x → flat rows ++ contents new ≡ (flat rows ++ contents tail) ++ x ∷ []
  push_tail rows tail new rc x e is =
      ap (λ rcs. flat rows ++ behind rcs) e ∙ ap (λ z. flat rows ++ z) (behind_append tail.items (rc ∷ []) ∙ ap (λ x. contents tail ++ x ∷ []) is) ∙ sym (append_assoc (flat rows) (contents tail) (x ∷ []))

  pub push_full : (rows more : List (Row T A)) (tail row : Row T A) (n : ℕ) → AllFull rows → more ≡ rows ++ row ∷ [] → contents row ≡ contents tail → length (contents tail) ≤ 64 → n ≡ vec_len tail → 64 ≤ n → AllFull more
  push_full rows more tail row n full e f few size many = rw e (full_more rows row full (omega (arith, ap length f, row_length tail)))

  pub few_first : (row new : Row T A) → contents new ≡ take 63 (contents row) → length (contents new) ≤ 64
  few_first row new e = omega (arith, ap length e, length-take 63 (contents row))
