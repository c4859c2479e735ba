-- Lists and queues without their first items.
use Rattle.std.proofs.Common.{◌≡◌, ℕ, ◌+◌, ◌-◌, ◌<◌, List, [], ◌∷◌, ◌++◌, Option, Some, None, Result, Ok, length, drop, take, reverse, refl, ap, sym, ◌∙◌, arith}
use Rattle.std.proofs.lemmas.List.{length-reverse, reverse-append, reverse-reverse, take_at}
use Rattle.std.proofs.lemmas.Grind.{common_steps}
use Rattle.rpds_list.specs.QueueContents.{Contents, still_waiting}

-- two lists that are empty together are empty each
pub left_nil : {T : Type 0} (xs ys : List T) → xs ++ ys ≡ [] → xs ≡ []
left_nil [] ys e = refl
left_nil (x ∷ xs) ys e = absurd (cc)

-- what a call r left of a list, if it found an item, is one item shorter
pub length_rest : {T E : Type 0} (xs ys : List T) (rest : Option (List T)) (r : Result (Option (List T)) E) → (0 < length xs → rest ≡ Some (drop 1 xs)) → (xs ≡ [] → r ≡ Ok None) → r ≡ Ok rest → rest ≡ Some ys → length ys + 1 ≡ length xs
length_rest [] ys rest r ok empty told e = let none = empty refl in absurd (cc)
length_rest (x ∷ xs) ys rest r ok empty told e = let first : rest ≡ Some xs = ok (omega arith) in let d : xs ≡ ys = cc in rw d (omega arith)

-- a queue, part by part
abbrev holding : {T : Type 0} → List T → ℕ → Contents T
holding items waiting = record { items = items; waiting = waiting }

-- as many wait as before where the out list has the first item
still_waits : {T : Type 0} (x : T) (xs ins : List T) → length ins ≡ still_waiting (holding ((x ∷ xs) ++ reverse ins) (length ins))
still_waits x xs ins = grind (arith, common_steps)

-- the queue q without its first item, where a call r took that off the out list
pub taken_off : {T E : Type 0} (xs ys ins same : List T) (rest : Option (List T)) (r : Result (Option (List T)) E) (q : Contents T) → (0 < length xs → rest ≡ Some (drop 1 xs)) → (xs ≡ [] → r ≡ Ok None) → r ≡ Ok rest → rest ≡ Some ys → same ≡ ins → holding (xs ++ reverse ins) (length ins) ≡ q → holding (ys ++ reverse same) (length same) ≡ holding (drop 1 q.items) (still_waiting q)
taken_off [] ys ins same rest r q ok empty told e is seen = let none = empty refl in absurd (cc)
taken_off (x ∷ xs) ys ins same rest r q ok empty told e is seen =
    let first : rest ≡ Some xs = ok (omega arith) in
    let d : ys ≡ xs = cc in
    rw (← seen, is, d) (ap (λ n. holding (xs ++ reverse ins) n) (still_waits x xs ins))

-- a list turned round, without its first item
without_first : {T : Type 0} (ys : List T) → drop 1 ys ≡ reverse (take (length (reverse ys) - 1) (reverse ys))
without_first [] = refl
without_first (y ∷ ys) =
    let last : reverse (y ∷ ys) ≡ reverse ys ++ y ∷ [] = reverse-append (y ∷ []) ys in
    let few : length (reverse ys) ≡ length (reverse (y ∷ ys)) - 1 = omega (arith, length-reverse ys, length-reverse (y ∷ ys)) in
    let kept : take (length (reverse (y ∷ ys)) - 1) (reverse (y ∷ ys)) ≡ reverse ys = ap (λ z. take (length (reverse (y ∷ ys)) - 1) z) last ∙ take_at (reverse ys) (y ∷ []) (length (reverse (y ∷ ys)) - 1) few in
    sym (ap reverse kept ∙ reverse-reverse ys)

pub turned_rest : {T : Type 0} (xs : List T) → drop 1 (reverse xs) ≡ reverse (take (length xs - 1) xs)
turned_rest xs = without_first (reverse xs) ∙ ap (λ z. reverse (take (length z - 1) z)) (reverse-reverse xs)
