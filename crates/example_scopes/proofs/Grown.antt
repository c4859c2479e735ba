-- Lists that grow at their ends.
use Rattle.std.proofs.Common.{◌≡◌, ℕ, zero, suc, List, [], ◌∷◌, ◌++◌, Some, length, take, refl, ap, ◌∙◌}
use Rattle.std.specs.List.{slice_get}

pub grown_twice : {A : Type 0} (a b c : List A) → take (length a) b ≡ a → take (length b) c ≡ b → take (length a) c ≡ a
grown_twice [] b c first then = refl
grown_twice (x ∷ a) [] c first then = absurd (cc)
grown_twice (x ∷ a) (y ∷ b) [] first then = absurd (cc)
grown_twice (x ∷ a) (y ∷ b) (z ∷ c) first then =
    let tails : take (length a) b ≡ a = cc in
    let ends : take (length b) c ≡ b = cc in
    let all : take (length a) c ≡ a = grown_twice a b c tails ends in
    let head : z ≡ x = cc in
    ap (λ h. h ∷ take (length a) c) head ∙ ap (λ l. x ∷ l) all

-- what was there is still there
pub there_later : {A : Type 0} (old new : List A) (i : ℕ) (x : A) → take (length old) new ≡ old → slice_get old i ≡ Some x → slice_get new i ≡ Some x
there_later [] new i x grown there = absurd (cc)
there_later (y ∷ old) [] i x grown there = absurd (cc)
there_later (y ∷ old) (z ∷ new) zero x grown there = let same : z ≡ y = cc in ap Some same ∙ there
there_later (y ∷ old) (z ∷ new) (suc i) x grown there = let tails : take (length old) new ≡ old = cc in there_later old new i x tails there

-- what is put at the end is found there
pub there_at_end : {A : Type 0} (xs : List A) (x : A) → slice_get (xs ++ x ∷ []) (length xs) ≡ Some x
there_at_end [] x = refl
there_at_end (y ∷ xs) x = there_at_end xs x
