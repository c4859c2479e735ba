-- What an arena's fold keeps as it grows.
use Rattle.std.proofs.Common.{◌≡◌, ◌+◌, ◌∙◌, ◌++◌, ◌∷◌, [], List, length, take, fold, sym, append-nil, append_assoc, length-append, arith}
use Rattle.std.proofs.Math.Seq.{take-append_seam}
use Rattle.std.proofs.lemmas.List.Sums.{fold-append}
use Rattle.rpds_arena.specs.Folded.{folded}

module _ {T R : Type 0} (f : List R → T → R) where
  -- what the older ones came to, and what this one does
  abbrev with_next : List R → T → List R
  with_next older x = older ++ f older x ∷ []

  more_behind : (older : List R) (xs : List T) → (more : List R) × (fold with_next older xs ≡ older ++ more)
  more_behind older [] = ([], sym (append-nil older))
  more_behind older (x ∷ xs) = let rest = more_behind (with_next older x) xs in (f older x ∷ rest.0, rest.1 ∙ append_assoc older (f older x ∷ []) rest.0)

  length-fold : (older : List R) (xs : List T) → length (fold with_next older xs) ≡ length older + length xs
  length-fold older [] = omega arith
  length-fold older (x ∷ xs) = length-fold (with_next older x) xs ∙ simp length-append (omega arith)

  pub length-folded : (xs : List T) → length (folded f xs) ≡ length xs
  length-folded xs = length-fold [] xs ∙ omega arith

  pub folded-append : (xs more : List T) → take (length xs) (folded f (xs ++ more)) ≡ folded f xs
  folded-append xs more =
      let rest = more_behind (folded f xs) more in
      let whole : folded f (xs ++ more) ≡ folded f xs ++ rest.0 = fold-append with_next [] xs more ∙ rest.1 in
      rw (whole, ← length-folded xs) (take-append_seam (folded f xs) rest.0)

  pub folded-push : (xs : List T) (x : T) → folded f (xs ++ x ∷ []) ≡ folded f xs ++ f (folded f xs) x ∷ []
  folded-push xs x = fold-append with_next [] xs (x ∷ [])
