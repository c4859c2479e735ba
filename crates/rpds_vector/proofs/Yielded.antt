-- What an iterator gives in one stretch after another.
use Rattle.rpds_vector.proofs.Words.{◌≡◌, Option, List, [], ◌∷◌, ◌++◌, sym, ap, ◌∙◌, subst, append_assoc, Yields, Drains}

pub append_between : {X : Type 0} (ws xs ys zs : List X) → ((ws ++ xs) ++ ys) ++ zs ≡ ws ++ ((xs ++ ys) ++ zs)
append_between ws xs ys zs = ap (λ l. l ++ zs) (append_assoc ws xs ys) ∙ append_assoc ws (xs ++ ys) zs

module _ {S X : Type 0} (gives : S → Option X → S → Type 0) where
  yields_append : (s : S) (xs : List X) (t : S) (ys : List X) (u : S) → Yields gives s xs t → Yields gives t ys u → Yields gives s (xs ++ ys) u
  yields_append s [] t ys u first more = subst (λ v. Yields gives v ys u) (sym first) more
  yields_append s (x ∷ xs) t ys u first more = (first.0, first.1, yields_append first.0 xs t ys u first.2 more)

  pub drains_append : (s : S) (xs : List X) (t : S) (ys : List X) → Yields gives s xs t → Drains gives t ys → Drains gives s (xs ++ ys)
  drains_append s xs t ys first more = (more.0, (more.1.0, yields_append s xs t ys more.1.0 first more.1.1, more.1.2))
