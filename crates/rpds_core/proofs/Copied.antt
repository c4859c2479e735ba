-- Copies of the items of an iterator of references.
use Rattle.std.proofs.Common.{◌≡◌, List, [], ◌∷◌, Option, Some, None, Result, Ok, Err, map, MatchResult, OnOk, OnErr, refl, sym, ap, ◌∙◌}
use Rattle.std.specs.Borrow.{Bor}
use Rattle.std.specs.Iterator.{Drains, Yields}
use Rattle.std.specs.Iterator.Adapters.{copied_source, copied_steps}
use Rattle.std.specs.declared.iter.Copied.{Copied}

module _ {S A : Type 0} (steps : S → Option (Bor A) → S → Type 0) where
  -- what was copied is what the references of the source lead to
  copied_yields : (s : Copied S) (ys : List A) (t : Copied S) → Yields (copied_steps steps) s ys t → (xs : List (Bor A)) × Yields steps (copied_source s) xs (copied_source t) × (ys ≡ map (λ x. x.now) xs)
  copied_yields s [] t h = ([], ap copied_source h, refl)
  copied_yields s (y ∷ ys) t (j, (None, step, is), rest) = absurd (cc)
  copied_yields s (y ∷ ys) t (j, (Some x, step, is), rest) =
      let (xs, all, same) = copied_yields j ys t rest in
      let first : y ≡ x.now = cc in
      (x ∷ xs, (copied_source j, step, all), ap (λ z. z ∷ ys) first ∙ ap (λ zs. x.now ∷ zs) same)

  copied_drains : (s : Copied S) (ys : List A) → Drains (copied_steps steps) s ys → (xs : List (Bor A)) × Drains steps (copied_source s) xs × (ys ≡ map (λ x. x.now) xs)
  copied_drains s ys (u, (t, all, (Some x, step, is))) = absurd (cc)
  copied_drains s ys (u, (t, all, (None, step, is))) =
      let (xs, given, same) = copied_yields s ys t all in
      (xs, (copied_source u, (copied_source t, given, step)), same)

  -- a collection that takes the copies of the items of `source`, where P holds of what was put in
  pub extended_by_copies : {E : Type 0} (G : S → Type 0) (P : List A → Type 0) (s : Copied S) (source : S) → copied_source s ≡ source → G source → (r : Result (Unit {0}) E)
      → OnOk r ((it : Copied S) × (more : List A) × (it ≡ s) × Drains (copied_steps steps) it more × P more) → OnErr r (P [])
      → (x : S) × (xs : List (Bor A)) × G x × P (map (λ x. x.now) xs) × MatchResult r (λ _. Drains steps x xs) (λ _. (t : S) × Yields steps x xs t)
  extended_by_copies G P s source from g (Ok done) (it, more, is, drained, put) err =
      let (xs, given, same) = copied_drains s more (rw (sym is) drained) in
      (source, xs, g, rw (sym same) put, rw (sym from) given)
  extended_by_copies G P s source from g (Err e) ok put = (source, [], g, put, (source, refl))
