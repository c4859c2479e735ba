-- The parts of a list below and above a form of a key.
use Rattle.std.proofs.Common.{filter}
use Rattle.rpds_core.specs.Keys.{IsSearch}
use Rattle.rpds_red_black.specs.KeySeeks.{above_form, below_form, none_below, none_found, under_through, under_tied}
use Rattle.rpds_red_black.specs.Pairs.{find_by}
use Rattle.rpds_red_black.specs.Ranges.{within_forms}
use Rattle.rpds_tree.proofs.Words.{◌≡◌, Bool, true, false, cond, ◌&&◌, List, [], ◌∷◌, ◌++◌, refl, sym, ap, ◌∙◌, append-nil, ordering_reverse, Ordering, Less}
use Rattle.rpds_tree.proofs.Words.{Equal, Greater, Unbounded, Excluded, is_gt, is_le, is_lt, items_of, bound_at, IsAscending, find, is_from, is_up_to}

greater_turned : (c : Ordering) → is_gt c ≡ is_lt (ordering_reverse c)
greater_turned Less = refl
greater_turned Equal = refl
greater_turned Greater = refl

and_true : (b : Bool) → b ≡ (b && true)
and_true true = refl
and_true false = refl

module _ {K V : Type 0} {R : K → K → Ordering} {q : K → Ordering} (finds : IsSearch R q) where
  abbrev from_form : List (K × V) → List (K × V)
  from_form es = filter (λ e. is_le (q e.0)) es

  abbrev until_form : List (K × V) → List (K × V)
  until_form es = filter (λ e. is_le (ordering_reverse (q e.0))) es

  from_step : (c : Ordering) (e : K × V) (es : List (K × V)) → q e.0 ≡ c → IsAscending R (e ∷ es) → items_of (find_by q es) ++ above_form q es ≡ from_form es
      → items_of (find_by q (e ∷ es)) ++ above_form q (e ∷ es) ≡ from_form (e ∷ es)
  from_step Less e es h asc rest =
      let none = none_found q es (under_through R finds e.0 es h asc.0) in
      rw (h, none) (ap (λ t. e ∷ t) (rw none at rest))
  from_step Equal e es h asc rest =
      let none = none_found q es (under_tied R finds e.0 es h asc.0) in
      rw h (ap (λ t. e ∷ t) (rw none at rest))
  from_step Greater e es h asc rest = rw h rest

  from_all : (es : List (K × V)) → IsAscending R es → items_of (find_by q es) ++ above_form q es ≡ from_form es
  from_all [] asc = refl
  from_all (e ∷ es) asc = from_step (q e.0) e es refl asc (from_all es asc.1)

  until_step : (c : Ordering) (e : K × V) (es : List (K × V)) → q e.0 ≡ c → IsAscending R (e ∷ es) → below_form q es ++ items_of (find_by q es) ≡ until_form es
      → below_form q (e ∷ es) ++ items_of (find_by q (e ∷ es)) ≡ until_form (e ∷ es)
  until_step Less e es h asc rest = rw h rest
  until_step Equal e es h asc rest =
      let under = under_tied R finds e.0 es h asc.0 in
      let below = none_below q es under in
      rw (h, below) (ap (λ t. e ∷ t) (rw (below, none_found q es under) at rest))
  until_step Greater e es h asc rest = rw h (ap (λ t. e ∷ t) rest)

  until_all : (es : List (K × V)) → IsAscending R es → below_form q es ++ items_of (find_by q es) ≡ until_form es
  until_all [] asc = refl
  until_all (e ∷ es) asc = until_step (q e.0) e es refl asc (until_all es asc.1)

-- `order` is how the form compares to a key, and `turned` how a key compares to it
module _ {S K V : Type 0} (order : S → K → Ordering) (turned : K → S → Ordering) (s : S) (turns : (k : K) → turned k s ≡ ordering_reverse (order s k))
    (es : List (K × V)) where
  greater_is : (k : K) → is_gt (order s k) ≡ is_lt (turned k s)
  greater_is k = greater_turned (order s k) ∙ ap is_lt (sym (turns k))

  pub below_is : below_form (order s) es ≡ within_forms order turned Unbounded (Excluded s) es
  below_is = λ i. filter (λ p. greater_is p.0 i) es

  pub above_is : above_form (order s) es ≡ within_forms order turned (Excluded s) Unbounded es
  above_is = λ i. filter (λ p. and_true (is_lt (order s p.0)) i) es

  module _ {R : K → K → Ordering} (finds : IsSearch R (order s)) (asc : IsAscending R es) where
    pub from_is : (kept : Bool) → cond kept (items_of (find order s es)) [] ++ above_form (order s) es ≡ filter (λ p. is_from order (bound_at kept s) p.0) es
    from_is true = from_all finds es asc
    from_is false = refl

    pub up_to_is : (kept : Bool) → below_form (order s) es ++ cond kept (items_of (find order s es)) [] ≡ filter (λ p. is_up_to turned (bound_at kept s) p.0) es
    up_to_is true = until_all finds es asc ∙ (λ i. filter (λ p. is_le (sym (turns p.0) i)) es)
    up_to_is false = append-nil (below_form (order s) es) ∙ (λ i. filter (λ p. greater_is p.0 i) es)
