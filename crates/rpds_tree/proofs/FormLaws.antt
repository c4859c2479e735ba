-- What callers need of `find_by` and `without_by`.
use Rattle.std.proofs.Common.{if◌then◌else◌}
use Rattle.rpds_tree.proofs.Words.{◌≡◌, ◌≢◌, ◌∙◌, cond, List, [], ◌∷◌, Some, None, refl, ap, arith, Ordering, Equal, IsTotalOrder, is_eq, find, put}
use Rattle.rpds_core.specs.Keys.{IsSearch}
use Rattle.rpds_red_black.specs.Pairs.{find_by, without_by}

pub sought_tied : {K V : Type 0} (seek : K → Ordering) (es : List (K × V)) (p : K × V) → find_by seek es ≡ Some p → seek p.0 ≡ Equal
sought_tied seek [] p found = absurd (cc)
sought_tied seek (e ∷ es) p found = grind (arith, sought_tied seek es p)

pub sought_gone : {K V : Type 0} (seek : K → Ordering) (es : List (K × V)) → find_by seek (without_by seek es) ≡ None
sought_gone seek [] = refl
sought_gone seek (e ∷ es) = grind (arith, sought_gone seek es)

module _ {K V : Type 0} {R : K → K → Ordering} (o : IsTotalOrder R) {seek : K → Ordering} (finds : IsSearch R seek) where
  pub sought_same : (k : K) (es : List (K × V)) → seek k ≡ Equal → find_by seek es ≡ find R k es
  sought_same k [] h = refl
  sought_same k (e ∷ es) h = rw (finds.tied k e.0 h) (ap (cond (is_eq (R k e.0)) (Some e)) (sought_same k es h))

  pub sought_put : (p : K × V) (es : List (K × V)) → find_by seek (put R p es) ≡ (if is_eq (seek p.0) then Some p else find_by seek es)
  sought_put p [] = refl
  sought_put p (e ∷ es) = grind (arith, sought_put p es, finds.tied e.0 p.0, finds.tied p.0 e.0, o.antisymm e.0 p.0)

  pub sought_at : (p : K × V) (es : List (K × V)) → seek p.0 ≡ Equal → find_by seek (put R p es) ≡ Some p
  sought_at p es tied = sought_put p es ∙ ap (λ order. cond (is_eq order) (Some p) (find_by seek es)) tied

  pub sought_beside : (p : K × V) (es : List (K × V)) → seek p.0 ≢ Equal → find_by seek (put R p es) ≡ find_by seek es
  sought_beside p es apart = grind (arith, sought_put p es)

  pub found_among_others : (k : K) (es : List (K × V)) → seek k ≢ Equal → find R k (without_by seek es) ≡ find R k es
  found_among_others k [] apart = refl
  found_among_others k (e ∷ es) apart = grind (arith, found_among_others k es apart, finds.tied e.0 k, o.antisymm e.0 k)
