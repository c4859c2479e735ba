-- Keys copied from another map.
use Rattle.std.proofs.Common.{◌≡◌, ◌≢◌, ◌+◌, ◌≤◌, Option, Some, None, List, [], ◌∷◌, arith, if◌then◌else◌, length, refl, sym, ◌∙◌}
use Rattle.std.proofs.lemmas.Cmp.{tied_back}
use Rattle.std.specs.Cmp.{IsTotalOrder}
use Rattle.std.specs.Ordering.{is_eq}
use Rattle.std.specs.declared.cmp.Ordering.{Ordering}
use Rattle.std.specs.declared.cmp.Ordering.TheVariants.{Less, Equal, Greater}
use Rattle.rpds_core.specs.Keys.{IsSearch}
use Rattle.rpds_red_black.proofs.Pairs.{find_put, find_same, length_put}
use Rattle.rpds_red_black.specs.Pairs.{find, find_by, put, without_by}
use Rattle.rpds_tree.proofs.FormLaws.{found_among_others, sought_gone, sought_same, sought_tied}
use Rattle.rpds_tree.proofs.MapLaws.{find_put_other}
use Rattle.rpds_tree.specs.Altered.{with_found}

module _ {K V : Type 0} {R : K → K → Ordering} (o : IsTotalOrder R) {seek : K → Ordering} (finds : IsSearch R seek) where
  -- the keys that are looked for find what they find in the others
  pub there : (k : K) (others es : List (K × V)) → seek k ≡ Equal → find R k (with_found R seek (find_by seek others) es) ≡ find R k others
  there k others es here = go (find_by seek others) refl
    where
      go : (found : Option (K × V)) → find_by seek others ≡ found → find R k (with_found R seek found es) ≡ find R k others
      go (Some p) is =
          let near : R p.0 k ≡ Equal = sym (finds.tied p.0 k (sought_tied seek others p is)) ∙ here in
          find_same o k p.0 (put R p es) (tied_back o p.0 k near) ∙ find_put R o p es ∙ sym is ∙ sought_same o finds k others here
      go None is = sym (sought_same o finds k (without_by seek es) here) ∙ sought_gone seek es ∙ sym is ∙ sought_same o finds k others here

  -- all other keys find what they found
  pub elsewhere : (k : K) (others es : List (K × V)) → seek k ≢ Equal → find R k (with_found R seek (find_by seek others) es) ≡ find R k es
  elsewhere k others es apart = go (find_by seek others) refl
    where
      go : (found : Option (K × V)) → find_by seek others ≡ found → find R k (with_found R seek found es) ≡ find R k es
      go (Some p) is = find_put_other o p es k (λ near. apart (finds.tied p.0 k (sought_tied seek others p is) ∙ near))
      go None is = found_among_others o finds k es apart

  pub copied : (k : K) (others es : List (K × V))
      → find R k (with_found R seek (find_by seek others) es) ≡ (if is_eq (seek k) then find R k others else find R k es)
  copied k others es = go (seek k) refl
    where
      go : (c : Ordering) → seek k ≡ c → find R k (with_found R seek (find_by seek others) es) ≡ (if is_eq c then find R k others else find R k es)
      go Less is = elsewhere k others es (λ e. cc (e, is))
      go Equal is = there k others es is
      go Greater is = elsewhere k others es (λ e. cc (e, is))

-- no more pairs without one
pub length_others : {K V : Type 0} (seek : K → Ordering) (es : List (K × V)) → length (without_by seek es) ≤ length es
length_others seek [] = omega arith
length_others seek (e ∷ es) = grind (arith, length_others seek es)

-- one more pair at most
pub length_copied : {K V : Type 0} (R : K → K → Ordering) (seek : K → Ordering) (found : Option (K × V)) (es : List (K × V))
    → length (with_found R seek found es) ≤ length es + 1
length_copied R seek (Some p) es = length_put R p es
length_copied R seek None es = omega (arith, length_others seek es)
