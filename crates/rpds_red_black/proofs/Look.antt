-- One step of a look-up down a tree.
use Rattle.rpds_red_black.proofs.Words.{◌≡◌, Option, Some, List, ◌∷◌, ◌++◌, sym, subst, ◌∙◌, true, false, is_eq, is_lt, Ordering, Less, Equal, Greater}
use Rattle.rpds_red_black.proofs.Words.{IsTotalOrder, IsSearch, IsAscending, find_by, arith, refl, is_gt}
use Rattle.rpds_red_black.proofs.Pairs.{around, sought_less, sought_equal, sought_greater}

-- what is looked for is found in es, whose keys ascend
pub record IsLeft {K V : Type 0} (R : K → K → Ordering) (seek : K → Ordering) (es : List (K × V)) (found : Option (K × V)) : Type 0 where
  pub ascending : IsAscending R es
  pub same : find_by seek es ≡ found

-- the look-up at a tree es whose root is e
module _ {K V : Type 0} {R : K → K → Ordering} (o : IsTotalOrder R) {seek : K → Ordering} (finds : IsSearch R seek) (es l : List (K × V)) (e : K × V) (r : List (K × V)) (found : Option (K × V)) (is : es ≡ l ++ e ∷ r) (s : IsLeft R seek es found) where
  ascends : IsAscending R (l ++ e ∷ r)
  ascends = subst (IsAscending R) is s.ascending

  whole : find_by seek (l ++ e ∷ r) ≡ found
  whole = subst (λ x. find_by seek x ≡ found) is s.same

  pub look_less : seek e.0 ≡ Less → IsLeft R seek l found
  look_less h = record { ascending = (around R l e r ascends).left; same = sym (sought_less R o finds l e r ascends h) ∙ whole }

  pub look_greater : seek e.0 ≡ Greater → IsLeft R seek r found
  look_greater h = record { ascending = (around R l e r ascends).right; same = sym (sought_greater R o finds l e r ascends h) ∙ whole }

  pub look_equal : seek e.0 ≡ Equal → Some e ≡ found
  look_equal h = sym (sought_equal R o finds l e r ascends h) ∙ whole

pub tied_of : (o : Ordering) → is_eq o ≡ true → o ≡ Equal
tied_of o e = grind arith

pub below_of : (o : Ordering) → is_lt o ≡ true → o ≡ Less
below_of o e = grind arith

pub above_of : (o : Ordering) → is_eq o ≡ false → is_lt o ≡ false → o ≡ Greater
above_of o e f = grind arith

pub beyond : (c : Ordering) → is_gt c ≡ true → c ≡ Greater
beyond Less h = absurd (cc)
beyond Equal h = absurd (cc)
beyond Greater h = refl
