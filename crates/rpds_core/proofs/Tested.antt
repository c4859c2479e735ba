-- What is found among the items that passed a test.
use Rattle.std.proofs.Common.{arith, ◌≡◌, Bool, true, false, None, List, [], ◌∷◌, filter, find, map, refl, ap, subst, sym, ◌∙◌}
use Rattle.std.specs.Borrow.{Bor}
use Rattle.std.specs.Cmp.{IsEquivalence}
use Rattle.std.specs.Fn.{CalledAt}
use Rattle.std.specs.Iterator.{ActsAsAt}
use Rattle.std.specs.List.{AllByRecursion, IsDistinct}
use Rattle.std.specs.List.Retain.{IsFiltered}
use Rattle.std.proofs.lemmas.Fn.{filter_same}
use Rattle.std.proofs.lemmas.List.{map-id}
use Rattle.std.proofs.lemmas.Map.Keys.{IsDistinct-head, IsDistinct-tail}
use denote.Param.Members.{Mut}
use Rattle.rpds_core.specs.OptionFilter.{option_filter}

-- items of distinct keys, of which those hit whose key is equal to k
module _ {X K : Type 0} (key : X → K) {eq : K → K → Bool} (law : IsEquivalence eq) (k : K) (hits : X → Bool) (is : (x : X) → hits x ≡ eq (key x) k) where
  none_hits : (x : X) (xs : List X) → hits x ≡ true → AllByRecursion (λ j. eq (key x) j ≡ false) (map key xs) → find hits xs ≡ None
  none_hits x [] hit apart = refl
  none_hits x (y ∷ xs) hit apart = grind (arith, none_hits x xs hit apart.1, law.congr (key x) k (key y), is x, is y, law.symm k (key y))

  pub find_tested : (test : X → Bool) (xs : List X) → IsDistinct eq (map key xs) → find hits (filter test xs) ≡ option_filter test (find hits xs)
  find_tested test [] distinct = refl
  find_tested test (x ∷ xs) distinct = grind (
    arith,
    find_tested test xs (IsDistinct-tail eq (key x) (map key xs) distinct),
    none_hits x xs,
    IsDistinct-head
        eq (key x) (map key xs) distinct,
  )

-- members that a test without a state kept, of which those hit that are equal to x
pub member_tested : {F T : Type 0} (g : Mut F (Bor T × Unit {0}) Bool) (f : F) {eq : T → T → Bool} (law : IsEquivalence eq) (ms ns : List T)
    → IsDistinct eq ms → IsFiltered (CalledAt g) f ms ns → (test : T → Bool) → ActsAsAt g f test → (x : T) (hits : T → Bool) → ((m : T) → hits m ≡ eq m x)
    → find hits ns ≡ option_filter test (find hits ms)
member_tested g f {eq} law ms ns distinct kept test acts x hits is =
    let same = filter_same (CalledAt g) test f (λ m b f' called. ((acts m b f' called).1, (acts m b f' called).0)) ms ns kept in
    ap (find hits) same ∙ find_tested (λ m. m) law x hits is test ms (subst (IsDistinct eq) (sym (map-id ms)) distinct)
