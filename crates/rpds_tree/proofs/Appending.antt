-- One ascending list of pairs after another.
use Rattle.std.proofs.Common.{is_lt}
use Rattle.rpds_tree.proofs.Words.{◌≡◌, ◌≢◌, ◌-◌, ℕ, zero, suc, Bool, true, false, not, Some, None, List, [], ◌∷◌, ◌++◌, length, slice_get, take, refl, sym}
use Rattle.rpds_tree.proofs.Words.{ap, ◌∙◌, arith, keys_of, Ordering, Less, Equal, Greater, IsTotalOrder, IsBelowAll, IsAscending, first_out_of_order}
use Rattle.rpds_tree.proofs.Members.{ascending_members}
use Rattle.rpds_red_black.proofs.Pairs.{below_through}
use Rattle.rpds_tree.proofs.Rising.{nowhere, somewhere}

module _ {K V : Type 0} where
  key_in : (es fs : List (K × V)) (n : ℕ) (p : K × V) → slice_get es n ≡ Some p → slice_get (keys_of (es ++ fs)) n ≡ Some p.0
  key_in [] fs n p is = absurd (cc is)
  key_in (e ∷ es) fs zero p is = let same : e ≡ p = cc in ap (λ (x : K × V). Some x.0) same
  key_in (e ∷ es) fs (suc n) p is = key_in es fs n p is

  key_after : (es fs : List (K × V)) (q : K × V) → slice_get fs 0 ≡ Some q → slice_get (keys_of (es ++ fs)) (length es) ≡ Some q.0
  key_after [] [] q is = absurd (cc is)
  key_after [] (f ∷ fs) q is = let same : f ≡ q = cc in ap (λ (x : K × V). Some x.0) same
  key_after (e ∷ es) fs q is = key_after es fs q is

  keys_before : (es fs : List (K × V)) → take (length es) (keys_of (es ++ fs)) ≡ keys_of es
  keys_before [] fs = refl
  keys_before (e ∷ es) fs = ap (λ t. e.0 ∷ t) (keys_before es fs)

  module _ (R : K → K → Ordering) (o : IsTotalOrder R) where
    -- what is below the first of an ascending list is below all of it
    below_first : (k : K) (fs : List (K × V)) → IsAscending R fs → ((q : K × V) → slice_get fs 0 ≡ Some q → R k q.0 ≡ Less) → IsBelowAll R k fs
    below_first k [] up h = tt
    below_first k (f ∷ fs) up h = (h f refl, below_through R o k f.0 fs (h f refl) up.0)

    ascending_after : (n : ℕ) (es fs : List (K × V)) → length es ≡ suc n → IsAscending R es → IsAscending R fs
        → ((p : K × V) → slice_get es n ≡ Some p → IsBelowAll R p.0 fs) → IsAscending R (es ++ fs)
    ascending_after n [] fs count up up' h = absurd (omega (arith, count))
    ascending_after zero (e ∷ []) fs count up up' h = (h e refl, up')
    ascending_after zero (e ∷ x ∷ es) fs count up up' h = absurd (omega (arith, count))
    ascending_after (suc n) (e ∷ []) fs count up up' h = absurd (omega (arith, count))
    ascending_after (suc n) (e ∷ x ∷ es) fs count up up' h =
        let rest = ascending_after n (x ∷ es) fs (omega (arith, count)) up.1 up' h in
        ((up.0.0, below_through R o e.0 x.0 (es ++ fs) up.0.0 rest.0), rest)

    -- no key is out of order where the keys ascend
    pub none_out_of_order : (es : List (K × V)) → IsAscending R es → first_out_of_order R (keys_of es) ≡ None
    none_out_of_order es up = (nowhere R o (keys_of es)).1 (ascending_members R es up)

    module _ (es fs : List (K × V)) (n : ℕ) (count : length es ≡ suc n) (p q : K × V) (last : slice_get es n ≡ Some p) (first : slice_get fs 0 ≡ Some q)
        (up : IsAscending R es) (up' : IsAscending R fs) where
      -- nor where the last one is below the first one after it
      pub none_out_of_order_after : R p.0 q.0 ≡ Less → first_out_of_order R (keys_of (es ++ fs)) ≡ None
      none_out_of_order_after below = none_out_of_order (es ++ fs) (ascending_after n es fs count up up' (λ x is.
          let same : p ≡ x = cc in
          below_first x.0 fs up' (λ y is'. (let same' : q ≡ y = cc in ap (λ (z : K × V). R z.0 y.0) (sym same) ∙ ap (λ (z : K × V). R p.0 z.0) (sym same')
          ∙ below))))

      -- else the first one after it does
      pub out_of_order_after : R p.0 q.0 ≢ Less → first_out_of_order R (keys_of (es ++ fs)) ≡ Some (length es)
      out_of_order_after out_of_order = (somewhere R o (length es) (keys_of (es ++ fs))).1 (record {
        before = n;
        last = p.0;
        key = q.0;
        next = omega (arith, count);
        last_at = key_in es fs n p last;
        key_at = key_after es fs q first;
        out_of_order = out_of_order;
        ascending = rw (keys_before es fs) (ascending_members R es up);
      })

some_last : {T : Type 0} (e : T) (es : List T) → slice_get (e ∷ es) (length es) ≢ None
some_last e [] is = absurd (cc is)
some_last e (x ∷ es) is = some_last x es is

-- a list without a last item, and one without a first
pub no_last : {T : Type 0} (es : List T) → None ≡ slice_get es (length es - 1) → es ≡ []
no_last [] is = refl
no_last (e ∷ es) is = let same : suc (length es) - 1 ≡ length es = omega arith in absurd (some_last e es (ap (λ n. slice_get (e ∷ es) n) (sym same) ∙ sym is))

pub no_first : {T : Type 0} (es : List T) → None ≡ slice_get es 0 → es ≡ []
no_first [] is = refl
no_first (e ∷ es) is = absurd (cc is)

counted : {T : Type 0} (es : List T) (p : T) → Some p ≡ slice_get es (length es - 1) → length es ≡ suc (length es - 1)
counted [] p is = absurd (cc is)
counted (e ∷ es) p is = omega arith

less_told : (b : Bool) (r : Ordering) → b ≡ is_lt r → not b ≡ false → r ≡ Less
less_told b Less is told = refl
less_told b Equal is told = absurd (cc (is, told))
less_told b Greater is told = absurd (cc (is, told))

not_less_told : (b : Bool) (r : Ordering) → b ≡ is_lt r → not b ≡ true → r ≢ Less
not_less_told b r is told less = absurd (cc (is, told, less))

-- the last key of one list, compared with the first of another
module _ {K V : Type 0} (R : K → K → Ordering) (o : IsTotalOrder R) (es fs : List (K × V)) (up : IsAscending R es) (up' : IsAscending R fs) (p q : K × V)
    (last : Some p ≡ slice_get es (length es - 1)) (first : Some q ≡ slice_get fs 0) (b : Bool) (r : Ordering) (order : r ≡ R p.0 q.0)
    (told : b ≡ is_lt r) where
  pub told_none : not b ≡ false → first_out_of_order R (keys_of (es ++ fs)) ≡ None
  told_none h = none_out_of_order_after R o es fs (length es - 1) (counted es p last) p q (sym last) (sym first) up up' (sym order ∙ less_told b r told h)

  pub told_here : not b ≡ true → first_out_of_order R (keys_of (es ++ fs)) ≡ Some (length es)
  told_here h = out_of_order_after R o es fs (length es - 1) (counted es p last) p q (sym last) (sym first) up up' (λ less. not_less_told b r told h (order ∙ less))
