-- Pairs that flags choose.
use Rattle.std.specs.List.{remove}
use Rattle.rpds_tree.proofs.Words.{◌≡◌, ◌≤◌, ℕ, zero, suc, Bool, true, false, List, [], ◌∷◌, ◌++◌, length, refl, ap, sym, ◌∙◌, append_assoc, append-nil, arith}
use Rattle.rpds_tree.proofs.Words.{filter, items_where_true, keys_of, Ordering, IsBelowAll, IsAscending}
use Rattle.rpds_core.proofs.Lists.{chosen_all}
use Rattle.rpds_tree.proofs.Members.{length_members}
use Rattle.rpds_red_black.proofs.ByPosition.{drop_right, take_own}

-- no more flags are true than there are
pub true_most : (bs : List Bool) → length (filter (λ b. b) bs) ≤ length bs
true_most [] = omega arith
true_most (true ∷ bs) = omega (arith, true_most bs)
true_most (false ∷ bs) = omega (arith, true_most bs)

module _ {X : Type 0} where
  -- as many as flags are true
  pub length_chosen : (bs : List Bool) (xs : List X) → length bs ≡ length xs → length (items_where_true bs xs) ≡ length (filter (λ b. b) bs)
  length_chosen [] xs e = refl
  length_chosen (b ∷ bs) [] e = absurd (omega arith)
  length_chosen (true ∷ bs) (x ∷ xs) e = ap suc (length_chosen bs xs (omega arith))
  length_chosen (false ∷ bs) (x ∷ xs) e = length_chosen bs xs (omega arith)

module _ {X : Type 0} where
  -- the items got so far, and those that the flags left choose of the rest, are all that are chosen
  pub record AreChosen (got : List X) (flags : List Bool) (rest chosen : List X) : Type 0 where
    pub level : length flags ≡ length rest
    pub same : got ++ items_where_true flags rest ≡ chosen

  pub one_stays : (got : List X) (flags flags' : List Bool) (x : X) (rest rest' chosen : List X) → flags ≡ true ∷ flags' → rest ≡ x ∷ rest'
      → AreChosen got flags rest chosen → AreChosen (got ++ x ∷ []) flags' rest' chosen
  one_stays got flags flags' x rest rest' chosen f e a = record {
    level = omega (arith, a.level, ap length f, ap length e);
    same = append_assoc got (x ∷ []) (items_where_true flags' rest') ∙ (λ i. got ++ items_where_true (sym f i) (sym e i)) ∙ a.same;
  }

  pub one_goes : (got : List X) (flags flags' : List Bool) (x : X) (rest rest' chosen : List X) → flags ≡ false ∷ flags' → rest ≡ x ∷ rest'
      → AreChosen got flags rest chosen → AreChosen got flags' rest' chosen
  one_goes got flags flags' x rest rest' chosen f e a = record {
    level = omega (arith, a.level, ap length f, ap length e);
    same = (λ i. got ++ items_where_true (sym f i) (sym e i)) ∙ a.same;
  }

  -- where a flag is left, an item is
  pub next_left : (flag : Bool) (flags flags' : List Bool) (rest : List X) → flags ≡ flag ∷ flags' → length flags ≡ length rest
      → (x : X) × (rest' : List X) × (rest ≡ x ∷ rest')
  next_left flag flags flags' [] f level = absurd (omega (arith, level, ap length f))
  next_left flag flags flags' (x ∷ rest') f level = (x, rest', refl)

  -- the items got and those of the rest, without the first of these
  pub without_next : (left got rest rest' : List X) (x : X) (at : ℕ) → left ≡ got ++ rest → rest ≡ x ∷ rest' → at ≡ length got → remove left at ≡ got ++ rest'
  without_next left got rest rest' x at e f is =
      let around : left ≡ got ++ x ∷ rest' = e ∙ ap (λ l. got ++ l) f in
      rw (around, is) (λ i. take_own got rest' x i ++ drop_right got rest' x (suc (length got)) 0 (omega arith) i)

  -- where no flag is left
  pub all_chosen : (got : List X) (flags : List Bool) (rest chosen : List X) → flags ≡ [] → AreChosen got flags rest chosen → got ≡ chosen
  all_chosen got flags rest chosen f a = sym (append-nil got) ∙ (λ i. got ++ items_where_true (sym f i) rest) ∙ a.same

module _ {K V : Type 0} (R : K → K → Ordering) where
  below_chosen : (k : K) (bs : List Bool) (es : List (K × V)) → IsBelowAll R k es → IsBelowAll R k (items_where_true bs es)
  below_chosen k [] es h = tt
  below_chosen k (b ∷ bs) [] h = tt
  below_chosen k (true ∷ bs) (e ∷ es) h = (h.0, below_chosen k bs es h.1)
  below_chosen k (false ∷ bs) (e ∷ es) h = below_chosen k bs es h.1

  pub ascending_chosen : (bs : List Bool) (es : List (K × V)) → IsAscending R es → IsAscending R (items_where_true bs es)
  ascending_chosen [] es h = tt
  ascending_chosen (b ∷ bs) [] h = tt
  ascending_chosen (true ∷ bs) (e ∷ es) h = (below_chosen e.0 bs es h.0, ascending_chosen bs es h.1)
  ascending_chosen (false ∷ bs) (e ∷ es) h = ascending_chosen bs es h.1

  below_removed : (k : K) (at : ℕ) (es : List (K × V)) → IsBelowAll R k es → IsBelowAll R k (remove es at)
  below_removed k zero [] h = tt
  below_removed k (suc at) [] h = tt
  below_removed k zero (e ∷ es) h = h.1
  below_removed k (suc at) (e ∷ es) h = (h.0, below_removed k at es h.1)

  -- those without the one at a position
  pub ascending_removed : (at : ℕ) (es : List (K × V)) → IsAscending R es → IsAscending R (remove es at)
  ascending_removed zero [] h = tt
  ascending_removed (suc at) [] h = tt
  ascending_removed zero (e ∷ es) h = h.1
  ascending_removed (suc at) (e ∷ es) h = (below_removed e.0 at es h.0, ascending_removed at es h.1)

-- the keys of pairs
pub keys_chosen : {K V : Type 0} (bs : List Bool) (es : List (K × V)) → keys_of (items_where_true bs es) ≡ items_where_true bs (keys_of es)
keys_chosen [] es = refl
keys_chosen (b ∷ bs) [] = refl
keys_chosen (true ∷ bs) (e ∷ es) = ap (λ l. e.0 ∷ l) (keys_chosen bs es)
keys_chosen (false ∷ bs) (e ∷ es) = keys_chosen bs es

-- all pairs, where all keys are
pub members_all : {K V : Type 0} (bs : List Bool) (es : List (K × V)) → items_where_true bs (keys_of es) ≡ keys_of es → items_where_true bs es ≡ es
members_all bs es e = chosen_all bs es (omega (arith, ap length (keys_chosen bs es), ap length e, length_members es, length_members (items_where_true bs es)))
