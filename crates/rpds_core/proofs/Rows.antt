-- What a row of pointers points to.
use Rattle.std.proofs.Common.{◌≡◌, ℕ, zero, suc, List, [], ◌∷◌, ◌++◌, length, set, take, drop, refl, ap}
use Rattle.std.specs.List.{AllZip}
use Rattle.std.specs.declared.rc.Rc.{Rc}
use Rattle.rpds_core.specs.Rows.{behind}

module _ {X A : Type 0} where
  pub behind_length : (rcs : List (Rc X A)) → length (behind rcs) ≡ length rcs
  behind_length [] = refl
  behind_length (r ∷ rcs) = ap (λ n. suc n) (behind_length rcs)

  pub behind_set : (rcs : List (Rc X A)) (i : ℕ) (rc : Rc X A) → behind (set rcs i rc) ≡ set (behind rcs) i rc.value
  behind_set [] i rc = refl
  behind_set (r ∷ rcs) zero rc = refl
  behind_set (r ∷ rcs) (suc i) rc = ap (λ z. r.value ∷ z) (behind_set rcs i rc)

  pub behind_append : (rcs more : List (Rc X A)) → behind (rcs ++ more) ≡ behind rcs ++ behind more
  behind_append [] more = refl
  behind_append (r ∷ rcs) more = ap (λ z. r.value ∷ z) (behind_append rcs more)

  pub behind_take : (n : ℕ) (rcs : List (Rc X A)) → behind (take n rcs) ≡ take n (behind rcs)
  behind_take zero rcs = refl
  behind_take (suc n) [] = refl
  behind_take (suc n) (r ∷ rcs) = ap (λ z. r.value ∷ z) (behind_take n rcs)

  pub behind_drop : (n : ℕ) (rcs : List (Rc X A)) → behind (drop n rcs) ≡ drop n (behind rcs)
  behind_drop zero rcs = refl
  behind_drop (suc n) [] = refl
  behind_drop (suc n) (r ∷ rcs) = behind_drop n rcs

  pub behind_clones : (rcs copies : List (Rc X A)) → AllZip (λ rc copy. copy.value ≡ rc.value) rcs copies → behind copies ≡ behind rcs
  behind_clones [] [] a = refl
  behind_clones [] (c ∷ cs) a = absurd a
  behind_clones (r ∷ rs) [] a = absurd a
  behind_clones (r ∷ rs) (c ∷ cs) a = rw (a.0, behind_clones rs cs a.1) refl
