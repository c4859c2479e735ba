-- What a changed row of pointers points to.
use Rattle.rpds_hash_trie.proofs.Words.{◌≡◌, ℕ, suc, ◌-◌, arith, List, [], ◌∷◌, ◌++◌, length, take, drop, refl, ap, insert, remove, length-drop, zip, Rc, behind, seen}
use Rattle.std.proofs.Common.{take_all}
use Rattle.std.proofs.lemmas.List.{append_assoc}
use Rattle.rpds_core.proofs.Rows.{behind_append, behind_drop, behind_take}
use Rattle.rpds_hash_trie.specs.Places.{placed, places}

module _ {X A : Type 0} where
  seen_zip : (ks : List ℕ) (rcs : List (Rc X A)) → seen (zip ks rcs) ≡ zip ks (behind rcs)
  seen_zip [] rcs = refl
  seen_zip (k ∷ ks) [] = refl
  seen_zip (k ∷ ks) (r ∷ rcs) = ap (λ z. (k, r.value) ∷ z) (seen_zip ks rcs)

  pub seen_placed : (b : ℕ) (rcs : List (Rc X A)) → seen (placed b rcs) ≡ placed b (behind rcs)
  unfolding placed
  seen_placed b rcs = seen_zip (places 64 0 b) rcs

  pub row_inserted : (row copy ys : List (Rc X A)) (at : ℕ) (more : Rc X A) → behind copy ≡ behind (take at row) → behind ys ≡ behind (drop at row) → behind ((copy ++ more ∷ []) ++ ys) ≡ insert (behind row) at more.value
  row_inserted row copy ys at more e f = rw (behind_append (copy ++ more ∷ []) ys, behind_append copy (more ∷ []), e, f, behind_take at row, behind_drop at row, append_assoc (take at (behind row)) (more.value ∷ []) (drop at (behind row))) refl

  pub row_removed : (row copy ys : List (Rc X A)) (at : ℕ) → behind copy ≡ behind (take at row) → behind ys ≡ behind (drop (suc at) row) → behind (copy ++ ys) ≡ remove (behind row) at
  row_removed row copy ys at e f = rw (behind_append copy ys, e, f, behind_take at row, behind_drop (suc at) row) refl

pub rest_is : {T : Type 0} (n : ℕ) (xs : List T) → take (length xs - n) (drop n xs) ≡ drop n xs
rest_is n xs = let l = length-drop n xs in take_all (length xs - n) (drop n xs) (omega arith)
