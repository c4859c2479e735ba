-- What a transaction keeps, and one change more.
use Rattle.std.proofs.Common.{◌≡◌, ℕ, None, List, [], ◌∷◌, ◌++◌, length, take, sym, subst, ap, ◌∙◌}
use Rattle.std.specs.Ordering.{nat_cmp}
use Rattle.std.proofs.lemmas.List.Sums.{fold-append}
use Rattle.rpds.specs.Kinds.RedBlackTreeMaps.{pairs_after}
use Rattle.rpds.specs.Pairs.{find}
use Rattle.rpds.specs.TableContents.{Contents}
use Rattle.rpds.specs.declared.table.Op.{Op}
use Rattle.rpds.specs.declared.table.Op.TheVariants.{Remove}
use Rattle.example_ledger.specs.Changed.{FindsNothing, IsMapAt, changed}

pub kept : {X : Type 0} (first t t' : List X) (draft : ℕ) → draft ≡ length first → take (length first) t ≡ first → take draft t' ≡ take draft t → take (length first) t' ≡ first
kept first t t' draft at stay before = subst (λ n. take n t' ≡ take n t) at before ∙ stay

pub one_more : {H A S : Type 0} (number : ℕ) (pairs : List (ℕ × ℕ)) (done : List (Op ℕ ℕ)) (op : Op ℕ ℕ) (t : Contents ℕ ℕ H A S)
    → IsMapAt number (pairs_after nat_cmp (changed pairs done) op) t → IsMapAt number (changed pairs (done ++ op ∷ [])) t
one_more number pairs done op t map = subst (λ made. IsMapAt number made t) (sym (fold-append (pairs_after nat_cmp) pairs done (op ∷ []))) map

pub changes_nothing : (pairs : List (ℕ × ℕ)) (ops done left rest : List (Op ℕ ℕ)) (op : Op ℕ ℕ) → ops ≡ done ++ left → left ≡ op ∷ rest
    → (key : ℕ) × (op ≡ Remove key) × (find nat_cmp key (changed pairs done) ≡ None) → FindsNothing pairs ops
changes_nothing pairs ops done left rest op is next w = record {
  done = done;
  key = w.0;
  rest = rest;
  is = is ∙ ap (λ l. done ++ l) (next ∙ ap (λ o. o ∷ rest) w.1);
  absent = w.2;
}
