-- What an ascending list keeps by looks into another.
use Rattle.std.specs.List.{cons_option}
use Rattle.rpds_red_black.specs.Cuts.{sifted}
use Rattle.rpds_red_black.proofs.Words.{◌≡◌, ◌≤◌, ◌+◌, false, cond, length, arith, Option, Some, None, IfSome, Result, Ok, Err, IfOk, OnOk, List, [], ◌∷◌, ◌++◌}
use Rattle.rpds_red_black.proofs.Words.{refl, sym, ap, ◌∙◌, append_assoc, alike_right, tied_itself, Ordering, Less, Equal, Greater, IsTotalOrder, items_of, pick}
use Rattle.rpds_red_black.proofs.Words.{IsCutAt, IsCombined, IsBelowAll, IsAscending, find, Shape, Kept}
use Rattle.rpds_red_black.proofs.Cutting.{cut_ascending, cut_equal, cut_greater, cut_less, few_picked, pick_if}
use Rattle.rpds_red_black.proofs.Pairs.{find_same, find_tied}

consed : {X : Type 0} (x : Option X) (xs : List X) → cons_option x xs ≡ items_of x ++ xs
consed None xs = refl
consed (Some x) xs = refl

consed_before : {X : Type 0} (x : Option X) (xs ys : List X) → cons_option x (xs ++ ys) ≡ cons_option x xs ++ ys
consed_before None xs ys = refl
consed_before (Some x) xs ys = refl

cut_alone : {T : Type 0} (kept : Kept) (c : Option T) → kept.cut ≡ false → pick kept None c ≡ None
cut_alone kept None mine = refl
cut_alone kept (Some c) mine = ap (λ b. cond b (Some c) None) mine

if_found : {T : Type 0} (P : T → Type 0) (x : Option T) → ((p : T) → x ≡ Some p → P p) → IfSome x P
if_found P None h = tt
if_found P (Some p) h = h p refl

module _ {K V : Type 0} (R : K → K → Ordering) (kept : Kept) (cs : List (K × V)) where
  abbrev kept_of : K × V → Option (K × V)
  kept_of w = pick kept (Some w) (find R w.0 cs)

  -- of a list around a pair
  pub sifted_around : (l r : List (K × V)) (w : K × V) → sifted R kept cs (l ++ w ∷ r) ≡ sifted R kept cs l
      ++ (items_of (pick kept (Some w) (find R w.0 cs)) ++ sifted R kept cs r)
  sifted_around [] r w = consed (kept_of w) (sifted R kept cs r)
  sifted_around (x ∷ l) r w =
      ap (cons_option (kept_of x)) (sifted_around l r w) ∙ consed_before (kept_of x) (sifted R kept cs l) (items_of (kept_of w) ++ sifted R kept cs r)

  -- where those of one side were put behind others, then what is kept of the pair, then those of the other side
  pub sifted_behind : (l r before middle after all : List (K × V)) (w : K × V) → before ≡ all ++ sifted R kept cs l
      → middle ≡ before ++ items_of (pick kept (Some w) (find R w.0 cs)) → {E : Type 0} (result : Result (Unit {0}) E)
      → OnOk result (after ≡ middle ++ sifted R kept cs r) → OnOk result (after ≡ all ++ sifted R kept cs (l ++ w ∷ r))
  sifted_behind l r before middle after all w on_left own (Err e) on_right = tt
  sifted_behind l r before middle after all w on_left own (Ok u) on_right =
      on_right ∙ ap (λ x. x ++ sifted R kept cs r) (own ∙ ap (λ x. x ++ items_of (kept_of w)) on_left)
      ∙ append_assoc (all ++ sifted R kept cs l) (items_of (kept_of w)) (sifted R kept cs r) ∙ append_assoc all (sifted R kept cs l)
      (items_of (kept_of w) ++ sifted R kept cs r) ∙ ap (λ x. all ++ x) (sym (sifted_around l r w))

  few_consed : (x : Option (K × V)) (es : List (K × V)) → length (items_of x) ≤ 1 → length (cons_option x es) ≤ 1 + length es
  few_consed None es few = omega arith
  few_consed (Some x) es few = omega arith

  pub sifted_few : (ws : List (K × V)) → length (sifted R kept cs ws) ≤ length ws
  sifted_few [] = omega arith
  sifted_few (w ∷ ws) = omega (arith, few_consed (kept_of w) (sifted R kept cs ws) (few_picked kept w (find R w.0 cs)), sifted_few ws)

  module _ (o : IsTotalOrder R) where
    kept_tied : (w : K × V) → IfSome (kept_of w) (λ p. R w.0 p.0 ≡ Equal)
    kept_tied w = pick_if (λ p. R w.0 p.0 ≡ Equal) kept w (find R w.0 cs) (tied_itself o w.0) (if_found (λ p. R w.0 p.0 ≡ Equal) (find R w.0 cs)
        (find_tied o w.0 cs))

    below_consed : (k : K) (w : K × V) (x : Option (K × V)) (es : List (K × V)) → IfSome x (λ p. R w.0 p.0 ≡ Equal) → R k w.0 ≡ Less → IsBelowAll R k es
        → IsBelowAll R k (cons_option x es)
    below_consed k w None es tied p below = below
    below_consed k w (Some x) es tied p below = (sym (alike_right o w.0 x.0 k tied) ∙ p, below)

    below_sifted : (k : K) (ws : List (K × V)) → IsBelowAll R k ws → IsBelowAll R k (sifted R kept cs ws)
    below_sifted k [] h = tt
    below_sifted k (w ∷ ws) h = below_consed k w (kept_of w) (sifted R kept cs ws) (kept_tied w) h.0 (below_sifted k ws h.1)

    pub sifted_combined : kept.cut ≡ false → (ws : List (K × V)) → IsAscending R ws → IsCombined R kept ws cs (sifted R kept cs ws)
    sifted_combined mine [] up = record { ascending = tt; finds = λ k. sym (cut_alone kept (find R k cs) mine); few = omega arith }
    sifted_combined mine (w ∷ ws) up =
        let rest = sifted_combined mine ws up.1 in
        let es = sifted R kept cs (w ∷ ws) in
        let t : IsCutAt R w.0 es [] (kept_of w) (sifted R kept cs ws) = record {
          same = consed (kept_of w) (sifted R kept cs ws);
          below = tt;
          tied = kept_tied w;
          above = below_sifted w.0 ws up.0;
        } in
        let s : IsCutAt R w.0 (w ∷ ws) [] (Some w) ws = record { same = refl; below = tt; tied = tied_itself o w.0; above = up.0 } in
        record {
          ascending = cut_ascending R o w.0 es [] (kept_of w) (sifted R kept cs ws) t tt rest.ascending;
          finds = λ k. elim (R k w.0) as (λ r. R k w.0 ≡ r → find R k es ≡ pick kept (find R k (w ∷ ws)) (find R k cs)) [
            | Less ↦ λ h. rw (cut_less R o s k h) (cut_less R o t k h ∙ sym (cut_alone kept (find R k cs) mine))
            | Equal ↦ λ h. rw (cut_equal R o s k h, find_same o k w.0 cs h) (cut_equal R o t k h)
            | Greater ↦ λ h. rw (cut_greater R o s k h) (cut_greater R o t k h ∙ rest.finds k)
          ] refl;
          few = omega (arith, sifted_few (w ∷ ws));
        }

    pub sifted_result : kept.cut ≡ false → (ws : List (K × V)) → IsAscending R ws → {E : Type 0} (result : Result (Shape K V) E)
        → IfOk result (λ t. t.entries ≡ sifted R kept cs ws) → IfOk result (λ t. IsCombined R kept ws cs t.entries)
    sifted_result mine ws up (Err e) is = tt
    sifted_result mine ws up (Ok t) is = rw is (sifted_combined mine ws up)
