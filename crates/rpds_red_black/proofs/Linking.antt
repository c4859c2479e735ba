-- Trees that are put over combined sides.
use Rattle.rpds_red_black.proofs.Words.{◌≡◌, ℕ, ◌≤◌, ◌∷◌, ◌++◌, None, Some, Result, Ok, Err, IfOk, append-nil, refl, sym, ap, ◌∙◌, arith, false≢true, rank_over}
use Rattle.rpds_red_black.proofs.Words.{IsLinked, rank, IsJoined, Shape, leaf, pair_of, shape_of, IsEven, Painted}

module _ {K V : Type 0} (most : ℕ) (a b : Shape K V) where
  pub joined_linked : (p : K × V) {E : Type 0} (result : Result (Shape K V) E) → IfOk result (IsJoined (a.entries ++ p ∷ b.entries) a b)
      → IfOk result (IsLinked (Some p) most a b)
  joined_linked p (Err e) joins = tt
  joined_linked p (Ok t) joins = record { pairs = joins.pairs; over_a = joins.over_a; over_b = λ _. joins.over_b; low = omega (arith, joins.low) }

  pub left_linked : b ≡ leaf → IsLinked None most a b a
  left_linked empty = record {
    pairs = rw empty (sym (append-nil a.entries));
    over_a = omega arith;
    over_b = λ some. absurd (false≢true some);
    low = omega arith;
  }

  pub right_linked : a ≡ leaf → IsLinked None most a b b
  right_linked empty = record { pairs = rw empty refl; over_a = rw empty (omega arith); over_b = λ some. absurd (false≢true some); low = omega arith }

  -- the first pair of the right side comes between
  pub taken_linked : (p : K × V) (rest : Shape K V) → b.entries ≡ p ∷ rest.entries → rank rest ≤ rank b → {E : Type 0} (result : Result (Shape K V) E)
      → IfOk result (IsLinked (Some p) most a rest) → IfOk result (IsLinked None most a b)
  taken_linked p rest is low (Err e) linked = tt
  taken_linked p rest is low (Ok t) linked = record {
    pairs = linked.pairs ∙ ap (λ x. a.entries ++ x) (sym is);
    over_a = linked.over_a;
    over_b = λ some. absurd (false≢true some);
    low = omega (arith, linked.low, low);
  }

-- a node again over its sides, or over others that are as high
pub node_linked : {K V A : Type 0} (n : Painted K V A) → IsEven n → IsLinked (Some (pair_of n.entry.value)) (rank_over n.color n.left.black) n.left n.right
    (shape_of n)
node_linked n even = record { pairs = refl; over_a = omega arith; over_b = λ _. omega (arith, even.level); low = omega arith }
