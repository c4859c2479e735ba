-- A tree over the sides of its root: how many pairs it has, how deep and how high it is, by its sides.
use Rattle.rpds_red_black.proofs.Words.{◌≡◌, ◌+◌, ◌≤◌, length, ap, ◌∙◌, arith, rank, Shape, shape_of, IsEven, Painted}
use Rattle.rpds_red_black.proofs.Ranks.{branch_length, rank_left, rank_right}

pub record IsOver {K V A : Type 0} (s : Shape K V) (n : Painted K V A) : Type 0 where
  pub same : s ≡ shape_of n
  pub even : IsEven n
  pub count : length s.entries ≡ length n.left.entries + (1 + length n.right.entries)
  pub deep_left : n.left.depth + 1 ≤ s.depth
  pub deep_right : n.right.depth + 1 ≤ s.depth
  pub under_left : rank n.left + 1 ≤ rank s
  pub under_right : rank n.right + 1 ≤ rank s

pub over : {K V A : Type 0} {s : Shape K V} {n : Painted K V A} → s ≡ shape_of n → IsEven n → IsOver s n
over {s = s} {n = n} same even = record {
  same = same;
  even = even;
  count = ap (λ (s : Shape _ _). length s.entries) same ∙ branch_length n;
  deep_left = omega (arith, ap (λ (s : Shape _ _). s.depth) same);
  deep_right = omega (arith, ap (λ (s : Shape _ _). s.depth) same);
  under_left = rw same (rank_left n even);
  under_right = rw same (rank_right n even);
}
