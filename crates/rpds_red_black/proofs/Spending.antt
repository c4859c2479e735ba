-- What walking one tree and cutting another spends.
use Rattle.std.proofs.Common.{min}
use Rattle.rpds_core.specs.Counts.{IsMadeWithin}
use Rattle.rpds_red_black.proofs.Words.{◌≡◌, ℕ, ◌+◌, ◌*◌, ◌≤◌, max, sym, ap, ◌∙◌, arith, add-mul, one-mul, mul-le-mul_left, within_more, within_then, IsWithin}
use Rattle.rpds_red_black.specs.Join.{IsSplit}
use Rattle.rpds_red_black.specs.declared.split.Split.{Split}
use Rattle.rpds_red_black.proofs.Words.{floor_log2, length, most_levels, rank, Ordering, IsTotalOrder, IsSound, Shape, Painted, Steps}
use Rattle.rpds_red_black.proofs.Cutting.{cut_length}
use Rattle.rpds_red_black.proofs.Over.{IsOver}
use Rattle.rpds_red_black.proofs.Ranks.{depth_rank, log_grows}

parts : (a b x : ℕ) → (a + (1 + b)) * x ≡ a * x + (x + b * x)
parts a b x = add-mul a (1 + b) x ∙ ap (λ z. a * x + z) (add-mul 1 b x ∙ ap (λ z. z + b * x) (one-mul x))

-- n entries are walked, nl of them before the root and nr after it; the other tree has rank r, and m bounds its parts
module _ (n nl nr r m : ℕ) (is : n ≡ nl + (1 + nr)) where
  all_compared : n * r ≡ nl * r + (r + nr * r)
  all_compared = ap (λ z. z * r) is ∙ parts nl nr r

  all_made : n * (4 * r + 10 * m + 3) ≡ nl * (4 * r + 10 * m + 3) + ((4 * r + 10 * m + 3) + nr * (4 * r + 10 * m + 3))
  all_made = ap (λ z. z * (4 * r + 10 * m + 3)) is ∙ parts nl nr (4 * r + 10 * m + 3)

  module _ (depth black : ℕ) (deep : depth ≤ r) (high : 2 * black ≤ r) {a b : Steps} (split : IsWithin depth (4 * black + 2 * depth) a b) where
    pub spent_split : IsWithin (n * r) (n * (4 * r + 10 * m + 3)) a b
    spent_split = within_more split (omega (arith, all_compared, deep)) (omega (arith, all_made, deep, high))

    module _ (r1 m1 : ℕ) (low1 : r1 ≤ r) (few1 : m1 ≤ m) {c : Steps} (left : IsWithin (nl * r1) (nl * (4 * r1 + 10 * m1 + 3)) b c) where
      left_compared : nl * r1 ≤ nl * r
      left_compared = mul-le-mul_left nl low1

      left_made : nl * (4 * r1 + 10 * m1 + 3) ≤ nl * (4 * r + 10 * m + 3)
      left_made = mul-le-mul_left nl (omega (arith, low1, few1))

      pub spent_left : IsWithin (n * r) (n * (4 * r + 10 * m + 3)) a c
      spent_left = within_more (within_then split left) (omega (arith, all_compared, deep, left_compared)) (omega (arith, all_made, deep, high, left_made))

      module _ (r2 m2 : ℕ) (low2 : r2 ≤ r) (few2 : m2 ≤ m) {d : Steps} (right : IsWithin (nr * r2) (nr * (4 * r2 + 10 * m2 + 3)) c d) where
        right_compared : nr * r2 ≤ nr * r
        right_compared = mul-le-mul_left nr low2

        right_made : nr * (4 * r2 + 10 * m2 + 3) ≤ nr * (4 * r + 10 * m + 3)
        right_made = mul-le-mul_left nr (omega (arith, low2, few2))

        pub spent_right : IsWithin (n * r) (n * (4 * r + 10 * m + 3)) a d
        spent_right = within_more (within_then (within_then split left) right) (omega (arith, all_compared, deep, left_compared, right_compared))
            (omega (arith, all_made, deep, high, left_made, right_made))

        pub spent_all : (x y : ℕ) → x ≤ m → y ≤ m → {e : Steps} → IsWithin 0 (10 * max x y + 3) d e → IsWithin (n * r) (n * (4 * r + 10 * m + 3)) a e
        spent_all x y low high' join = within_more (within_then (within_then (within_then split left) right) join)
            (omega (arith, all_compared, deep, left_compared, right_compared)) (omega (arith, all_made, deep, high, left_made, right_made, low, high'))

-- the keys of nl entries are looked up in a tree of that depth, that of one more, and those of nr
module _ (n nl nr depth : ℕ) (is : n ≡ nl + (1 + nr)) {a b c : Steps} (left : IsWithin (nl * depth) 0 a b) (own : IsWithin depth 0 b c) where
  looks_compared : n * depth ≡ nl * depth + (depth + nr * depth)
  looks_compared = ap (λ z. z * depth) is ∙ parts nl nr depth

  pub looks_left : IsWithin (n * depth) 0 a b
  looks_left = within_more left (omega (arith, looks_compared)) (omega arith)

  pub looks_own : IsWithin (n * depth) 0 a c
  looks_own = within_more (within_then left own) (omega (arith, looks_compared)) (omega arith)

  pub looks_all : {d : Steps} → IsWithin (nr * depth) 0 c d → IsWithin (n * depth) 0 a d
  looks_all right = within_more (within_then (within_then left own) right) (omega (arith, looks_compared)) (omega arith)

-- a look-up, as work within bounds
pub looked_once : {depth : ℕ} {a b : Steps} → b.compared ≤ a.compared + depth → a.compared ≤ b.compared → b ≡ record a { compared = b.compared }
    → IsWithin depth 0 a b
looked_once {a = a} {b = b} most least only =
    let made : b.made ≡ a.made = ap (λ (s : Steps). s.made) only in
    record {
      compared_least = least;
      compared_most = most;
      made_least = omega (arith, made);
      made_most = omega (arith, made);
      only = only ∙ ap {A = ℕ} {B = Steps} (λ n. record a { compared = b.compared; made = n }) (sym made);
    }

-- look-ups, and nodes that are made of what they found
pub looked_built : {compared made most : ℕ} {a b c : Steps} → IsWithin compared 0 a b → IsMadeWithin made b c → made ≤ most → IsWithin compared most a c
looked_built {a = a} {c = c} looks built few = record {
  compared_least = omega (arith, looks.compared_least, ap (λ (s : Steps). s.compared) built.only);
  compared_most = omega (arith, looks.compared_most, ap (λ (s : Steps). s.compared) built.only);
  made_least = omega (arith, looks.made_least, built.made_least);
  made_most = omega (arith, looks.made_most, built.made_most, few);
  only = built.only ∙ ap {A = Steps} {B = Steps} (λ s. record s { made = c.made }) looks.only ∙ ap {A = ℕ} {B = Steps}
      (λ n. record a { compared = n; made = c.made }) (sym (ap (λ (s : Steps). s.compared) built.only));
}

-- all keys were looked up, and no more nodes made
pub looked_up : (n r m depth : ℕ) → depth ≤ r → {a b : Steps} → IsWithin (n * depth) n a b → IsWithin (n * r) (n * (4 * r + 10 * m + 3)) a b
looked_up n r m depth deep h =
    let once : n * 1 ≤ n * (4 * r + 10 * m + 3) = mul-le-mul_left n (omega arith) in
    within_more h (mul-le-mul_left n deep) (omega (arith, once))

-- the whole walk, by the lengths of both lists
pub whole_walk : (count more r : ℕ) → r ≤ most_levels more → {a b : Steps} → IsWithin (count * r) (count * (4 * r + 10 * floor_log2 (count + more + 1) + 3))
    a b → IsWithin (count * most_levels more) (count * (4 * most_levels more + 5 * most_levels (count + more) + 3)) a b
whole_walk count more r low walk = within_more walk (mul-le-mul_left count low) (mul-le-mul_left count (omega (arith, low)))

-- all keys of the shorter list were looked up
pub whole_look : (count more depth : ℕ) → depth ≤ most_levels more → {a b : Steps} → IsWithin (count * depth) count a b
    → IsWithin (count * most_levels more) (count * (4 * most_levels more + 5 * most_levels (count + more) + 3)) a b
whole_look count more depth low looks =
    whole_walk count more (most_levels more) (omega arith) (looked_up count (most_levels more) (floor_log2 (count + more + 1)) depth low looks)

-- the same of a walk of the longer list
pub whole_cut : (count more r depth : ℕ) → r ≤ most_levels more → depth ≤ r → {a b : Steps} → IsWithin (count * depth) (count * (9 * r + 3)) a b
    → IsWithin (count * most_levels more) (count * (4 * most_levels more + 5 * most_levels (count + more) + 3)) a b
whole_cut count more r depth low deep walk =
    within_more walk (mul-le-mul_left count (omega (arith, low, deep))) (mul-le-mul_left count (omega (
      arith,
      low,
      log_grows (more + 1) (count + more + 1)
          (omega arith) (omega arith),
    )))

-- where one list is walked that is no longer than the other
pub within_few : (n m : ℕ) {a b : Steps} → n ≤ m → IsWithin (n * most_levels m) (n * (4 * most_levels m + 5 * most_levels (n + m) + 3)) a b
    → IsWithin (min n m * most_levels (max n m)) (min n m * (4 * most_levels (max n m) + 5 * most_levels (n + m) + 3)) a b
within_few n m few h =
    let least : min n m ≡ n = omega (arith, few) in
    let most : max n m ≡ m = omega (arith, few) in
    rw (least, most) h

pub within_few_turned : (n m : ℕ) {a b : Steps} → m ≤ n → IsWithin (m * most_levels n) (m * (4 * most_levels n + 5 * most_levels (m + n) + 3)) a b
    → IsWithin (min n m * most_levels (max n m)) (min n m * (4 * most_levels (max n m) + 5 * most_levels (n + m) + 3)) a b
within_few_turned n m few h =
    let least : min n m ≡ m = omega (arith, few) in
    let most : max n m ≡ n = omega (arith, few) in
    let turned : n + m ≡ m + n = omega arith in
    rw (least, most, turned) h

-- what is spent where a tree is walked and another one cut
abbrev pub Sifts : {K V : Type 0} → Shape K V → Shape K V → Steps → Steps → Type 0
Sifts s t a b = IsWithin (length s.entries * rank t)
    (length s.entries * (4 * rank t + 10 * floor_log2 (length s.entries + length t.entries + 1) + 3)) a b

-- the tree s over the sides of n is walked, and t cut
module _ {K V A : Type 0} {s : Shape K V} {n : Painted K V A} (f : IsOver s n) (t : Shape K V) (sound : IsSound t) {a b : Steps}
    (split : IsWithin t.depth (4 * t.black + 2 * t.depth) a b) where
  high : 2 * t.black ≤ rank t
  high = omega arith

  pub sifts_split : Sifts s t a b
  sifts_split = spent_split (length s.entries) (length n.left.entries) (length n.right.entries) (rank t) (floor_log2 (length s.entries + length t.entries + 1))
      f.count t.depth t.black (depth_rank t sound) high split

  module _ (R : K → K → Ordering) (o : IsTotalOrder R) {B : Type 0} {k : K} (x : Split K V B) (cut : IsSplit R k t x) {c : Steps}
      (left : Sifts n.left x.before b c) where
    few_left : floor_log2 (length n.left.entries + length x.before.entries + 1) ≤ floor_log2 (length s.entries + length t.entries + 1)
    few_left = log_grows (length n.left.entries + length x.before.entries + 1) (length s.entries + length t.entries + 1) (omega arith)
        (omega (arith, f.count, cut_length R o cut.cut))

    pub sifts_left : Sifts s t a c
    sifts_left = spent_left (length s.entries) (length n.left.entries) (length n.right.entries) (rank t)
        (floor_log2 (length s.entries + length t.entries + 1)) f.count t.depth t.black (depth_rank t sound) high split (rank x.before)
        (floor_log2 (length n.left.entries + length x.before.entries + 1)) cut.before_low few_left left

    module _ {d : Steps} (right : Sifts n.right x.after c d) where
      few_right : floor_log2 (length n.right.entries + length x.after.entries + 1) ≤ floor_log2 (length s.entries + length t.entries + 1)
      few_right = log_grows (length n.right.entries + length x.after.entries + 1) (length s.entries + length t.entries + 1) (omega arith)
          (omega (arith, f.count, cut_length R o cut.cut))

      pub sifts_right : Sifts s t a d
      sifts_right = spent_right (length s.entries) (length n.left.entries) (length n.right.entries) (rank t)
          (floor_log2 (length s.entries + length t.entries + 1)) f.count t.depth t.black (depth_rank t sound) high split (rank x.before)
          (floor_log2 (length n.left.entries + length x.before.entries + 1)) cut.before_low few_left left (rank x.after)
          (floor_log2 (length n.right.entries + length x.after.entries + 1)) cut.after_low few_right right

      pub sifts_join : (l r : Shape K V) → l.black ≤ floor_log2 (length l.entries + 1) → r.black ≤ floor_log2 (length r.entries + 1)
          → length l.entries ≤ length n.left.entries + length x.before.entries → length r.entries ≤ length n.right.entries + length x.after.entries
          → {e : Steps} → IsWithin 0 (10 * max l.black r.black + 3) d e → Sifts s t a e
      sifts_join l r low low' few few' join = spent_all (length s.entries) (length n.left.entries) (length n.right.entries) (rank t)
          (floor_log2 (length s.entries + length t.entries + 1)) f.count t.depth t.black (depth_rank t sound) high split (rank x.before)
          (floor_log2 (length n.left.entries + length x.before.entries + 1)) cut.before_low few_left left (rank x.after)
          (floor_log2 (length n.right.entries + length x.after.entries + 1)) cut.after_low few_right right l.black r.black
          (omega (arith, low, few_left, log_grows (length l.entries + 1) (length n.left.entries + length x.before.entries + 1) (omega arith) (omega (arith, few))))
          (omega (arith, low', few_right, log_grows (length r.entries + 1) (length n.right.entries + length x.after.entries + 1) (omega arith) (omega (arith, few'))))
          join
