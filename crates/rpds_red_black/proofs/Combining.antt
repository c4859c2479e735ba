-- Trees combined by their keys.
use Rattle.rpds_red_black.specs.Combined.{IsCombination}
use Rattle.rpds_red_black.proofs.Words.{◌≡◌, ℕ, ◌+◌, ◌*◌, ◌≤◌, max, Bool, true, false, cond, length, arith, Option, Some, None, IsSome, Result, Ok, Err, IfOk, OnOk}
use Rattle.rpds_red_black.proofs.Words.{List, [], ◌∷◌, refl, sym, ap, ◌∙◌, tied_back, Ordering, Less, Equal, Greater, ordering_reverse, IsTotalOrder, IsWithin}
use Rattle.rpds_red_black.proofs.Words.{Steps, or_same, IsLinked, items_of, pick, IsCutAt, gap, rank, floor_log2, most_levels, IsAscending, find, Shape, branch}
use Rattle.rpds_red_black.proofs.Words.{leaf, pair_of, shape_of, IsEven, Painted, Kept, Red}
use Rattle.rpds_red_black.proofs.Cutting.{combined, cut_length}
use Rattle.rpds_red_black.proofs.Growing.{both_logs, few_split, grown_apart, grown_left, grown_over, grown_right, grown_split, log_half, within_made_most}
use Rattle.rpds_red_black.proofs.Logarithm.{power_le_log}
use Rattle.rpds_red_black.proofs.Over.{IsOver}
use Rattle.rpds_red_black.proofs.Ranks.{log_grows, rank_left, rank_right, red_or_black}

pub walked_alone : {T : Type 0} (kept : Kept) (w : Option T) → kept.walked ≡ true → w ≡ pick kept w None
walked_alone kept None walked = refl
walked_alone kept (Some w) walked = sym (ap (λ b. cond b (Some w) None) walked)

cut_alone : {T : Type 0} (kept : Kept) (c : Option T) → kept.cut ≡ true → c ≡ pick kept None c
cut_alone kept None cut = refl
cut_alone kept (Some c) cut = sym (ap (λ b. cond b (Some c) None) cut)

none_kept : {T : Type 0} (kept : Kept) (c : Option T) → kept.cut ≡ false → None ≡ pick kept None c
none_kept kept None alone = refl
none_kept kept (Some c) alone = sym (ap (λ b. cond b (Some c) None) alone)

levels_grow : (m n : ℕ) → m ≤ n → most_levels m ≤ most_levels n
levels_grow m n more = omega (arith, log_grows (m + 1) (n + 1) (omega arith) (omega (arith, more)))

module _ {K V : Type 0} (R : K → K → Ordering) (o : IsTotalOrder R) (kept : Kept) where
  -- nothing was cut
  pub untouched : kept.walked ≡ true → (s : Shape K V) → IsAscending R s.entries → IsCombination R kept s [] s
  untouched walked s up = record {
    combined = record { ascending = up; finds = λ k. walked_alone kept (find R k s.entries) walked; few = omega arith };
    high = omega arith;
    low = omega arith;
  }

  -- nothing was walked
  pub all_cut : kept.cut ≡ true → (t : Shape K V) → IsAscending R t.entries → rank t ≤ most_levels (length t.entries) → IsCombination R kept leaf t.entries t
  all_cut cut t up low = record {
    combined = record { ascending = up; finds = λ k. cut_alone kept (find R k t.entries) cut; few = omega arith };
    high = omega arith;
    low = omega (arith, low);
  }

  -- nothing was walked, and nothing is kept of what was cut
  none_cut : kept.cut ≡ false → (cs : List (K × V)) → IsCombination R kept leaf cs leaf
  none_cut alone cs = record {
    combined = record { ascending = tt; finds = λ k. none_kept kept (find R k cs) alone; few = omega arith };
    high = omega arith;
    low = omega arith;
  }

  -- the same after a call
  pub cut_on : (s t : Shape K V) → s ≡ leaf → IsAscending R t.entries → rank t ≤ most_levels (length t.entries) → (made : Option (Shape K V))
      → {E : Type 0} (result : Result (Unit {0}) E) → OnOk result (made ≡ cond kept.cut (Some t) None)
      → OnOk result (IsCombination R kept s t.entries (or_same s made))
  cut_on s t empty up low made (Err e) is = tt
  cut_on s t empty up low made (Ok u) is = rw (empty, is) (go kept.cut refl)
    where
      go : (b : Bool) → kept.cut ≡ b → IsCombination R kept leaf t.entries (or_same leaf (cond b (Some t) None))
      go true h = all_cut h t up low
      go false h = none_cut h t.entries

  pub one_low : (p : K × V) → rank (branch Red leaf p leaf) ≤ most_levels 1
  one_low p = omega (arith, power_le_log 2 1 (omega arith))

  -- one pair, on either side of a key
  pub one_before : (j : K) (p : K × V) → R p.0 j ≡ Less → IsCutAt R j (p ∷ []) (p ∷ []) None []
  one_before j p less = record { same = refl; below = (less, tt); tied = tt; above = tt }

  pub one_at : (j : K) (p : K × V) → R p.0 j ≡ Equal → IsCutAt R j (p ∷ []) [] (Some p) []
  one_at j p tied = record { same = refl; below = tt; tied = tied_back o p.0 j tied; above = tt }

  pub one_after : (j : K) (p : K × V) → R p.0 j ≡ Greater → IsCutAt R j (p ∷ []) [] None (p ∷ [])
  one_after j p greater = record { same = refl; below = tt; tied = tt; above = (o.antisymm j p.0 ∙ ap ordering_reverse greater, tt) }

  -- a node, one side of which was combined with one pair
  module _ {A : Type 0} (n : Painted K V A) (even : IsEven n) (p : K × V) (t : Shape K V) where
    pub near_right : IsCombination R kept n.left (p ∷ []) t → gap t.black n.right.black ≤ 1
    near_right left = omega (arith, left.high, left.low, log_half 2 (omega arith), even.level, red_or_black n.left.color)

    pub near_left : IsCombination R kept n.right (p ∷ []) t → gap n.left.black t.black ≤ 1
    near_left right = omega (arith, right.high, right.low, log_half 2 (omega arith), even.level, red_or_black n.right.color)

  -- the key is that of the node
  pub level_low : {A : Type 0} (n : Painted K V A) → IsEven n → 10 * max n.left.black n.right.black + 3 ≤ 9 * rank (shape_of n) + 3
  level_low n even = omega (arith, even.level, rank_left n even)

  -- a node n, and pairs cs that were cut at its key
  module _ {A : Type 0} (n : Painted K V A) (even : IsEven n) (up : IsAscending R (shape_of n).entries) (cs cl cr : List (K × V)) (c : Option (K × V))
      (cut : IsCutAt R (pair_of n.entry.value).0 cs cl c cr) (walked : kept.walked ≡ true) (some : 1 ≤ length cs) where
    parts_length : length cs ≡ length cl + (length (items_of c) + length cr)
    parts_length = cut_length R o cut

    module _ (l r t : Shape K V) (left : IsCombination R kept n.left cl l) (right : IsCombination R kept n.right cr r)
        (linked : IsLinked (pick kept (Some (pair_of n.entry.value)) c) (rank (shape_of n)) l r t) where
      high : (shape_of n).black ≤ t.black + length cs
      high = elim c as (λ c. (IsSome (pick kept (Some (pair_of n.entry.value)) c) → r.black ≤ t.black)
          → length cs ≡ length cl + (length (items_of c) + length cr) → (shape_of n).black ≤ t.black + length cs) [
            | None ↦ λ over count. (let over' : r.black ≤ t.black = over (rw walked refl) in omega (
              arith,
              left.high,
              right.high,
              linked.over_a,
              over',
              count,
              some,
              even.level,
              red_or_black n.color,
            ))
            | Some p ↦ λ over count. omega (arith, left.high, linked.over_a, count, red_or_black n.color)
          ] linked.over_b parts_length

      low : rank t ≤ rank (shape_of n) + most_levels (length cs)
      low =
          let few_left = levels_grow (length cl) (length cs) (omega (arith, parts_length)) in
          let few_right = levels_grow (length cr) (length cs) (omega (arith, parts_length)) in
          omega (arith, linked.low, left.low, right.low, few_left, few_right, rank_left n even, rank_right n even)

      pub whole : IsCombination R kept (shape_of n) cs t
      whole = record {
        combined = combined R o kept (pair_of n.entry.value) (shape_of n).entries n.left.entries n.right.entries cs cl cr l.entries r.entries t.entries c
            (pick kept (Some (pair_of n.entry.value)) c) up refl cut left.combined right.combined refl linked.pairs;
        high = high;
        low = low;
      }

    -- how high the sides are
    module _ (l r : Shape K V) (left : IsCombination R kept n.left cl l) (right : IsCombination R kept n.right cr r) where
      log_left : 2 * floor_log2 (length cl + 1) ≤ length cl + 1
      log_left = log_half (length cl + 1) (omega arith)

      log_right : 2 * floor_log2 (length cr + 1) ≤ length cr + 1
      log_right = log_half (length cr + 1) (omega arith)

      apart : length cs ≡ length cl + length cr → gap l.black r.black ≤ length cs
      apart count = omega (
        arith,
        count,
        left.high,
        left.low,
        right.high,
        right.low,
        log_left,
        log_right,
        even.level,
        red_or_black n.left.color,
        red_or_black n.right.color,
      )

      over : length cs ≡ length cl + (1 + length cr) → 2 * max l.black r.black + 1 ≤ rank (shape_of n) + 2 * floor_log2 (length cs)
      over count =
          let few_left = log_grows (length cl + 1) (length cs) (omega arith) (omega (arith, count)) in
          let few_right = log_grows (length cr + 1) (length cs) (omega arith) (omega (arith, count)) in
          omega (arith, left.low, right.low, few_left, few_right, rank_left n even, rank_right n even)

      -- what is spent at the node, where cs were cut in a tree of that rank
      module _ (s q : ℕ) (low : s ≤ 4 * q) (rank_low : q ≤ most_levels (length cs)) (many : 2 ≤ length cs) where
        log_all : 2 * floor_log2 (length cs + 1) ≤ length cs + 1
        log_all = log_half (length cs + 1) (omega arith)

        pub spent_linked : (d dl dr : ℕ) → dl + 1 ≤ d → dr + 1 ≤ d → {a b x e g : Steps} → IsWithin (length cs) s a b
            → IsWithin (length cl * dl) (length cl * (9 * rank n.left + 3)) b x → IsWithin (length cr * dr) (length cr * (9 * rank n.right + 3)) x e
            → (c ≡ None → g.made ≤ e.made + (2 * gap l.black r.black + 2)) → IsWithin 0 (10 * max l.black r.black + 3) e g
            → IsWithin (length cs * d) (length cs * (9 * rank (shape_of n) + 3)) a g
        spent_linked d dl dr deep deep' {a = a} {g = g} split on_left on_right made link = go c refl
          where
            go : (m : Option (K × V)) → c ≡ m → IsWithin (length cs * d) (length cs * (9 * rank (shape_of n) + 3)) a g
            go None is =
                let whole : length cs ≡ length cl + (0 + length cr) = parts_length ∙ ap (λ m. length cl + (length (items_of m) + length cr)) is in
                let count : length cs ≡ length cl + length cr = omega (arith, whole) in
                grown_apart (length cs) (length cl) 0 (length cr) whole d dl dr deep deep' (rank (shape_of n)) (rank n.left) (rank n.right)
                (rank_left n even) (rank_right n even) some s (few_split (length cs) s q low rank_low many) split on_left on_right
                (2 * gap l.black r.black + 2) (omega (arith, low, rank_low, many, log_all, apart count)) (within_made_most link (made is))
            go (Some p) is =
                let count : length cs ≡ length cl + (1 + length cr) = parts_length ∙ ap (λ m. length cl + (length (items_of m) + length cr)) is in
                let half : 2 * floor_log2 (length cs) ≤ length cs = log_half (length cs) some in
                grown_over (length cs) (length cl) 1 (length cr) count d dl dr deep deep' (rank (shape_of n)) (rank n.left) (rank n.right)
                (rank_left n even) (rank_right n even) some s (few_split (length cs) s q low rank_low many) split on_left on_right
                (10 * max l.black r.black + 3) refl (omega (
                  arith,
                  low,
                  rank_low,
                  both_logs (length cs) (floor_log2 (length cs + 1))
                      (floor_log2 (length cs)) log_all half,
                  over count,
                  rank_left n even,
                )) link

    -- the same of a result
    pub whole_result : (l r : Shape K V) → IsCombination R kept n.left cl l → IsCombination R kept n.right cr r
        → {E : Type 0} (result : Result (Option (Shape K V)) E) → IfOk result (λ m. IsLinked (pick kept (Some (pair_of n.entry.value)) c)
        (rank (shape_of n)) l r (or_same (shape_of n) m)) → IfOk result (λ m. IsCombination R kept (shape_of n) cs (or_same (shape_of n) m))
    whole_result l r left right (Err x) linked = tt
    whole_result l r left right (Ok m) linked = whole l r (or_same (shape_of n) m) left right linked

    -- the same after a call
    pub whole_on : (l r t : Shape K V) → IsCombination R kept n.left cl l → IsCombination R kept n.right cr r → (middle : Option (K × V))
        → middle ≡ pick kept (Some (pair_of n.entry.value)) c → {E : Type 0} (result : Result (Unit {0}) E)
        → OnOk result (IsLinked middle (rank (shape_of n)) l r t) → OnOk result (IsCombination R kept (shape_of n) cs t)
    whole_on l r t left right middle is (Err x) linked = tt
    whole_on l r t left right middle is (Ok u) linked = whole l r t left right (rw (← is) linked)

-- what was made where p pairs were cut: few nodes for the rank of a tree of them
pub record IsFew (p made : ℕ) : Type 0 where
  pub high : ℕ
  pub few : made ≤ 4 * high
  pub low : high ≤ most_levels p

pub none_made : (p : ℕ) → IsFew p 0
none_made p = record { high = 0; few = omega arith; low = omega arith }

pub cut_made : {K V : Type 0} (t : Shape K V) → t.depth ≤ rank t → rank t ≤ most_levels (length t.entries)
    → IsFew (length t.entries) (4 * t.black + 2 * t.depth)
cut_made t deep low = record { high = rank t; few = omega (arith, deep); low = low }

-- a tree s over the sides of n: what is spent on it, where the pairs cs are cut at its key
module _ {K V A : Type 0} (R : K → K → Ordering) (o : IsTotalOrder R) {s : Shape K V} {n : Painted K V A} (f : IsOver s n) (cs : List (K × V))
    (many : 2 ≤ length cs) {made : ℕ} (few : IsFew (length cs) made) {a b : Steps} (split : IsWithin (length cs) made a b) where
  some : 1 ≤ length cs
  some = omega (arith, many)

  few_made : made ≤ 9 * length cs
  few_made = few_split (length cs) made few.high few.few few.low many

  pub spent_cut : IsWithin (length cs * s.depth) (length cs * (9 * rank s + 3)) a b
  spent_cut = grown_split (length cs) (length cs) 0 0 (omega arith) s.depth n.left.depth n.right.depth f.deep_left f.deep_right (rank s) (rank n.left)
      (rank n.right) f.under_left f.under_right some made few_made split

  module _ {cl cr : List (K × V)} {m : Option (K × V)} (cut : IsCutAt R (pair_of n.entry.value).0 cs cl m cr) {c : Steps}
      (left : IsWithin (length cl * n.left.depth) (length cl * (9 * rank n.left + 3)) b c) where
    pub spent_left : IsWithin (length cs * s.depth) (length cs * (9 * rank s + 3)) a c
    spent_left = grown_left (length cs) (length cl) (length (items_of m)) (length cr) (cut_length R o cut) s.depth n.left.depth n.right.depth f.deep_left
        f.deep_right (rank s) (rank n.left) (rank n.right) f.under_left f.under_right some made few_made split left

    module _ {e : Steps} (right : IsWithin (length cr * n.right.depth) (length cr * (9 * rank n.right + 3)) c e) where
      pub spent_right : IsWithin (length cs * s.depth) (length cs * (9 * rank s + 3)) a e
      spent_right = grown_right (length cs) (length cl) (length (items_of m)) (length cr) (cut_length R o cut) s.depth n.left.depth n.right.depth
          f.deep_left f.deep_right (rank s) (rank n.left) (rank n.right) f.under_left f.under_right some made few_made split left right

      pub spent_link : (kept : Kept) → kept.walked ≡ true → IsAscending R s.entries → (l r : Shape K V) → IsCombination R kept n.left cl l
          → IsCombination R kept n.right cr r → {g : Steps} → (m ≡ None → g.made ≤ e.made + (2 * gap l.black r.black + 2))
          → IsWithin 0 (10 * max l.black r.black + 3) e g → IsWithin (length cs * s.depth) (length cs * (9 * rank s + 3)) a g
      spent_link kept walked up l r of_left of_right apart link = rw (ap (λ (s : Shape K V). rank s) f.same) (spent_linked R o kept n f.even
          (rw f.same at up) cs cl cr m cut walked some l r of_left of_right made few.high few.few few.low many s.depth n.left.depth n.right.depth
          f.deep_left f.deep_right split left right apart link)
