-- What callers need of `rank` and `rank_member`.
use Rattle.std.specs.Prelude.{find as first}
use Rattle.rpds_red_black.specs.Positions.{rank}
use Rattle.std.specs.Prelude.{IsTrue}
use Rattle.rpds_tree.specs.OrderedSet.{members_within}
use Rattle.rpds_tree.proofs.Words.{◌≡◌, ℕ, zero, suc, ◌+◌, Bool, true, false, cond, ◌&&◌, Some, None, List, [], ◌∷◌, length, slice_get, refl, sym, ap, ◌∙◌, true≢false, arith}
use Rattle.rpds_tree.proofs.Words.{AllByRecursion, filter, IsStrictlySortedBy, Ordering, Less, Equal, Greater, is_eq, is_le, is_lt, ordering_reverse, IsTotalOrder}
use Rattle.rpds_tree.proofs.Words.{IsAscending, Included, Excluded, Unbounded, alike_right, find, find_member, rank_member, tied_itself, within}
use Rattle.rpds_red_black.proofs.Take.{some_same}

-- items that ascend by a key of each
module _ {E K : Type 0} (f : E → K) {R : K → K → Ordering} (o : IsTotalOrder R) where
  abbrev Below : K → List E → Type 0
  Below k es = AllByRecursion (λ e. R k (f e) ≡ Less) es

  abbrev pub Rising : List E → Type 0
  Rising [] = Unit {0}
  Rising (e ∷ es) = Below (f e) es × Rising es

  abbrev ranked : K → List E → ℕ
  ranked k es = length (filter (λ e. is_lt (R (f e) k)) es)

  -- a key that is equal to j, which is below all, or is below j, has rank 0
  none_below : (j k : K) (es : List E) → is_lt (R j k) ≡ false → Below j es → ranked k es ≡ 0
  none_below j k [] at h = refl
  none_below j k (e ∷ es) at h =
      elim (R (f e) k) as (λ c. R (f e) k ≡ c → ranked k (e ∷ es) ≡ 0) [
        | Less ↦ λ g. absurd (true≢false (sym (ap is_lt (o.trans j (f e) k h.0 g)) ∙ at))
        | Equal ↦ λ g. rw g (none_below j k es at h.1)
        | Greater ↦ λ g. rw g (none_below j k es at h.1)
      ] refl

  -- nor is it found
  not_found : (j k : K) (es : List E) → R k j ≡ Less → Below j es → first (λ e. is_eq (R k (f e))) es ≡ None
  not_found j k [] less h = refl
  not_found j k (e ∷ es) less h = rw (o.trans k j (f e) less h.0) (not_found j k es less h.1)

  turned : (j k : K) (c : Ordering) → R j k ≡ c → R k j ≡ ordering_reverse c
  turned j k c is = o.antisymm k j ∙ ap ordering_reverse is

  pub at_rank : (k : K) (es : List E) (p : E) → Rising es → first (λ e. is_eq (R k (f e))) es ≡ Some p → slice_get es (ranked k es) ≡ Some p
  at_rank k [] p up is = absurd (cc is)
  at_rank k (e ∷ es) p up is =
      elim (R k (f e)) as (λ c. R k (f e) ≡ c → slice_get (e ∷ es) (ranked k (e ∷ es)) ≡ Some p) [
        | Less ↦ λ g. (let none : None ≡ Some p = sym (not_found (f e) k es g up.0) ∙ rw g at is in absurd (cc none))
        | Equal ↦ λ g. (let here : Some e ≡ Some p = rw g at is in let back = turned k (f e) Equal g in
            rw (back, none_below (f e) k es (ap is_lt back) up.0) here)
        | Greater ↦ λ g. (let rest = rw g at is in rw (turned k (f e) Greater g) (at_rank k es p up.1 rest))
      ] refl

  below_at : (j : K) (es : List E) (i : ℕ) (p : E) → Below j es → slice_get es i ≡ Some p → R j (f p) ≡ Less
  below_at j [] i p h is = absurd (cc is)
  below_at j (e ∷ es) zero p h is = ap (λ e. R j (f e)) (sym (some_same e p is)) ∙ h.0
  below_at j (e ∷ es) (suc i) p h is = below_at j es i p h.1 is

  pub rank_at : (es : List E) (i : ℕ) (p : E) → Rising es → slice_get es i ≡ Some p → ranked (f p) es ≡ i
  rank_at [] i p up is = absurd (cc is)
  rank_at (e ∷ es) zero p up is =
      let same = some_same e p is in
      let tied = ap (λ e. R (f e) (f p)) same ∙ tied_itself o (f p) in
      rw (tied, none_below (f e) (f p) es (ap is_lt tied) up.0) refl
  rank_at (e ∷ es) (suc i) p up is = rw (below_at (f e) es i p up.0 is) (ap suc (rank_at es i p up.1 is))

  -- those below a key, and those from it on
  pub ranked_from : (k : K) (es : List E) → ranked k es + length (filter (λ e. is_le (R k (f e)) && true) es) ≡ length es
  ranked_from k [] = refl
  ranked_from k (e ∷ es) =
      let rest = ranked_from k es in
      elim (R (f e) k) as (λ c. R (f e) k ≡ c → ranked k (e ∷ es) + length (filter (λ e. is_le (R k (f e)) && true) (e ∷ es)) ≡ length (e ∷ es)) [
        | Less ↦ λ g. rw (g, turned (f e) k Less g) (omega (arith, rest))
        | Equal ↦ λ g. rw (g, turned (f e) k Equal g) (omega (arith, rest))
        | Greater ↦ λ g. rw (g, turned (f e) k Greater g) (omega (arith, rest))
      ] refl

  -- those below a key, and those from it on below another one
  less_through : (x j k : K) → IsTrue (is_le (R j k)) → R x j ≡ Less → R x k ≡ Less
  less_through x j k le less = elim (R j k) as (λ c. R j k ≡ c → IsTrue (is_le c) → R x k ≡ Less) [
    | Less ↦ λ g t. o.trans x j k less g
    | Equal ↦ λ g t. sym (alike_right o j k x g) ∙ less
    | Greater ↦ λ g t. absurd (true≢false (sym t))
  ] refl le

  one_more : (b : Bool) (n : ℕ) (e : E) (xs ys : List E) → n + length xs ≡ length ys → n + length (cond b (e ∷ xs) xs) ≡ length (cond b (e ∷ ys) ys)
  one_more true n e xs ys is = omega (arith, is)
  one_more false n e xs ys is = is

  pub ranked_between : (j k : K) (es : List E) → IsTrue (is_le (R j k)) → ranked j es + length (filter (λ e. is_le (R j (f e)) && is_lt (R (f e) k)) es) ≡ ranked k es
  ranked_between j k [] le = refl
  ranked_between j k (e ∷ es) le =
      let rest = ranked_between j k es le in
      let more = one_more (is_lt (R (f e) k)) (ranked j es) e (filter (λ e. is_le (R j (f e)) && is_lt (R (f e) k)) es) (filter (λ e. is_lt (R (f e) k)) es) rest in
      elim (R (f e) j) as (λ c. R (f e) j ≡ c → ranked j (e ∷ es) + length (filter (λ e. is_le (R j (f e)) && is_lt (R (f e) k)) (e ∷ es)) ≡ ranked k (e ∷ es)) [
        | Less ↦ λ g. rw (g, turned (f e) j Less g, less_through (f e) j k le g) (omega (arith, rest))
        | Equal ↦ λ g. rw (g, turned (f e) j Equal g) more
        | Greater ↦ λ g. rw (g, turned (f e) j Greater g) more
      ] refl

module _ {K V : Type 0} {R : K → K → Ordering} (o : IsTotalOrder R) where
  rising : (es : List (K × V)) → IsAscending R es → Rising (λ (e : K × V). e.0) o es
  rising [] up = tt
  rising (e ∷ es) up = (up.0, rising es up.1)

  pub pair_at_rank : (k : K) (es : List (K × V)) (p : K × V) → IsAscending R es → find R k es ≡ Some p → slice_get es (rank R k es) ≡ Some p
  pair_at_rank k es p up is = at_rank (λ (e : K × V). e.0) o k es p (rising es up) is

  pub rank_of_pair : (es : List (K × V)) (i : ℕ) (p : K × V) → IsAscending R es → slice_get es i ≡ Some p → rank R p.0 es ≡ i
  rank_of_pair es i p up is = rank_at (λ (e : K × V). e.0) o es i p (rising es up) is

  pub pairs_from : (k : K) (es : List (K × V)) → rank R k es + length (within R (Included k) Unbounded es) ≡ length es
  pairs_from k es = ranked_from (λ (e : K × V). e.0) o k es

  pub pairs_between : (j k : K) (es : List (K × V)) → IsTrue (is_le (R j k)) → rank R j es + length (within R (Included j) (Excluded k) es) ≡ rank R k es
  pairs_between j k es le = ranked_between (λ (e : K × V). e.0) o j k es le

module _ {T : Type 0} {R : T → T → Ordering} (o : IsTotalOrder R) where
  rising_members : (ms : List T) → IsStrictlySortedBy R ms → Rising (λ (m : T). m) o ms
  unfolding IsStrictlySortedBy
  rising_members [] up = tt
  rising_members (m ∷ ms) up = (up.0, rising_members ms up.1)

  pub member_at_rank : (x : T) (ms : List T) (m : T) → IsStrictlySortedBy R ms → find_member R x ms ≡ Some m → slice_get ms (rank_member R x ms) ≡ Some m
  member_at_rank x ms m up is = at_rank (λ (m : T). m) o x ms m (rising_members ms up) is

  pub rank_of_member : (ms : List T) (i : ℕ) (m : T) → IsStrictlySortedBy R ms → slice_get ms i ≡ Some m → rank_member R m ms ≡ i
  rank_of_member ms i m up is = rank_at (λ (m : T). m) o ms i m (rising_members ms up) is

  pub members_from : (x : T) (ms : List T) → rank_member R x ms + length (members_within R (Included x) Unbounded ms) ≡ length ms
  members_from x ms = ranked_from (λ (m : T). m) o x ms

  pub members_between : (x y : T) (ms : List T) → IsTrue (is_le (R x y)) → rank_member R x ms + length (members_within R (Included x) (Excluded y) ms) ≡ rank_member R y ms
  members_between x y ms le = ranked_between (λ (m : T). m) o x y ms le
