-- What callers need of `floor` and `ceiling`, and of those of sets.
use Rattle.rpds_red_black.specs.Neighbors.{IsCeiling, IsFloor, ceiling, floor}
use Rattle.rpds_red_black.specs.Pairs.{find as find_pair}
use Rattle.rpds_tree.specs.NearMembers.{IsCeilingMember, IsFloorMember}
use Rattle.rpds_tree.specs.OrderedSet.{ceiling_member, floor_member}
use Rattle.std.specs.Prelude.{IsTrue}
use Rattle.rpds_tree.proofs.Words.{◌≡◌, Option, Some, None, List, refl, sym, ap, ◌∙◌, true≢false, tied_itself, option_map, Ordering, Less, Equal, Greater}
use Rattle.rpds_tree.proofs.Words.{Included, Unbounded, IsTotalOrder, IsStrictlySortedBy, is_le, IsAscending, find, find_member, within}
use Rattle.rpds_red_black.proofs.Nearest.{first_before, last_behind, no_first, no_last}
use Rattle.rpds_red_black.proofs.Pairs.{find_same}
use Rattle.rpds_red_black.proofs.Take.{some_same}
use Rattle.rpds_tree.proofs.MapLaws.{ceiling_of, floor_of, no_ceiling, no_floor}
use Rattle.rpds_tree.proofs.MemberLaws.{ascending_units, found, keys, units}
use Rattle.rpds_tree.proofs.Members.{member_above, member_below}

module _ {K : Type 0} {R : K → K → Ordering} (o : IsTotalOrder R) where
  at_itself : (k : K) → IsTrue (is_le (R k k))
  at_itself k = ap is_le (tied_itself o k)

module _ {K V : Type 0} {R : K → K → Ordering} (o : IsTotalOrder R) where
  pub floor_is_near : (k : K) (es : List (K × V)) (p : K × V) → IsAscending R es → floor R k es ≡ Some p → IsFloor R k es p
  floor_is_near k es p up is =
      let rest = last_behind (within R Unbounded (Included k) es) p is in floor_of o k es rest.0 p up rest.1

  pub none_at_or_below : (k : K) (es : List (K × V)) → floor R k es ≡ None → (j : K) → IsTrue (is_le (R j k)) → find R j es ≡ None
  none_at_or_below k es is = no_floor o k es (no_last (within R Unbounded (Included k) es) is)

  pub own_floor : (k : K) (es : List (K × V)) (p : K × V) → IsAscending R es → find R k es ≡ Some p → floor R k es ≡ Some p
  own_floor k es p up there = go (floor R k es) refl
    where
      go : (near : Option (K × V)) → floor R k es ≡ near → near ≡ Some p
      go None is = (let none = none_at_or_below k es is k (at_itself o k) in absurd (cc (there, none)))
      go (Some q) is =
          let near = floor_is_near k es q up is in
          elim (R q.0 k) as (λ c. R q.0 k ≡ c → ◌≡◌ {A = Option (K × V)} (Some q) (Some p)) [
            | Less ↦ λ g. absurd (cc (there, near.last k g (at_itself o k)))
            | Equal ↦ λ g. sym near.there ∙ find_same o q.0 k es g ∙ there
            | Greater ↦ λ g. absurd (true≢false (sym near.within ∙ ap is_le g))
          ] refl

  pub ceiling_is_near : (k : K) (es : List (K × V)) (p : K × V) → IsAscending R es → ceiling R k es ≡ Some p → IsCeiling R k es p
  ceiling_is_near k es p up is =
      let rest = first_before (within R (Included k) Unbounded es) p is in ceiling_of o k es rest.0 p up rest.1

  pub none_at_or_above : (k : K) (es : List (K × V)) → ceiling R k es ≡ None → (j : K) → IsTrue (is_le (R k j)) → find R j es ≡ None
  none_at_or_above k es is = no_ceiling o k es (no_first (within R (Included k) Unbounded es) is)

  pub own_ceiling : (k : K) (es : List (K × V)) (p : K × V) → IsAscending R es → find R k es ≡ Some p → ceiling R k es ≡ Some p
  own_ceiling k es p up there = go (ceiling R k es) refl
    where
      go : (near : Option (K × V)) → ceiling R k es ≡ near → near ≡ Some p
      go None is = (let none = none_at_or_above k es is k (at_itself o k) in absurd (cc (there, none)))
      go (Some q) is =
          let near = ceiling_is_near k es q up is in
          elim (R k q.0) as (λ c. R k q.0 ≡ c → ◌≡◌ {A = Option (K × V)} (Some q) (Some p)) [
            | Less ↦ λ g. absurd (cc (there, near.first k g (at_itself o k)))
            | Equal ↦ λ g. sym near.there ∙ sym (find_same o k q.0 es g) ∙ there
            | Greater ↦ λ g. absurd (true≢false (sym near.within ∙ ap is_le g))
          ] refl

-- members as pairs
module _ {T : Type 0} {R : T → T → Ordering} (o : IsTotalOrder R) where
  abbrev key : T × Unit {0} → T
  key p = p.0

  as_pair : (f : Option (T × Unit {0})) (m : T) → option_map key f ≡ Some m → f ≡ Some (m, tt)
  as_pair None m is = absurd (cc)
  as_pair (Some p) m is = ap (λ (y : T). Some (y, tt)) (some_same p.0 m is)

  no_pair : (f : Option (T × Unit {0})) → option_map key f ≡ None → f ≡ None
  no_pair None is = refl
  no_pair (Some p) is = absurd (cc)

  pair_found : (x : T) (ms : List T) (m : T) → find_member R x ms ≡ Some m → find_pair R x (units ms) ≡ Some (m, tt)
  pair_found x ms m is = as_pair (find_pair R x (units ms)) m (sym (found o x ms) ∙ is)

  floor_of_units : (x : T) (ms : List T) → floor_member R x ms ≡ option_map key (floor R x (units ms))
  floor_of_units x ms = ap (floor_member R x) (sym (keys ms)) ∙ member_below R R x (units ms)

  ceiling_of_units : (x : T) (ms : List T) → ceiling_member R x ms ≡ option_map key (ceiling R x (units ms))
  ceiling_of_units x ms = ap (ceiling_member R x) (sym (keys ms)) ∙ member_above R R x (units ms)

  pub floor_member_is_near : (x : T) (ms : List T) (m : T) → IsStrictlySortedBy R ms → floor_member R x ms ≡ Some m → IsFloorMember R x ms m
  floor_member_is_near x ms m up is =
      let pair = as_pair (floor R x (units ms)) m (sym (floor_of_units x ms) ∙ is) in
      let near = floor_is_near o x (units ms) (m, tt) (ascending_units o ms up) pair in
      record {
        there = found o m ms ∙ ap (option_map key) near.there;
        within = near.within;
        last = λ y above le. found o y ms ∙ ap (option_map key) (near.last y above le);
      }

  pub no_member_at_or_below : (x : T) (ms : List T) → floor_member R x ms ≡ None → (y : T) → IsTrue (is_le (R y x)) → find_member R y ms ≡ None
  no_member_at_or_below x ms is y le =
      let none = no_pair (floor R x (units ms)) (sym (floor_of_units x ms) ∙ is) in
      found o y ms ∙ ap (option_map key) (none_at_or_below o x (units ms) none y le)

  pub own_floor_member : (x : T) (ms : List T) (m : T) → IsStrictlySortedBy R ms → find_member R x ms ≡ Some m → floor_member R x ms ≡ Some m
  own_floor_member x ms m up is =
      floor_of_units x ms ∙ ap (option_map key) (own_floor o x (units ms) (m, tt) (ascending_units o ms up) (pair_found x ms m is))

  pub ceiling_member_is_near : (x : T) (ms : List T) (m : T) → IsStrictlySortedBy R ms → ceiling_member R x ms ≡ Some m → IsCeilingMember R x ms m
  ceiling_member_is_near x ms m up is =
      let pair = as_pair (ceiling R x (units ms)) m (sym (ceiling_of_units x ms) ∙ is) in
      let near = ceiling_is_near o x (units ms) (m, tt) (ascending_units o ms up) pair in
      record {
        there = found o m ms ∙ ap (option_map key) near.there;
        within = near.within;
        first = λ y below le. found o y ms ∙ ap (option_map key) (near.first y below le);
      }

  pub no_member_at_or_above : (x : T) (ms : List T) → ceiling_member R x ms ≡ None → (y : T) → IsTrue (is_le (R x y)) → find_member R y ms ≡ None
  no_member_at_or_above x ms is y le =
      let none = no_pair (ceiling R x (units ms)) (sym (ceiling_of_units x ms) ∙ is) in
      found o y ms ∙ ap (option_map key) (none_at_or_above o x (units ms) none y le)

  pub own_ceiling_member : (x : T) (ms : List T) (m : T) → IsStrictlySortedBy R ms → find_member R x ms ≡ Some m → ceiling_member R x ms ≡ Some m
  own_ceiling_member x ms m up is =
      ceiling_of_units x ms ∙ ap (option_map key) (own_ceiling o x (units ms) (m, tt) (ascending_units o ms up) (pair_found x ms m is))
