-- A node that grew on its near side.
use Rattle.rpds_red_black.specs.declared.insert.Growth.{Growth}
use Rattle.rpds_red_black.specs.Insertion.{added, added_of, rise_left, rise_right, shade, stays_of, IsGrown}
use Rattle.rpds_red_black.proofs.Words.{◌≡◌, ℕ, ◌+◌, Bool, true, false, Result, Ok, Err, IfOk, OnOk, OnErr, List, length, refl, sym, ap, ◌∙◌, ◌⊎◌, inl, inr, arith}
use Rattle.rpds_red_black.proofs.Words.{Rc, Entry, Replaced, Added, AddedTaller, Color, Red, Black, Side, added_by, IsGrownTo, Node, counted, painted, shape_of}
use Rattle.rpds_red_black.proofs.Words.{pair_of, IsEven, Painted, if◌then◌else◌, map_of, Shape, blackness, MayStandOver, is_right, joined, node_of}
use Rattle.rpds_red_black.proofs.Insertion.{length_left, length_right}
use Rattle.rpds_red_black.proofs.OpenNodes.{stands}
use Rattle.rpds_red_black.proofs.Sides.{black_of, color_of, even_of, far_part, far_under, joined_assoc, joined_of, level_of, near_part, near_under, red_over, shape_joined, under_black}

is_red : (c : Color) → (c ≡ Black → ⊥) → c ≡ Red
is_red c not = grind arith

-- how many black nodes more there are on each path of the near side, and of the far side
abbrev pub near_rise : Bool → Growth → Color → Side → ℕ
near_rise false = rise_left
near_rise true = rise_right

abbrev pub far_rise : Bool → Growth → Color → Side → ℕ
far_rise false = rise_right
far_rise true = rise_left

pub record Rises (r : Bool) (growth : Growth) (c : Color) (lean : Side) (x y : ℕ) : Type 0 where
  pub near : near_rise r growth c lean ≡ x
  pub far : far_rise r growth c lean ≡ y

black_rises : (r : Bool) (lean : Side) → Rises r AddedTaller Black lean 1 1
black_rises r lean = grind arith

-- a red node that leans to the side gets taller there, and one that doesn't on the other
pub red_rises : (side lean : Side) → lean ≡ side → Rises (is_right side) AddedTaller Red lean 1 0
red_rises side lean is = grind arith

pub red_rises_far : (side lean : Side) → (lean ≡ side → ⊥) → Rises (is_right side) AddedTaller Red lean 0 1
red_rises_far side lean not = grind arith

-- a growth that leaves the black nodes on each path
pub record IsLevel (growth : Growth) : Type 0 where
  pub rises : (r : Bool) (c : Color) (lean : Side) → Rises r growth c lean 0 0
  pub under : (c : Color) → shade growth c ≡ c

pub wider : IsLevel Added
wider = record { rises = λ r c lean. elim r as (λ r. Rises r Added c lean 0 0) [ false ↦ record { near = refl; far = refl } | true ↦ record { near = refl; far = refl } ]; under = λ c. refl }

level : (growth : Growth) → (growth ≡ AddedTaller → ⊥) → IsLevel growth
level growth not = grind (arith, not)

-- a node, told with its color
pub still_painted : {K V A E : Type 0} (c : Color) (n m : Node K V A) (grown : Result Growth E) → OnErr grown (m ≡ n) → OnErr grown (painted c m ≡ painted c n)
still_painted c n m grown h = grind arith

-- a count in a link is one
pub is_counted : (n count : ℕ) → count ≡ counted n → counted count ≡ count
is_counted n count is = rw is (omega arith)

-- what is told of a tree with the root n, whose root became m and black
pub record IsInserted {K V E : Type 0} (es : List (K × V)) (old new : Shape K V) (result : Result Bool E) : Type 0 where
  pub pairs : OnOk result (new.entries ≡ es)
  pub count : IfOk result (λ added. length new.entries ≡ length old.entries + (if added then 1 else 0))
  pub black : OnOk result (new.color ≡ Black)
  pub err : OnErr result (map_of new ≡ map_of old)

module _ {K V A : Type 0} where
  -- the count of a tree, whose root n became m
  pub counted_grown : {E : Type 0} (s : Shape K V) (n m : Painted K V A) (es : List (K × V)) (side : Side) (grown : Result Growth E) (count count' : ℕ) → s ≡ shape_of n → count ≡ counted (length s.entries) → (counted count ≡ count → count' ≡ counted (count + added_by grown)) → IfOk grown (λ growth. IsGrownTo es n side growth m) → OnErr grown (m ≡ n) → count' ≡ counted (length (shape_of m).entries)
  counted_grown s n m es side (Ok growth) count count' is was now p h = omega (arith, was, now (is_counted (length s.entries) count was), ap (λ (s : Shape K V). length s.entries) is, p.count)
  counted_grown s n m es side (Err x) count count' is was now p h = rw h (omega (arith, was, now (is_counted (length s.entries) count was), ap (λ (s : Shape K V). length s.entries) is))

  pub inserted : {E : Type 0} (c : Color) (n m : Node K V A) (es : List (K × V)) (side : Side) (old new : Shape K V) (grown : Result Growth E) → old ≡ shape_of (painted c n) → new ≡ shape_of (painted Black m) → IfOk grown (λ growth. IsGrownTo es (painted Black n) side growth (painted Black m)) → OnErr grown (m ≡ n) → IsInserted es old new (added_of grown)
  inserted c n m es side old new (Ok growth) is now p h = rw (is, now) (grind (arith, p))
  inserted c n m es side old new (Err x) is now p h = rw (is, now) record { pairs = tt; count = tt; black = tt; err = ap (λ n. map_of (shape_of (painted Black n))) h }

-- a black node that got taller is even
pub taller_even : {K V A : Type 0} (n m : Painted K V A) {es : List (K × V)} {side : Side} → n.color ≡ Black → IsGrownTo es n side AddedTaller m → IsEven m
taller_even n m was p =
    let left = rw was at p.grown.left in
    let right = rw was at p.grown.right in
    let is = p.grown.stays ∙ was in
    record { level = omega (arith, left, right); left = rw is tt; right = rw is tt }

pub length_joined : {T : Type 0} (r : Bool) (new old far : List T) (e : T) (k : ℕ) → length new ≡ length old + k → length (joined r new e far) ≡ length (joined r old e far) + k
length_joined r new old far e k h = grind (arith, length_left new old e far k, length_right far e new old k)

module _ {K V A : Type 0} where
  near_grown : (r : Bool) (c : Color) (size : ℕ) (lean : Side) (growth : Growth) (m : Painted K V A) → IsGrown c size lean growth m → (near_part r m).black + blackness c ≡ size + near_rise r growth c lean
  near_grown r c size lean growth m g = grind (arith, g)

  far_grown : (r : Bool) (c : Color) (size : ℕ) (lean : Side) (growth : Growth) (m : Painted K V A) → IsGrown c size lean growth m → (far_part r m).black + blackness c ≡ size + far_rise r growth c lean
  far_grown r c size lean growth m g = grind (arith, g)

  near_shade : (r : Bool) (c : Color) (size : ℕ) (lean : Side) (growth : Growth) (m : Painted K V A) → IsGrown c size lean growth m → MayStandOver (shade growth c) (near_part r m)
  near_shade r c size lean growth m g = grind (arith, g)

  -- a node of new parts
  pub grown_to : (r : Bool) (c : Color) (near : Shape K V) (e : Rc (Entry K V) A) (far near' : Shape K V) (e' : Rc (Entry K V) A) (far' : Shape K V) (lean : Side) (growth : Growth) (es : List (K × V)) → near.black ≡ far.black → joined r near'.entries (pair_of e'.value) far'.entries ≡ es → length es ≡ length (joined r near.entries (pair_of e.value) far.entries) + added growth → near'.black ≡ near.black + near_rise r growth c lean → far'.black ≡ far.black + far_rise r growth c lean → MayStandOver (shade growth c) near' → MayStandOver (shade growth c) far' → IsGrownTo es (node_of r c near e far) lean growth (node_of r c near' e' far')
  grown_to r c near e far near' e' far' lean growth es even pairs count left right over_near over_far = grind (arith, pairs, count, left, right, over_near, over_far, ap length pairs)

-- a node that got no taller is even
level_even : {K V A : Type 0} (n m : Painted K V A) {es : List (K × V)} {side : Side} (growth : Growth) → (growth ≡ AddedTaller → ⊥) → IsEven n → IsGrownTo es n side growth m → IsEven m
level_even n m {side = side} growth not under p =
    let l = level growth not in
    let rises = l.rises false n.color side in
    let left = rw (l.under n.color, ← p.grown.stays) at p.grown.over_left in
    let right = rw (l.under n.color, ← p.grown.stays) at p.grown.over_right in
    record { level = omega (arith, p.grown.left, p.grown.right, rises.near, rises.far); left = left; right = right }

-- nor does a black node become uneven
pub black_even : {K V A : Type 0} (n m : Painted K V A) {es : List (K × V)} {side : Side} (growth : Growth) → n.color ≡ Black → IsEven n → IsGrownTo es n side growth m → IsEven m
black_even n m Replaced was under p = level_even n m Replaced (λ e. cc) under p
black_even n m Added was under p = level_even n m Added (λ e. cc) under p
black_even n m AddedTaller was under p = taller_even n m was p

pub black_root_even : {K V A E : Type 0} (n m : Painted K V A) (es : List (K × V)) (side : Side) (grown : Result Growth E) → n.color ≡ Black → IsEven n → IfOk grown (λ growth. IsGrownTo es n side growth m) → OnErr grown (m ≡ n) → IsEven m
black_root_even n m es side (Ok growth) was even p h = black_even n m growth was even p
black_root_even n m es side (Err x) was even p h = rw h even

why : {E P Q : Type 0} (leans : Bool) (c : Color) (grown : Result Growth E) → stays_of grown c leans ≡ false → (leans ≡ false → P → ⊥) → (c ≡ Black → Q → ⊥) → ((c ≡ Black) × (Q → ⊥)) ⊎ ((c ≡ Red) × (P → ⊥))
why leans c grown s apart light = grind (arith, apart, light)

-- m stands in the place of n, on the near side of a node of these parts
module _ {K V A : Type 0} (side lean : Side) (c : Color) (near : Shape K V) (e : Rc (Entry K V) A) (far : Shape K V) (even : IsEven (node_of (is_right side) c near e far)) (n m : Painted K V A) (is : near ≡ shape_of n) where
  flat : near.black ≡ far.black
  flat = level_of (is_right side) c near e far even

  size : near.black ≡ (shape_of n).black
  size = ap (λ (s : Shape K V). s.black) is

  color : near.color ≡ n.color
  color = ap (λ (s : Shape K V). s.color) is

  pub below_red : c ≡ Red → n.color ≡ Black
  below_red red = sym color ∙ red_over c near red (near_under (is_right side) c near e far even)

  longer : {es : List (K × V)} {growth : Growth} → IsGrownTo es n side growth m → length es ≡ length near.entries + added growth
  longer {growth} p = rw is (ap length (sym p.pairs) ∙ p.count)

  count : {es : List (K × V)} {growth : Growth} → IsGrownTo es n side growth m → length (joined (is_right side) es (pair_of e.value) far.entries) ≡ length (joined (is_right side) near.entries (pair_of e.value) far.entries) + added growth
  count {es} {growth} p = length_joined (is_right side) es near.entries far.entries (pair_of e.value) (added growth) (longer p)

  pub level_near : {es : List (K × V)} (growth : Growth) (near' : Shape K V) → near' ≡ shape_of m → (growth ≡ AddedTaller → ⊥) → IsGrownTo es n side growth m → IsGrownTo (joined (is_right side) es (pair_of e.value) far.entries) (node_of (is_right side) c near e far) lean growth (node_of (is_right side) c near' e far)
  level_near {es} growth near' u not p =
      let r = is_right side in
      let l = level growth not in
      let own = (l.rises r c lean) in
      let b = ap blackness p.grown.stays in
      let under = (l.rises false n.color side).near in
      rw u (grown_to r c near e far (shape_of m) e far lean growth (joined r es (pair_of e.value) far.entries) flat (ap (λ t. joined r t (pair_of e.value) far.entries) p.pairs) (count p) (omega (arith, size, b, p.grown.left, under, own.near)) (omega (arith, own.far)) (rw (l.under c) (stands c near (shape_of m) (p.grown.stays ∙ sym color) (near_under r c near e far even))) (rw (l.under c) (far_under r c near e far even)))

  pub recolored_near : {es : List (K × V)} (near' : Shape K V) → near' ≡ shape_of (record m { color = Red }) → c ≡ Black → m.color ≡ Black → IsGrownTo es n side AddedTaller m → IsGrownTo (joined (is_right side) es (pair_of e.value) far.entries) (node_of (is_right side) c near e far) lean Added (node_of (is_right side) c near' e far)
  recolored_near {es} near' u black root p =
      let r = is_right side in
      let own = wider.rises r c lean in
      let was = sym p.grown.stays ∙ root in
      let left = rw was at p.grown.left in
      let b = ap blackness was in
      rw u (grown_to r c near e far (shape_of (record m { color = Red })) e far lean Added (joined r es (pair_of e.value) far.entries) flat (ap (λ t. joined r t (pair_of e.value) far.entries) p.pairs) (count p) (omega (arith, size, b, left, own.near)) (omega (arith, own.far)) (under_black c _ black) (under_black c far black))

  pub leans_near : {es : List (K × V)} (near' : Shape K V) → near' ≡ shape_of m → c ≡ Red → lean ≡ side → IsGrownTo es n side AddedTaller m → IsGrownTo (joined (is_right side) es (pair_of e.value) far.entries) (node_of (is_right side) c near e far) lean AddedTaller (node_of (is_right side) c near' e far)
  leans_near {es} near' u red leans p =
      let r = is_right side in
      let own = rw (← red) at (red_rises side lean leans) in
      let was = below_red red in
      let left = rw was at p.grown.left in
      let b = ap blackness was in
      let h = ap blackness (p.grown.stays ∙ was) in
      rw u (grown_to r c near e far (shape_of m) e far lean AddedTaller (joined r es (pair_of e.value) far.entries) flat (ap (λ t. joined r t (pair_of e.value) far.entries) p.pairs) (count p) (omega (arith, size, b, h, left, own.near)) (omega (arith, own.far)) (p.grown.stays ∙ was) (red_over c far red (far_under r c near e far even)))

  -- the side is not taller, or the node leans to it
  red_stays : (leans : Bool) (d : Color) → stays_of {E = Unit {0}} (Ok AddedTaller) d leans ≡ true → (d ≡ Red) × (leans ≡ true)
  red_stays leans d s = grind arith

  module _ (es : List (K × V)) (leans : Bool) (as_told : leans ≡ true → lean ≡ side) where
    pub even_staying : {E : Type 0} (grown : Result Growth E) → stays_of grown c leans ≡ true → IsEven n → IfOk grown (λ growth. IsGrownTo es n side growth m) → OnErr grown (m ≡ n) → IsEven m
    even_staying (Ok Replaced) s under p h = level_even n m Replaced (λ e. cc) under p
    even_staying (Ok Added) s under p h = level_even n m Added (λ e. cc) under p
    even_staying (Ok AddedTaller) s under p h = taller_even n m (below_red (red_stays leans c s).0) p
    even_staying (Err x) s under p h = rw h under

    pub staying : {E : Type 0} (grown : Result Growth E) (near' : Shape K V) → stays_of grown c leans ≡ true → near' ≡ shape_of m → IfOk grown (λ growth. IsGrownTo es n side growth m) → IfOk grown (λ growth. IsGrownTo (joined (is_right side) es (pair_of e.value) far.entries) (node_of (is_right side) c near e far) lean growth (node_of (is_right side) c near' e far))
    staying (Ok Replaced) near' s u p = level_near Replaced near' u (λ e. cc) p
    staying (Ok Added) near' s u p = level_near Added near' u (λ e. cc) p
    staying (Ok AddedTaller) near' s u p = leans_near near' u (red_stays leans c s).0 (as_told (red_stays leans c s).1) p
    staying (Err x) near' s u p = tt

  pub refused : {E : Type 0} (grown : Result Growth E) (near' : Shape K V) → near' ≡ shape_of m → OnErr grown (m ≡ n) → OnErr grown ((near' ≡ near) × (e ≡ e) × (far ≡ far))
  refused (Ok growth) near' u h = tt
  refused (Err x) near' u h = (u ∙ ap shape_of h ∙ sym is, refl, refl)

  -- else it is taller
  pub taller_of : {E : Type 0} (leans : Bool) (P : Growth → Type 0) (grown : Result Growth E) → stays_of grown c leans ≡ false → IfOk grown P → P AddedTaller
  taller_of leans P grown s p = grind (arith, s)

  pub why_turned : {E : Type 0} (leans : Bool) (grown : Result Growth E) → stays_of grown c leans ≡ false → (leans ≡ false → lean ≡ side → ⊥) → (c ≡ Black → m.color ≡ Black → ⊥) → ((c ≡ Black) × (m.color ≡ Black → ⊥)) ⊎ ((c ≡ Red) × (lean ≡ side → ⊥))
  why_turned leans grown s apart light = why leans c grown s apart light

  -- after the turn, the node is below m
  module _ {es : List (K × V)} (p : IsGrownTo es n side AddedTaller m) where
    record Turns : Type 0 where
      rise : (near_part (is_right side) m).black ≡ near.black + near_rise (is_right side) AddedTaller c lean
      rise_far : (far_part (is_right side) m).black + 1 ≡ far.black + far_rise (is_right side) AddedTaller c lean
      below : (far_part (is_right side) m).black ≡ far.black

    turns : ((c ≡ Black) × (m.color ≡ Black → ⊥)) ⊎ ((c ≡ Red) × (lean ≡ side → ⊥)) → Turns
    turns (inl h) =
        let r = is_right side in
        let was = sym p.grown.stays ∙ is_red m.color h.1 in
        let b = ap blackness was in
        let own = rw (← h.0) at (black_rises r lean) in
        let under = rw (← was) at (red_rises side side refl) in
        let x = near_grown r n.color (shape_of n).black side AddedTaller m p.grown in
        let y = far_grown r n.color (shape_of n).black side AddedTaller m p.grown in
        record { rise = omega (arith, size, b, own.near, under.near, x); rise_far = omega (arith, size, flat, b, own.far, under.far, y); below = omega (arith, size, flat, b, under.far, y) }
    turns (inr h) =
        let r = is_right side in
        let was = below_red h.0 in
        let b = ap blackness was in
        let own = rw (← h.0) at (red_rises_far side lean h.1) in
        let under = rw (← was) at (black_rises r side) in
        let x = near_grown r n.color (shape_of n).black side AddedTaller m p.grown in
        let y = far_grown r n.color (shape_of n).black side AddedTaller m p.grown in
        record { rise = omega (arith, size, b, own.near, under.near, x); rise_far = omega (arith, size, flat, b, own.far, under.far, y); below = omega (arith, size, flat, b, under.far, y) }

    module _ (why : ((c ≡ Black) × (m.color ≡ Black → ⊥)) ⊎ ((c ≡ Red) × (lean ≡ side → ⊥))) where
      pub turned_even : IsEven (node_of (is_right side) Black (far_part (is_right side) m) e far)
      turned_even = even_of (is_right side) Black (far_part (is_right side) m) e far (turns why).below tt tt

      pub turned_near : (near' far' : Shape K V) (e' : Rc (Entry K V) A) → near' ≡ near_part (is_right side) m → e' ≡ m.entry → far' ≡ shape_of (node_of (is_right side) Black (far_part (is_right side) m) e far) → IsGrownTo (joined (is_right side) es (pair_of e.value) far.entries) (node_of (is_right side) c near e far) lean AddedTaller (node_of (is_right side) c near' e' far')
      turned_near near' far' e' u w v =
          let r = is_right side in
          let t = turns why in
          let black = black_of r Black (far_part r m) e far t.below in
          let pairs = ap (λ x. joined r (near_part r m).entries (pair_of m.entry.value) x) (joined_of r Black (far_part r m) e far) ∙ sym (joined_assoc r (near_part r m).entries (far_part r m).entries far.entries (pair_of m.entry.value) (pair_of e.value)) ∙ ap (λ x. joined r x (pair_of e.value) far.entries) (sym (shape_joined r m) ∙ p.pairs) in
          rw (u, w, v) (grown_to r c near e far (near_part r m) m.entry (shape_of (node_of r Black (far_part r m) e far)) lean AddedTaller (joined r es (pair_of e.value) far.entries) flat pairs (count p) t.rise (omega (arith, black, t.rise_far)) (near_shade r n.color (shape_of n).black side AddedTaller m p.grown) (color_of r Black (far_part r m) e far))
