-- A tree once a removal in place is done or refused.
use Rattle.rpds_red_black.specs.Seeks.{IsSoughtBy, Looks}
use Rattle.rpds_red_black.specs.Take.{finds, rest, restored_of, taken_by, taken_of, under_of, IsDarkenedFor}
use Rattle.rpds_red_black.specs.declared.seek.Aim.TheVariants as aim
use Rattle.rpds_red_black.proofs.Words.{◌≡◌, ℕ, ◌+◌, Bool, false, true, Some, Result, Ok, Err, IfOk, OnOk, OnErr, MatchResult, is_some, List, [], ◌∷◌, ◌++◌, append-nil, drop, slice_get}
use Rattle.rpds_red_black.proofs.Words.{length, refl, sym, ap, subst, ◌∙◌, arith, false≢true, if◌then◌else◌, Rc, Entry, Loss}
use Rattle.rpds_red_black.proofs.Words.{Absent, Removed, RemovedShorter, Color, Red, Black, Branch, Node, map_of, Shape, leaf, branch}
use Rattle.rpds_red_black.proofs.Words.{blackness, IsSound, faced, node_of, joined, got_shorter, has_taken, loss_under, parts_of, IsDarker, IsTaken, IsTakenFrom}
use Rattle.rpds_red_black.proofs.Words.{IsTakenWithNephew, near_side, far_side, counted, painted, pairs_of, shape_of, pair_of, IsEven, IsWhole, Painted}
use Rattle.rpds_red_black.proofs.Growth.{is_counted}
use Rattle.rpds_red_black.proofs.Insertion.{whole}
use Rattle.rpds_red_black.proofs.OpenNodes.{IsOpened}
use Rattle.rpds_red_black.proofs.Sides.{near_part, far_part, with_near_part, with_far_part, near_of, far_of, entry_of, color_of, even_of, under_black}
use Rattle.rpds_red_black.proofs.Sides.{with_near_same, with_far_same, even_red, sound_near, whole_of}
use Rattle.rpds_red_black.proofs.Take.{absent_red_sibling, same_painted, stripped, kept, lost_under, lower_rotated, near_nephew_lower, nephew_kept}
use Rattle.rpds_red_black.proofs.Take.{nephew_rotated, nephew_rotated_level, next_above, rotated, rotated_level, shorter, taken_not_absent, taken_under}
use Rattle.rpds_red_black.proofs.Take.{sought_finds, sought_rest, with_nephew, with_nephew_even}

-- a node that has the color that was asked for
pub has_color : (b : Bool) (c own : Color) → own ≡ c → own ≡ (if b then c else own)
has_color b c own is = grind arith

module _ {K V A : Type 0} where
  -- a node with the color that was asked for
  pub painted_if : (b : Bool) (c own c' : Color) (n m m' : Node K V A) → c' ≡ (if b then c else own) → m' ≡ (if b then n else m)
      → painted c' m' ≡ (if b then painted c n else painted own m)
  painted_if b c own c' n m m' is same = rw (is, same) (grind arith)

  pub painted_only : (b : Bool) (c own c' : Color) (n : Node K V A) → c' ≡ (if b then c else own) → painted c' n ≡ (if b then painted c n else painted own n)
  painted_only b c own c' n is = rw is (grind arith)

  -- a red root that may have become black
  pub painted_black : (b : Bool) (c : Color) {own : Color} (count : ℕ) (root : Rc (Node K V A) A) {s : Shape K V} → IsOpened s (painted own root.value)
      → s.color ≡ Red → c ≡ (if b then Black else own) → count ≡ counted (length s.entries) → IsSound (record s { black = s.black + 1; color = Black })
      → IsWhole (Branch c count root)
  painted_black false c count root f red is size sound = rw is record {
    even = (f.even, size ∙ ap (λ (s : Shape K V). counted (length s.entries)) f.same);
    sound = subst IsSound f.same f.sound;
  }
  painted_black true c {own = own} count root {s = s} f red is size sound =
      let was : own ≡ Red = sym (ap (λ (s : Shape K V). s.color) f.same) ∙ red in
      let level : s.black ≡ root.value.left.black = omega (arith, ap (λ (s : Shape K V). s.black) f.same, ap blackness was) in
      rw is record {
        even = (record { level = f.even.level; left = tt; right = tt }, size ∙ ap (λ (s : Shape K V). counted (length s.entries)) f.same);
        sound = subst IsSound (ap (λ (t : Shape K V). record t { black = s.black + 1; color = Black }) f.same
            ∙ ap (λ b. record (shape_of (painted own root.value)) { black = b + 1; color = Black }) level) sound;
      }

  -- or red
  pub painted_red : (r b : Bool) (c own : Color) (count : ℕ) (root : Rc (Node K V A) A) (n : Node K V A) → root.value ≡ n → c ≡ (if b then Red else own)
      → IsEven (painted own n) → (near_part r (painted own n)).color ≡ Black → (far_part r (painted own n)).color ≡ Black
      → count ≡ counted (length (pairs_of n)) → IsSound n.left → IsSound n.right → IsWhole (Branch c count root)
  painted_red r false c own count root n v is even beside beyond size left right = rw is (whole own count root n v even size left right)
  painted_red r true c own count root n v is even beside beyond size left right = rw is (whole Red count root n v
      (even_red r (painted own n) even beside beyond) size left right)

  -- the parts of a node, its far side with the root m, which may have been rotated to its near side
  pub record IsTurned (r b : Bool) (c : Color) (near : Shape K V) (e : Rc (Entry K V) A) (m m' : Painted K V A) (near' : Shape K V) (e' : Rc (Entry K V) A)
      (far' : Shape K V) : Type 0 where
    pub root : m' ≡ (if b then node_of r c near e (near_part r m) else m)
    pub above : e' ≡ (if b then m.entry else e)
    pub near_is : near' ≡ (if b then shape_of m' else near)
    pub far_is : far' ≡ (if b then far_part r m else shape_of m')

  module _ (r : Bool) (c : Color) (near : Shape K V) (e : Rc (Entry K V) A) (m : Painted K V A) where
    turned_for : (b : Bool) (m' : Painted K V A) (beside up near' far' : Shape K V) (e' : Rc (Entry K V) A)
        → m' ≡ (if b then node_of r c near e (near_part r m) else m) → e' ≡ (if b then m.entry else e) → beside ≡ (if b then far_part r m else near)
        → up ≡ shape_of m' → far' ≡ (if b then beside else up) → near' ≡ (if b then up else beside) → IsTurned r b c near e m m' near' e' far'
    turned_for false m' beside up near' far' e' is above side u f n = record { root = is; above = above; near_is = n ∙ side; far_is = f ∙ u }
    turned_for true m' beside up near' far' e' is above side u f n = record { root = is; above = above; near_is = n ∙ u; far_is = f ∙ side }

    pub turned : (b asked : Bool) → asked ≡ b → (m' : Painted K V A) (beside up near' far' : Shape K V) (e' : Rc (Entry K V) A)
        → m' ≡ (if asked then node_of r c near e (near_part r m) else m) → e' ≡ (if asked then m.entry else e)
        → beside ≡ (if asked then far_part r m else near) → up ≡ shape_of m' → far' ≡ (if asked then beside else up)
        → near' ≡ (if asked then up else beside) → IsTurned r b c near e m m' near' e' far'
    turned b asked same m' beside up near' far' e' is above side u f n = subst (λ b. IsTurned r b c near e m m' near' e' far') same
        (turned_for asked m' beside up near' far' e' is above side u f n)

  -- a root that may have been rotated, and was counted anew then
  pub turned_whole : (r : Bool) (c : Color) (near : Shape K V) (e : Rc (Entry K V) A) (own : Color) (m : Node K V A) (b : Bool) (c' : Color) (count old : ℕ)
      (root : Rc (Node K V A) A) (m' : Node K V A) → root.value ≡ m' → m' ≡ (if b then faced r near e (near_part r (painted own m)) else m)
      → c' ≡ (if b then c else own) → count ≡ (if b then counted (length (pairs_of m')) else old) → (b ≡ false → old ≡ counted (length (pairs_of m)))
      → (b ≡ true → IsEven (node_of r c near e (near_part r (painted own m)))) → (b ≡ false → IsEven (painted own m)) → IsSound near → IsSound m.left
      → IsSound m.right → IsWhole (Branch c' count root)
  turned_whole r c near e own m false c' count old root m' v is color new size even_turned even sound left right = rw color
      (whole own count root m (v ∙ is) (even refl) (new ∙ size refl) left right)
  turned_whole r c near e own m true c' count old root m' v is color new size even_turned even sound left right = rw color
      (whole_of r root c count near e (near_part r (painted own m)) (v ∙ is) (even_turned refl) (new ∙ ap (λ n. counted (length (pairs_of n))) is) sound
      (sound_near r (painted own m) left right))

-- the far nephew, with the root n
module _ {S K V A : Type 0} (L : Looks S K V) (k : S) (near near1 : Shape K V) {n : Painted K V A} {old : Shape K V} (f : IsOpened old n) where
  darker : (m : Painted K V A) (new : Shape K V) → old.color ≡ Red → m ≡ record n { color = Black } → new ≡ shape_of m → IsDarker old new
  darker m new red p s =
      let now : new ≡ shape_of (record n { color = Black }) = s ∙ ap shape_of p in
      let root : n.color ≡ Red = sym (ap (λ (s : Shape K V). s.color) f.same) ∙ red in
      record {
        pairs = ap (λ (s : Shape K V). s.entries) now ∙ sym (ap (λ (s : Shape K V). s.entries) f.same);
        black = omega (arith, ap (λ (s : Shape K V). s.black) now, ap (λ (s : Shape K V). s.black) f.same, ap blackness root);
        color = ap (λ (s : Shape K V). s.color) now;
      }

  pub darkened : {E : Type 0} (taken : Result Loss E) (m : Painted K V A) (new : Shape K V) → old.color ≡ Red
      → m ≡ (if got_shorter taken then (record n { color = Black }) else n) → new ≡ shape_of m → MatchResult taken (λ loss. IsTaken L k near loss near1)
      (λ _. near1 ≡ near) → MatchResult taken (λ loss. IsTaken L k near loss near1 × IsDarkenedFor loss old new) (λ _. (near1 ≡ near) × (new ≡ old))
  darkened (Ok Absent) m new red p s h = (h, s ∙ ap shape_of p ∙ sym f.same)
  darkened (Ok Removed) m new red p s h = (h, s ∙ ap shape_of p ∙ sym f.same)
  darkened (Ok RemovedShorter) m new red p s h = (h, darker m new red p s)
  darkened (Err x) m new red p s h = (h, s ∙ ap shape_of p ∙ sym f.same)

-- the near nephew, with the root m
module _ {S K V A : Type 0} (r : Bool) (L : Looks S K V) (k : S) (near : Shape K V) (e : Rc (Entry K V) A) {near_nephew : Shape K V} {m : Painted K V A}
    (f : IsOpened near_nephew m) (red : near_nephew.color ≡ Red) (lower : near.black ≡ near_nephew.black + 1) where
  pub nephew_level : {E : Type 0} (taken : Result Loss E) (near' : Shape K V) → MatchResult taken (λ loss. IsTaken L k near loss near') (λ _. near' ≡ near)
      → got_shorter taken ≡ true → near'.black ≡ (near_part r m).black
  nephew_level (Ok Absent) near' p h = absurd (false≢true h)
  nephew_level (Ok Removed) near' p h = absurd (false≢true h)
  nephew_level (Ok RemovedShorter) near' p h = nephew_rotated_level r L k near e near_nephew m f.same f.even red lower near' p
  nephew_level (Err x) near' p h = absurd (false≢true h)

  module _ (near1 : Shape K V) (m' : Painted K V A) (near' : Shape K V) (e' : Rc (Entry K V) A) (near_nephew' : Shape K V) where
    pub nephew_settled : {E : Type 0} (taken : Result Loss E) → MatchResult taken (λ loss. IsTaken L k near loss near1) (λ _. near1 ≡ near)
        → IsTurned r (got_shorter taken) Black near1 e m m' near' e' near_nephew' → MatchResult (restored_of taken)
        (λ loss. IsTakenWithNephew r L k (parts_of near e near_nephew) loss (parts_of near' e' near_nephew'))
        (λ _. (near' ≡ near) × (e' ≡ e) × (near_nephew' ≡ near_nephew))
    nephew_settled (Ok Absent) p t = rw (t.near_is, t.above, t.far_is ∙ ap shape_of t.root ∙ sym f.same)
        (nephew_kept r L k near e near_nephew Absent near1 refl p)
    nephew_settled (Ok Removed) p t = rw (t.near_is, t.above, t.far_is ∙ ap shape_of t.root ∙ sym f.same)
        (nephew_kept r L k near e near_nephew Removed near1 refl p)
    nephew_settled (Ok RemovedShorter) p t = nephew_rotated r L k near e near_nephew m f.same f.even red lower near1 near' near_nephew' e'
        (t.near_is ∙ ap shape_of t.root) t.above t.far_is p
    nephew_settled (Err x) p t = (t.near_is ∙ p, t.above, t.far_is ∙ ap shape_of t.root ∙ sym f.same)

-- a node whose far side is black, with the root n
module _ {S K V A : Type 0} (r : Bool) (L : Looks S K V) (k : S) (c : Color) (near : Shape K V) (e : Rc (Entry K V) A) {far : Shape K V}
    (even : IsEven (node_of r c near e far)) {n : Painted K V A} (f : IsOpened far n) (far_black : far.color ≡ Black) where
  black : n.color ≡ Black
  black = sym (ap (λ (s : Shape K V). s.color) f.same) ∙ far_black

  abbrev Rest : Loss → Painted K V A → Type 0
  Rest loss new = IsTakenFrom (joined r (rest L k near.entries) (pair_of e.value) far.entries) (finds L k near.entries) (node_of r c near e far)
      loss new

  pub nephew_lower : near.black ≡ (near_part r n).black + 1
  nephew_lower = near_nephew_lower r L k c near e far even n f.same f.even black

  -- its far nephew was red
  module _ (near1 far_nephew : Shape K V) where
    far_same : far_nephew ≡ far_part r n → shape_of (with_far_part r n far_nephew) ≡ far
    far_same same = ap shape_of (with_far_same r n far_nephew same) ∙ sym f.same

    abbrev FarTaken : {E : Type 0} → Result Loss E → Type 0
    FarTaken taken = MatchResult taken (λ loss. IsTaken L k near loss near1 × IsDarkenedFor loss (far_part r n) far_nephew)
        (λ _. (near1 ≡ near) × (far_nephew ≡ far_part r n))

    pub far_whole : {E : Type 0} (taken : Result Loss E) (count old : ℕ) (root : Rc (Node K V A) A) (m' : Node K V A) → root.value ≡ m'
        → m' ≡ (if got_shorter taken then faced r near1 e (near_part r (with_far_part r n far_nephew)) else stripped (with_far_part r n far_nephew))
        → count ≡ (if got_shorter taken then counted (length (pairs_of m')) else old) → old ≡ counted (length far.entries) → FarTaken taken → IsSound near1
        → IsSound n.left → IsSound n.right → IsWhole (Branch n.color count root)
    far_whole (Ok Absent) count old root m' v q new size p sound left right = whole n.color count root (stripped n)
        (v ∙ q ∙ ap stripped (with_far_same r n far_nephew p.1)) f.even (new ∙ size ∙ ap (λ (s : Shape K V). counted (length s.entries)) f.same) left right
    far_whole (Ok Removed) count old root m' v q new size p sound left right = whole n.color count root (stripped n)
        (v ∙ q ∙ ap stripped (with_far_same r n far_nephew p.1)) f.even (new ∙ size ∙ ap (λ (s : Shape K V). counted (length s.entries)) f.same) left right
    far_whole (Ok RemovedShorter) count old root m' v q new size p sound left right =
        let lower = q ∙ ap (λ s. faced r near1 e s) (near_of r n.color (near_part r n) n.entry far_nephew) in
        let even = even_of r n.color near1 e (near_part r n) (rotated_level r L k c near e far even n f.same f.even black near1 p.0)
        (under_black n.color near1 black) (under_black n.color (near_part r n) black) in
        whole_of r root n.color count near1 e (near_part r n) (v ∙ lower) even (new ∙ ap (λ n. counted (length (pairs_of n))) lower) sound
        (sound_near r n left right)
    far_whole (Err x) count old root m' v q new size p sound left right = whole n.color count root (stripped n)
        (v ∙ q ∙ ap stripped (with_far_same r n far_nephew p.1)) f.even (new ∙ size ∙ ap (λ (s : Shape K V). counted (length s.entries)) f.same) left right

    module _ (m' : Painted K V A) (near' : Shape K V) (e' : Rc (Entry K V) A) (far' : Shape K V) where
      pub far_settled : {E : Type 0} (taken : Result Loss E) → FarTaken taken → IsTurned r (got_shorter taken) Black near1 e (with_far_part r n far_nephew)
          m' near' e' far' → MatchResult (restored_of taken) (λ loss. Rest loss (node_of r c near' e' far'))
          (λ _. (near' ≡ near) × (e' ≡ e) × (far' ≡ far) × (c ≡ c))
      far_settled (Ok Absent) p t = rw (t.near_is, t.above) (kept r L k c near e far even Absent near1 far' (t.far_is ∙ ap shape_of t.root ∙ far_same p.1)
          refl p.0)
      far_settled (Ok Removed) p t = rw (t.near_is, t.above) (kept r L k c near e far even Removed near1 far' (t.far_is ∙ ap shape_of t.root ∙ far_same p.1)
          refl p.0)
      far_settled (Ok RemovedShorter) p t =
          let up = t.near_is ∙ ap shape_of (t.root ∙ ap (λ s. node_of r Black near1 e s) (near_of r n.color (near_part r n) n.entry far_nephew)) in
          let dark = p.1 in
          rotated r L k c near e far even n f.same f.even black near1 near' far' e' up (t.above ∙ entry_of r n.color (near_part r n) n.entry far_nephew)
          (rw (t.far_is ∙ far_of r n.color (near_part r n) n.entry far_nephew) dark) p.0
      far_settled (Err x) p t = (t.near_is ∙ p.0, t.above, t.far_is ∙ ap shape_of t.root ∙ far_same p.1, refl)

  -- its near nephew was red
  module _ (near' : Shape K V) (e' : Rc (Entry K V) A) (near_nephew : Shape K V) where
    near_same : near_nephew ≡ near_part r n → shape_of (with_near_part r n near_nephew) ≡ far
    near_same same = ap shape_of (with_near_same r n near_nephew same) ∙ sym f.same

    abbrev NephewTaken : {E : Type 0} → Result Loss E → Type 0
    NephewTaken taken = MatchResult taken (λ loss. IsTakenWithNephew r L k (parts_of near e (near_part r n)) loss (parts_of near' e' near_nephew))
        (λ _. (near' ≡ near) × (e' ≡ e) × (near_nephew ≡ near_part r n))

    pub near_settled : {E : Type 0} (taken : Result Loss E) (far' : Shape K V) → NephewTaken taken → far' ≡ shape_of (with_near_part r n near_nephew)
        → MatchResult taken (λ loss. Rest loss (node_of r c near' e' far')) (λ _. (near' ≡ near) × (e' ≡ e) × (far' ≡ far) × (c ≡ c))
    near_settled (Ok loss) far' a q = with_nephew r L k c near e far even n f.same f.even black loss near' near_nephew e' a far' q
    near_settled (Err x) far' a q = (a.0, a.1, q ∙ near_same a.2, refl)

    pub near_even : {E : Type 0} (taken : Result Loss E) → NephewTaken taken → IsEven (with_near_part r n near_nephew)
    near_even (Ok loss) a = with_nephew_even r L k c near e far even n f.same f.even black loss near' near_nephew e' a
    near_even (Err x) a = rw (with_near_same r n near_nephew a.2) f.even

  -- neither was
  module _ (near' : Shape K V) (m' : Painted K V A) (c' : Color) (far' : Shape K V) where
    pub plain_settled : {E : Type 0} (taken : Result Loss E) → MatchResult taken (λ loss. IsTaken L k near loss near') (λ _. near' ≡ near)
        → m' ≡ (if got_shorter taken then (record n { color = Red }) else n) → c' ≡ (if got_shorter taken then Black else c) → far' ≡ shape_of m'
        → MatchResult (under_of c taken) (λ loss. Rest loss (node_of r c' near' e far')) (λ _. (near' ≡ near) × (e ≡ e) × (far' ≡ far) × (c' ≡ c))
    plain_settled (Ok Absent) p q d s = rw d (kept r L k c near e far even Absent near' far' (s ∙ ap shape_of q ∙ sym f.same) refl p)
    plain_settled (Ok Removed) p q d s = rw d (kept r L k c near e far even Removed near' far' (s ∙ ap shape_of q ∙ sym f.same) refl p)
    plain_settled (Ok RemovedShorter) p q d s = shorter r L k c near e far even n f.same f.even black (loss_under c) c' near' far' refl d (s ∙ ap shape_of q) p
    plain_settled (Err x) p q d s = (p, refl, s ∙ ap shape_of q ∙ sym f.same, d)

-- a node whose far side is red, with the root n: it was taken to be below it
module _ {S K V A : Type 0} (r : Bool) (L : Looks S K V) (k : S) (near : Shape K V) (e : Rc (Entry K V) A) {far : Shape K V}
    (level : near.black ≡ far.black) {n : Painted K V A} (f : IsOpened far n) where
  abbrev Below : Loss → Painted K V A → Type 0
  Below loss new = IsTakenFrom (joined r (rest L k near.entries) (pair_of e.value) (near_part r n).entries) (finds L k near.entries)
      (node_of r Red near e (near_part r n)) loss new

  module _ (c1 : Color) (near1 : Shape K V) (e1 : Rc (Entry K V) A) (near_nephew : Shape K V) where
    abbrev BelowTaken : {E : Type 0} → Result Loss E → Type 0
    BelowTaken taken = MatchResult taken (λ loss. Below loss (node_of r c1 near1 e1 near_nephew)) (λ _. (near1 ≡ near) × (e1 ≡ e)
        × (near_nephew ≡ near_part r n) × (c1 ≡ Red))

    far_again : near_nephew ≡ near_part r n → shape_of (with_near_part r n near_nephew) ≡ far
    far_again same = ap shape_of (with_near_same r n near_nephew same) ∙ sym f.same

    same_near : node_of r c1 near1 e1 near_nephew ≡ node_of r Red near e (near_part r n) → near1 ≡ near
    same_near same = sym (near_of r c1 near1 e1 near_nephew) ∙ ap (λ n. near_part r n) same ∙ near_of r Red near e (near_part r n)

    same_entry : node_of r c1 near1 e1 near_nephew ≡ node_of r Red near e (near_part r n) → e1 ≡ e
    same_entry same = sym (entry_of r c1 near1 e1 near_nephew) ∙ ap (λ (n : Painted K V A). n.entry) same ∙ entry_of r Red near e (near_part r n)

    same_far : node_of r c1 near1 e1 near_nephew ≡ node_of r Red near e (near_part r n) → near_nephew ≡ near_part r n
    same_far same = sym (far_of r c1 near1 e1 near_nephew) ∙ ap (λ n. far_part r n) same ∙ far_of r Red near e (near_part r n)

    pub below_turned_even : {E : Type 0} (taken : Result Loss E) → BelowTaken taken → has_taken taken ≡ true
        → IsEven (node_of r c1 near1 e1 (near_part r (with_near_part r n near_nephew)))
    below_turned_even (Ok loss) a h = rw (near_of r n.color near_nephew n.entry (far_part r n)) a.even
    below_turned_even (Err x) a h = absurd (false≢true h)

    pub below_again : {E : Type 0} (taken : Result Loss E) → BelowTaken taken → has_taken taken ≡ false → with_near_part r n near_nephew ≡ n
    below_again (Ok Absent) a t = with_near_same r n near_nephew (same_far (a.same refl))
    below_again (Ok Removed) a t = absurd (false≢true (sym t))
    below_again (Ok RemovedShorter) a t = absurd (false≢true (sym t))
    below_again (Err x) a t = with_near_same r n near_nephew a.2

    pub below_even_again : {E : Type 0} (taken : Result Loss E) → BelowTaken taken → has_taken taken ≡ false → IsEven (with_near_part r n near_nephew)
    below_even_again taken a t = rw (below_again taken a t) f.even

    pub below_settled : {E : Type 0} (m' : Painted K V A) (near' : Shape K V) (e' : Rc (Entry K V) A) (far' : Shape K V) (taken : Result Loss E)
        → (finds L k near.entries ≡ false → rest L k near.entries ≡ near.entries) → far.color ≡ Red → near.color ≡ Black → BelowTaken taken → IsTurned r (has_taken taken) c1 near1 e1 (with_near_part r n near_nephew) m' near' e'
        far' → MatchResult taken (λ loss. IsTakenFrom (joined r (rest L k near.entries) (pair_of e.value) far.entries) (finds L k near.entries)
        (node_of r Black near e far) loss (node_of r Black near' e' far')) (λ _. (near' ≡ near) × (e' ≡ e) × (far' ≡ far))
    below_settled m' near' e' far' (Ok Absent) all red black a t =
        let same = a.same refl in
        absent_red_sibling r L k near e far level near' far' e' (t.near_is ∙ same_near same) (t.above ∙ same_entry same)
        (t.far_is ∙ ap shape_of t.root ∙ far_again (same_far same)) (all (sym a.found)) a.found
    below_settled m' near' e' far' (Ok Removed) all red black a t =
        let up = t.near_is ∙ ap shape_of (t.root ∙ ap (λ s. node_of r c1 near1 e1 s) (near_of r n.color near_nephew n.entry (far_part r n))) in
        lower_rotated r L k near e far level n f.same f.even red black c1 near1 near_nephew near' far' e1 e' a up
        (t.above ∙ entry_of r n.color near_nephew n.entry (far_part r n)) (t.far_is ∙ far_of r n.color near_nephew n.entry (far_part r n))
    below_settled m' near' e' far' (Ok RemovedShorter) all red black a t = absurd (omega (arith, a.lowered.red (color_of r Red near e (near_part r n))))
    below_settled m' near' e' far' (Err x) all red black a t = (t.near_is ∙ a.0, t.above ∙ a.1, t.far_is ∙ ap shape_of t.root ∙ far_again a.2)

-- the next pair took the place of a node's own, or that was put back
module _ {K V A : Type 0} (old : Painted K V A) (next own : Rc (Entry K V) A) (c' : Color) (near' far' : Shape K V) (mid e' : Rc (Entry K V) A) where
  pub next_settled : {E : Type 0} (p : K × V) (taken : Result Loss E) → slice_get old.right.entries 0 ≡ Some p → pair_of next.value ≡ p → MatchResult taken (λ loss. IsTakenFrom
      (old.left.entries ++ pair_of next.value ∷ drop 1 old.right.entries) (is_some (slice_get old.right.entries 0)) (record old { entry = next }) loss
      (node_of true c' near' mid far')) (λ _. (near' ≡ old.right) × (mid ≡ next) × (far' ≡ old.left) × (c' ≡ old.color)) → IfOk taken (λ _. e' ≡ mid)
      → OnErr taken (e' ≡ old.entry) → MatchResult taken (λ loss. IsTakenFrom (old.left.entries ++ old.right.entries) true old loss
      (node_of true c' near' e' far')) (λ _. (faced true near' e' far' ≡ stripped old) × (c' ≡ old.color))
  next_settled p (Ok loss) first same t e back = rw e (next_above old (node_of true c' near' mid far') p next loss first same t)
  next_settled p (Err x) first same t e back = (rw (t.0, t.2, back) refl, t.3)

-- a node whose only child, below, took its place
pub child_placed : {K V A : Type 0} (r : Bool) (n : Node K V A) {near : Shape K V} (c0 : Color) (below : Node K V A) → IsOpened near (painted c0 below)
    → near ≡ near_side r n → far_side r n ≡ leaf → (c : Color) → IsEven (painted c n)
    → IsTakenFrom (n.left.entries ++ n.right.entries) true (painted c n) Removed (painted c below)
child_placed false n Red below f is empty c even = grind (arith, f.same, f.even, is, empty, even.level, append-nil n.left.entries)
child_placed true n Red below f is empty c even = grind (arith, f.same, f.even, is, empty, even.level)
child_placed false n Black below f is empty c even = absurd (omega (arith, ap (λ (s : Shape _ _). s.black) f.same, ap (λ (s : Shape _ _). s.black) is, ap (λ (s : Shape _ _). s.black) empty, even.level))
child_placed true n Black below f is empty c even = absurd (omega (arith, ap (λ (s : Shape _ _). s.black) f.same, ap (λ (s : Shape _ _). s.black) is, ap (λ (s : Shape _ _). s.black) empty, even.level))

-- a tree, whose root n is what the removal left of it
module _ {S K V A : Type 0} (L : Looks S K V) (k : S) (n m : Painted K V A) where
  abbrev Left : Loss → Type 0
  Left loss = IsTakenFrom (rest L k (shape_of n).entries) (finds L k (shape_of n).entries) n loss m

  abbrev LeftOf : {E : Type 0} → Result Loss E → Type 0
  LeftOf taken = MatchResult taken Left (λ _. (stripped m ≡ stripped n) × (m.color ≡ n.color))

  pub root_even : {E : Type 0} (taken : Result Loss E) → IsEven n → LeftOf taken → IsEven m
  root_even (Ok loss) even t = t.even
  root_even (Err x) even t = rw (same_painted n m t) even

  -- the count of what is left
  pub root_counted : {E : Type 0} (taken : Result Loss E) (count old : ℕ)
      → (finds L k (shape_of n).entries ≡ true → length (shape_of n).entries ≡ length (rest L k (shape_of n).entries) + 1)
      → (counted old ≡ old → (counted count ≡ count) × (counted (count + taken_by taken) ≡ old)) → old ≡ counted (length (shape_of n).entries)
      → LeftOf taken → count ≡ counted (length (shape_of m).entries)
  root_counted (Ok Absent) count old less now was t = rw (t.same refl) (omega (arith, was, now (is_counted (length (shape_of n).entries) old was)))
  root_counted (Ok Removed) count old less now was t = omega (
    arith,
    was,
    now (is_counted (length (shape_of n).entries) old was),
    less (sym t.found),
    ap length t.pairs,
  )
  root_counted (Ok RemovedShorter) count old less now was t = omega (
    arith,
    was,
    now (is_counted (length (shape_of n).entries) old was),
    less (sym t.found),
    ap length t.pairs,
  )
  root_counted (Err x) count old less now was t = rw (same_painted n m t) (omega (arith, was, now (is_counted (length (shape_of n).entries) old was)))

  pub root_settled : {E : Type 0} (taken : Result Loss E) (old new : Shape K V) → old ≡ shape_of n → new ≡ shape_of m → LeftOf taken
      → MatchResult taken (λ loss. IsTaken L k old loss new) (λ _. new ≡ old)
  root_settled (Ok loss) old new o w t = rw (o, w) record { pairs = t.pairs; found = t.found; same = λ is. ap shape_of (t.same is); lowered = t.lowered }
  root_settled (Err x) old new o w t = w ∙ ap shape_of (same_painted n m t) ∙ sym o

-- a root without sides, whose pair was taken
module _ {S K V A : Type 0} (ready : S → List (K × V) → Type 0) (L : Looks S K V) (k : S) (n : Painted K V A) (old : Shape K V) (is : old ≡ shape_of n)
    (left : n.left ≡ leaf) (right : n.right ≡ leaf) (here : IsSoughtBy ready L k (stripped n) aim.Here) where
  alone : old ≡ branch n.color leaf (pair_of n.entry.value) leaf
  alone = is ∙ ap (λ l. branch n.color l (pair_of n.entry.value) n.right) left ∙ ap (λ r. branch n.color leaf (pair_of n.entry.value) r) right

  pub last_pairs : rest L k old.entries ≡ []
  last_pairs = ap (λ (s : Shape K V). rest L k s.entries) is ∙ sym (sought_rest ready L k (stripped n) aim.Here here)
      ∙ rw (left, right) refl

  pub last_found : finds L k old.entries ≡ true
  last_found = ap (λ (s : Shape K V). finds L k s.entries) is ∙ sym (sought_finds ready L k (stripped n) aim.Here here)

  pub last_settled : (loss : Loss) → loss ≡ loss_under n.color → IsTaken L k old loss leaf
  last_settled loss l =
      let black = ap (λ (s : Shape K V). s.black) alone in
      rw l record {
        pairs = sym last_pairs;
        found = taken_under n.color ∙ sym last_found;
        same = taken_not_absent (loss_under n.color) (taken_under n.color);
        lowered = record {
          black = omega (arith, black, lost_under n.color);
          red = λ h. lost_under n.color ∙ ap blackness (sym (ap (λ (s : Shape K V). s.color) is) ∙ h);
          stays = λ _. refl;
        };
      }

-- what is told of a whole tree, whose black root the removal left as m
pub record IsTold {S K V E : Type 0} (L : Looks S K V) (k : S) (old new : Shape K V) (result : Result Bool E) : Type 0 where
  pub pairs : OnOk result (new.entries ≡ rest L k old.entries)
  pub found : IfOk result (λ there. there ≡ finds L k old.entries)
  pub absent : result ≡ Ok false → map_of new ≡ map_of old
  pub black : OnOk result (new.color ≡ Black)
  pub err : OnErr result (map_of new ≡ map_of old)

module _ {S K V A : Type 0} (L : Looks S K V) (k : S) (n m : Painted K V A) (old new : Shape K V) (is : old ≡ shape_of n) (now : new ≡ shape_of m) where
  pub told : {E : Type 0} (taken : Result Loss E) → MatchResult taken (λ loss. IsTakenFrom (rest L k (shape_of n).entries)
      (finds L k (shape_of n).entries) (record n { color = Black }) loss m) (λ _. (stripped m ≡ stripped n) × (m.color ≡ Black))
      → IsTold L k old new (taken_of taken)
  told (Ok Absent) t = rw (is, now) record {
    pairs = t.pairs;
    found = t.found;
    absent = λ _. ap (λ n. map_of (shape_of n)) (t.same refl);
    black = t.lowered.stays refl;
    err = tt;
  }
  told (Ok Removed) t = rw (is, now) record { pairs = t.pairs; found = t.found; absent = λ e. cc; black = t.lowered.stays refl; err = tt }
  told (Ok RemovedShorter) t = rw (is, now) record { pairs = t.pairs; found = t.found; absent = λ e. cc; black = t.lowered.stays refl; err = tt }
  told (Err x) t = rw (is, now) record {
    pairs = tt;
    found = tt;
    absent = λ e. cc;
    black = tt;
    err = ap (λ n. map_of (shape_of n))
        (same_painted (record n { color = Black }) m t);
  }
