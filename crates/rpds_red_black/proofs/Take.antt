-- A removal in place at a node.
use Rattle.rpds_red_black.specs.Cuts.{items_of}
use Rattle.rpds_red_black.specs.Seeks.{IsSoughtBy, Looks}
use Rattle.rpds_red_black.specs.Take.{Parts, finds, finds_at, rest, rest_at}
use Rattle.rpds_red_black.specs.TreeNode.{IsCopy}
use Rattle.rpds_red_black.specs.declared.seek.Aim.{Aim}
use Rattle.rpds_red_black.specs.declared.seek.Aim.TheVariants as aim
use Rattle.rpds_red_black.proofs.Words.{◌≡◌, ◌+◌, ◌<◌, Bool, List, [], ◌∷◌, ◌++◌, Option, Some, None, Result, Ok, Err, MatchResult, is_some, true, false}
use Rattle.rpds_red_black.proofs.Words.{slice_get, drop, length, length-append, append_assoc, refl, sym, ap, ◌∙◌, arith, false≢true, Rc, pairs_of}
use Rattle.rpds_red_black.proofs.Words.{Entry, Loss, Absent, Removed, RemovedShorter, Color, Red, Black, Node, painted, shape_of, pair_of, IsEven, Painted}
use Rattle.rpds_red_black.proofs.Words.{Shape, blackness, MayStandOver, node_of, joined, is_taken, lost, loss_under, parts_of}
use Rattle.rpds_red_black.proofs.Words.{IsDarker, IsTaken, IsTakenWithNephew, IsTakenFrom}
use Rattle.rpds_red_black.proofs.Sides.{black_of, color_of, even_of, far_part, far_under, joined_assoc, joined_of, level_of, level_sides, near_part, near_under, over_far, over_near, parts, red_over, shape_black, shape_joined, under_black, with_near_part}

pub taken_not_absent : {C : Type 0} (loss : Loss) → is_taken loss ≡ true → loss ≡ Absent → C
taken_not_absent loss there is = absurd (false≢true (sym (ap is_taken is) ∙ there))

-- a pair was taken where it wasn't absent
pub taken_unless : (loss : Loss) → (loss ≡ Absent → ⊥) → is_taken loss ≡ true
taken_unless loss h = grind (arith, h)

-- what a node of the color loses over two lower sides
pub lost_under : (c : Color) → lost (loss_under c) ≡ blackness c
lost_under c = grind arith

pub taken_under : (c : Color) → is_taken (loss_under c) ≡ true
taken_under c = grind arith

-- no black node is lost but by a tree that got shorter
pub lost_none : (loss : Loss) → (loss ≡ RemovedShorter → ⊥) → lost loss ≡ 0
lost_none loss h = grind (arith, h)

pub stays_over : {K V : Type 0} (c : Color) (a b : Shape K V) → (a.color ≡ Black → b.color ≡ Black) → MayStandOver c a → MayStandOver c b
stays_over c a b f h = grind (arith, f)

pub over_black : {K V : Type 0} (c : Color) (s : Shape K V) → s.color ≡ Black → MayStandOver c s
over_black c s h = grind arith

-- what stands over a red node is black
pub black_over : {K V : Type 0} (c : Color) (s : Shape K V) → MayStandOver c s → s.color ≡ Red → c ≡ Black
black_over c s h r = grind arith

-- a tree without a black root gets no shorter
not_shorter : {S K V : Type 0} (L : Looks S K V) (k : S) (old new : Shape K V) (loss : Loss) → (old.color ≡ Black → old.black ≡ 0) → IsTaken L k old loss new → lost loss ≡ 0
not_shorter L k old new loss flat p = grind (arith, p.lowered.red, p.lowered.black, flat)

-- the node that a rotation puts below: the near side that got shorter, the entry, and the near nephew
module _ {K V A : Type 0} (r : Bool) (e : Rc (Entry K V) A) (near' near_nephew : Shape K V) (level : near'.black ≡ near_nephew.black) where
  pub below_even : IsEven (node_of r Black near' e near_nephew)
  below_even = even_of r Black near' e near_nephew level tt tt

  below_black : (shape_of (node_of r Black near' e near_nephew)).black ≡ near'.black + 1
  below_black = black_of r Black near' e near_nephew level

-- the near nephew is red, with the root m
module _ {S K V A : Type 0} (r : Bool) (L : Looks S K V) (k : S) (near : Shape K V) (e : Rc (Entry K V) A) (near_nephew : Shape K V) where
  -- the near side got no shorter
  pub nephew_kept : (loss : Loss) (near' : Shape K V) → lost loss ≡ 0 → IsTaken L k near loss near' → IsTakenWithNephew r L k (parts_of near e near_nephew) loss (parts_of near' e near_nephew)
  nephew_kept loss near' z p = grind (arith, p, z, p.pairs, p.found, p.same, p.lowered.black, p.lowered.stays)

  module _ (m : Painted K V A) (is : near_nephew ≡ shape_of m) (under : IsEven m) (red : near_nephew.color ≡ Red) (lower : near.black ≡ near_nephew.black + 1) where
    near_nephew_black : near_nephew.black ≡ (near_part r m).black
    near_nephew_black = ap (λ (s : Shape K V). s.black) is ∙ shape_black r m under ∙ omega (arith, ap blackness (sym (ap (λ (s : Shape K V). s.color) is) ∙ red))

    pub nephew_rotated_level : (near' : Shape K V) → IsTaken L k near RemovedShorter near' → near'.black ≡ (near_part r m).black
    nephew_rotated_level near' p = omega (arith, lower, near_nephew_black, p.lowered.black)

    pub nephew_rotated : (near' up near_nephew' : Shape K V) (e' : Rc (Entry K V) A) → up ≡ shape_of (node_of r Black near' e (near_part r m)) → e' ≡ m.entry → near_nephew' ≡ far_part r m → IsTaken L k near RemovedShorter near' → IsTakenWithNephew r L k (parts_of near e near_nephew) Removed (parts_of up e' near_nephew')
    nephew_rotated near' up near_nephew' e' u w i p =
        let level = nephew_rotated_level near' p in
        rw (u, w, i) record {
          pairs = ap (λ t. joined r t (pair_of m.entry.value) (far_part r m).entries) (joined_of r Black near' e (near_part r m) ∙ ap (λ t. joined r t (pair_of e.value) (near_part r m).entries) p.pairs) ∙ joined_assoc r (rest L k near.entries) (near_part r m).entries (far_part r m).entries (pair_of e.value) (pair_of m.entry.value) ∙ ap (λ t. joined r (rest L k near.entries) (pair_of e.value) t) (sym (ap (λ (s : Shape K V). s.entries) is ∙ shape_joined r m));
          found = p.found;
          same = taken_not_absent Removed refl;
          level = refl;
          near = omega (arith, lower, near_nephew_black, level, below_black r e near' (near_part r m) level);
          near_nephew = omega (arith, near_nephew_black, level_sides r m under);
          stays = λ _. color_of r Black near' e (near_part r m);
        }

-- the near side of old lost a pair
module _ {S K V A : Type 0} (r : Bool) (L : Looks S K V) (k : S) (c : Color) (near : Shape K V) (e : Rc (Entry K V) A) (far : Shape K V) where
  abbrev From : Loss → Painted K V A → Type 0
  From loss new = IsTakenFrom (joined r (rest L k near.entries) (pair_of e.value) far.entries) (finds L k near.entries) (node_of r c near e far) loss new

  from : (loss : Loss) (c' : Color) (near' : Shape K V) (e' : Rc (Entry K V) A) (far' : Shape K V) → near.black ≡ far.black → near'.black ≡ far'.black → MayStandOver c' near' → MayStandOver c' far' → near.black + blackness c ≡ near'.black + blackness c' + lost loss → (c ≡ Red → lost loss ≡ 0) → (c ≡ Black → c' ≡ Black) → joined r near'.entries (pair_of e'.value) far'.entries ≡ joined r (rest L k near.entries) (pair_of e.value) far.entries → is_taken loss ≡ finds L k near.entries → (loss ≡ Absent → node_of r c' near' e' far' ≡ node_of r c near e far) → From loss (node_of r c' near' e' far')
  from loss c' near' e' far' level level' over_near over_far black red stays pairs found same =
      grind (arith, joined_of r c' near' e' far', black_of r c near e far level, black_of r c' near' e' far' level', color_of r c near e far, color_of r c' near' e' far', even_of r c' near' e' far' level' over_near over_far, pairs, found, same, black, red, stays)

  module _ (even : IsEven (node_of r c near e far)) where
    level : near.black ≡ far.black
    level = level_of r c near e far even

    -- but no black node
    pub kept : (loss : Loss) (near' far' : Shape K V) → far' ≡ far → lost loss ≡ 0 → IsTaken L k near loss near' → From loss (node_of r c near' e far')
    kept loss near' far' is z p = rw is (from loss c near' e far level (omega (arith, level, p.lowered.black, z)) (stays_over c near near' p.lowered.stays (near_under r c near e far even)) (far_under r c near e far even) (omega (arith, p.lowered.black)) (λ _. z) (λ h. h) (ap (λ t. joined r t (pair_of e.value) far.entries) p.pairs) p.found (λ is. ap (λ s. node_of r c s e far) (p.same is)))

    pub kept_flat : {E : Type 0} (result : Result Loss E) (near' : Shape K V) → (near.color ≡ Black → near.black ≡ 0) → MatchResult result (λ loss. IsTaken L k near loss near') (λ _. near' ≡ near) → MatchResult result (λ loss. From loss (node_of r c near' e far)) (λ _. (near' ≡ near) × (e ≡ e) × (far ≡ far) × (c ≡ c))
    kept_flat (Ok loss) near' flat p = kept loss near' far refl (not_shorter L k near near' loss flat p) p
    kept_flat (Err x) near' flat p = (p, refl, refl, refl)

    -- nothing was there
    pub absent : (near' far' : Shape K V) (e' : Rc (Entry K V) A) → near' ≡ near → e' ≡ e → far' ≡ far → rest L k near.entries ≡ near.entries → false ≡ finds L k near.entries → From Absent (node_of r c near' e' far')
    absent near' far' e' x y z all h = rw (x, y, z) (from Absent c near e far level level (near_under r c near e far even) (far_under r c near e far even) (omega arith) (λ _. refl) (λ h. h) (ap (λ t. joined r t (pair_of e.value) far.entries) (sym all)) h (λ _. refl))

    -- the sibling n is black
    module _ (n : Painted K V A) (is : far ≡ shape_of n) (under : IsEven n) (black : n.color ≡ Black) where
      far_black : far.black ≡ (near_part r n).black + 1
      far_black = ap (λ (s : Shape K V). s.black) is ∙ shape_black r n under ∙ ap (λ c. (near_part r n).black + blackness c) black

      far_joined : far.entries ≡ joined r (near_part r n).entries (pair_of n.entry.value) (far_part r n).entries
      far_joined = ap (λ (s : Shape K V). s.entries) is ∙ shape_joined r n

      pub near_nephew_lower : near.black ≡ (near_part r n).black + 1
      near_nephew_lower = level ∙ far_black

      -- it became red
      pub shorter : (loss : Loss) (c' : Color) (near' far' : Shape K V) → loss ≡ loss_under c → c' ≡ Black → far' ≡ shape_of (record n { color = Red }) → IsTaken L k near RemovedShorter near' → From loss (node_of r c' near' e far')
      shorter loss c' near' far' l b f p =
          let one = ap (λ (s : Shape K V). s.black) is ∙ ap (λ c. n.left.black + blackness c) black in
          let none = ap (λ (s : Shape K V). s.black) f in
          rw (l, b) (from (loss_under c) Black near' e far' level (omega (arith, level, one, none, p.lowered.black)) tt tt (omega (arith, lost_under c, p.lowered.black)) (λ h. lost_under c ∙ ap blackness h) (λ _. refl) (ap (λ t. joined r t (pair_of e.value) far'.entries) p.pairs ∙ ap (λ t. joined r (rest L k near.entries) (pair_of e.value) t) (ap (λ (s : Shape K V). s.entries) f ∙ sym (ap (λ (s : Shape K V). s.entries) is))) (taken_under c ∙ p.found) (taken_not_absent (loss_under c) (taken_under c)))

      pub rotated_level : (near' : Shape K V) → IsTaken L k near RemovedShorter near' → near'.black ≡ (near_part r n).black
      rotated_level near' p = omega (arith, level, far_black, p.lowered.black)

      -- the far nephew became black, and it rotated
      pub rotated : (near' up far' : Shape K V) (e' : Rc (Entry K V) A) → up ≡ shape_of (node_of r Black near' e (near_part r n)) → e' ≡ n.entry → IsDarker (far_part r n) far' → IsTaken L k near RemovedShorter near' → From Removed (node_of r c up e' far')
      rotated near' up far' e' u w dark p =
          let even = rotated_level near' p in
          let taller = below_black r e near' (near_part r n) even in
          rw (u, w) (from Removed c (shape_of (node_of r Black near' e (near_part r n))) n.entry far' level (omega (arith, taller, even, dark.black, level_sides r n under)) (over_black c _ (color_of r Black near' e (near_part r n))) (over_black c far' dark.color) (omega (arith, taller, p.lowered.black)) (λ _. refl) (λ h. h) (ap (λ t. joined r t (pair_of n.entry.value) far'.entries) (joined_of r Black near' e (near_part r n) ∙ ap (λ t. joined r t (pair_of e.value) (near_part r n).entries) p.pairs) ∙ joined_assoc r (rest L k near.entries) (near_part r n).entries far'.entries (pair_of e.value) (pair_of n.entry.value) ∙ ap (λ t. joined r (rest L k near.entries) (pair_of e.value) t) (ap (λ t. joined r (near_part r n).entries (pair_of n.entry.value) t) dark.pairs ∙ sym far_joined)) p.found (taken_not_absent Removed refl))

      -- the near nephew gave a node
      module _ (loss : Loss) (near' near_nephew' : Shape K V) (e' : Rc (Entry K V) A) (a : IsTakenWithNephew r L k (parts_of near e (near_part r n)) loss (parts_of near' e' near_nephew')) where
        near_nephew_level : near_nephew'.black ≡ (far_part r n).black
        near_nephew_level = a.near_nephew ∙ level_sides r n under

        pub with_nephew_even : IsEven (with_near_part r n near_nephew')
        with_nephew_even = even_of r n.color near_nephew' n.entry (far_part r n) near_nephew_level (under_black n.color near_nephew' black) (over_far r n under)

        with_nephew_same : loss ≡ Absent → node_of r c near' e' (shape_of (with_near_part r n near_nephew')) ≡ node_of r c near e far
        with_nephew_same l =
            let s = a.same l in
            let inside = ap (λ (p : Parts K V A). shape_of (with_near_part r n p.near_nephew)) s ∙ ap (λ (n : Painted K V A). shape_of n) (parts r n) ∙ sym is in
            ap (λ (p : Parts K V A). node_of r c p.near p.entry (shape_of (with_near_part r n near_nephew'))) s ∙ ap (λ t. node_of r c near e t) inside

        pub with_nephew : (far' : Shape K V) → far' ≡ shape_of (with_near_part r n near_nephew') → From loss (node_of r c near' e' far')
        with_nephew far' f =
            let size = black_of r n.color near_nephew' n.entry (far_part r n) near_nephew_level ∙ ap (λ c. near_nephew'.black + blackness c) black in
            rw f (from loss c near' e' (shape_of (with_near_part r n near_nephew')) level (omega (arith, level, far_black, size, a.near, a.near_nephew)) (stays_over c near near' a.stays (near_under r c near e far even)) (over_black c _ (color_of r n.color near_nephew' n.entry (far_part r n) ∙ black)) (omega (arith, a.near, a.level)) (λ _. a.level) (λ h. h) (ap (λ t. joined r near'.entries (pair_of e'.value) t) (joined_of r n.color near_nephew' n.entry (far_part r n)) ∙ sym (joined_assoc r near'.entries near_nephew'.entries (far_part r n).entries (pair_of e'.value) (pair_of n.entry.value)) ∙ ap (λ t. joined r t (pair_of n.entry.value) (far_part r n).entries) a.pairs ∙ joined_assoc r (rest L k near.entries) (near_part r n).entries (far_part r n).entries (pair_of e.value) (pair_of n.entry.value) ∙ ap (λ t. joined r (rest L k near.entries) (pair_of e.value) t) (sym far_joined)) a.found with_nephew_same)

-- the sibling n is red: the node goes below it
module _ {S K V A : Type 0} (r : Bool) (L : Looks S K V) (k : S) (near : Shape K V) (e : Rc (Entry K V) A) (far : Shape K V) (level : near.black ≡ far.black) where
  -- nothing was there
  pub absent_red_sibling : (near' far' : Shape K V) (e' : Rc (Entry K V) A) → near' ≡ near → e' ≡ e → far' ≡ far → rest L k near.entries ≡ near.entries → false ≡ finds L k near.entries → From r L k Black near e far Absent (node_of r Black near' e' far')
  absent_red_sibling near' far' e' x y z all h = absent r L k Black near e far (even_of r Black near e far level tt tt) near' far' e' x y z all h

  module _ (n : Painted K V A) (is : far ≡ shape_of n) (under : IsEven n) (red : far.color ≡ Red) (black : near.color ≡ Black) where
    red_root : n.color ≡ Red
    red_root = sym (ap (λ (s : Shape K V). s.color) is) ∙ red

    lower_level : near.black ≡ (near_part r n).black
    lower_level = omega (arith, level, ap (λ (s : Shape K V). s.black) is ∙ shape_black r n under, ap blackness red_root)

    pub lower_color : (near_part r n).color ≡ Black
    lower_color = red_over n.color (near_part r n) red_root (over_near r n under)

    pub lower_node : 0 < near.black → 0 < (near_part r n).black
    lower_node node = omega (arith, node, lower_level)

    pub lower_even : IsEven (node_of r Red near e (near_part r n))
    lower_even = even_of r Red near e (near_part r n) lower_level black lower_color

    pub lower_rotated : (c' : Color) (near' near_nephew' up far' : Shape K V) (e' f : Rc (Entry K V) A) → From r L k Red near e (near_part r n) Removed (node_of r c' near' e' near_nephew') → up ≡ shape_of (node_of r c' near' e' near_nephew') → f ≡ n.entry → far' ≡ far_part r n → From r L k Black near e far Removed (node_of r Black up f far')
    lower_rotated c' near' near_nephew' up far' e' f p u w i =
        let size : near.black ≡ (shape_of (node_of r c' near' e' near_nephew')).black = omega (arith, black_of r Red near e (near_part r n) lower_level, p.lowered.black) in
        let sides = level_sides r n under in
        rw (u, w, i) (from r L k Black near e far Removed Black (shape_of (node_of r c' near' e' near_nephew')) n.entry (far_part r n) level (omega (arith, size, lower_level, sides)) tt tt (omega (arith, size)) (λ _. refl) (λ _. refl) (ap (λ t. joined r t (pair_of n.entry.value) (far_part r n).entries) p.pairs ∙ joined_assoc r (rest L k near.entries) (near_part r n).entries (far_part r n).entries (pair_of e.value) (pair_of n.entry.value) ∙ ap (λ t. joined r (rest L k near.entries) (pair_of e.value) t) (sym (ap (λ (s : Shape K V). s.entries) is ∙ shape_joined r n))) p.found (taken_not_absent Removed refl))

-- where the far side is red the node is black, so it is told of the node's own color
pub told_of_color : {S K V A E : Type 0} (r : Bool) (L : Looks S K V) (k : S) (c : Color) (near : Shape K V) (e : Rc (Entry K V) A) (far near' : Shape K V) (e' : Rc (Entry K V) A) (far' : Shape K V) → c ≡ Black → (taken : Result Loss E) → MatchResult taken (λ loss. From r L k Black near e far loss (node_of r Black near' e' far')) (λ _. (near' ≡ near) × (e' ≡ e) × (far' ≡ far)) → MatchResult taken (λ loss. From r L k c near e far loss (node_of r c near' e' far')) (λ _. (near' ≡ near) × (e' ≡ e) × (far' ≡ far) × (c ≡ c))
told_of_color r L k c near e far near' e' far' black (Ok loss) h = rw black h
told_of_color r L k c near e far near' e' far' black (Err x) h = (h.0, h.1, h.2, refl)

-- a node without its color
abbrev pub stripped : {K V A : Type 0} → Painted K V A → Node K V A
stripped n = record { left = n.left; entry = n.entry; right = n.right }

pub same_painted : {K V A : Type 0} (n m : Painted K V A) → (stripped m ≡ stripped n) × (m.color ≡ n.color) → m ≡ n
same_painted n m h = ap (λ s. painted m.color s) h.0 ∙ ap (λ c. painted c (stripped n)) h.1

-- a node, told of the side that the removal went down
module _ {K V A E : Type 0} (es : List (K × V)) (there : Bool) (old : Painted K V A) (c' : Color) (near' : Shape K V) (e' : Rc (Entry K V) A) (far' : Shape K V) where
  pub taken_on_left : (taken : Result Loss E) → MatchResult taken (λ loss. IsTakenFrom es there old loss (node_of false c' near' e' far')) (λ _. (near' ≡ old.left) × (e' ≡ old.entry) × (far' ≡ old.right) × (c' ≡ old.color)) → MatchResult taken (λ loss. IsTakenFrom es there old loss (node_of false c' near' e' far')) (λ _. (stripped (node_of false c' near' e' far') ≡ stripped old) × (c' ≡ old.color))
  taken_on_left (Ok loss) h = h
  taken_on_left (Err x) h = (rw (h.0, h.1, h.2) refl, h.3)

  pub taken_on_right : (taken : Result Loss E) → MatchResult taken (λ loss. IsTakenFrom es there old loss (node_of true c' near' e' far')) (λ _. (near' ≡ old.right) × (e' ≡ old.entry) × (far' ≡ old.left) × (c' ≡ old.color)) → MatchResult taken (λ loss. IsTakenFrom es there old loss (node_of true c' near' e' far')) (λ _. (stripped (node_of true c' near' e' far') ≡ stripped old) × (c' ≡ old.color))
  taken_on_right (Ok loss) h = h
  taken_on_right (Err x) h = (rw (h.0, h.1, h.2) refl, h.3)

-- what a look leaves and finds, by the law that its parts are all
module _ {S K V : Type 0} (ready : S → List (K × V) → Type 0) (L : Looks S K V) (parts : (k : S) (es : List (K × V)) → ready k es → es ≡ L.before k es ++ (items_of (L.found k es) ++ L.after k es)) (k : S) (es : List (K × V)) (r : ready k es) where
  split_at : (o : Option (K × V)) (b a : List (K × V)) → es ≡ b ++ (items_of o ++ a) → is_some o ≡ true → length es ≡ length (b ++ a) + 1
  split_at None b a e h = absurd (false≢true h)
  split_at (Some p) b a e h = omega (arith, ap length e, length-append b (p ∷ a), length-append b a)

  whole_at : (o : Option (K × V)) (b a : List (K × V)) → es ≡ b ++ (items_of o ++ a) → is_some o ≡ false → b ++ a ≡ es
  whole_at None b a e h = sym e
  whole_at (Some p) b a e h = absurd (false≢true (sym h))

  -- all, where it finds none
  pub rest_all : finds L k es ≡ false → rest L k es ≡ es
  rest_all h = whole_at (L.found k es) (L.before k es) (L.after k es) (parts k es r) h

  -- and a pair less
  pub length_rest : finds L k es ≡ true → length es ≡ length (rest L k es) + 1
  length_rest h = split_at (L.found k es) (L.before k es) (L.after k es) (parts k es r) h

-- the same at a node
module _ {S K V A : Type 0} (ready : S → List (K × V) → Type 0) (L : Looks S K V) (k : S) (n : Node K V A) where
  -- at a copy of it
  pub sought_copy : (m : Node K V A) (a : Aim S) → IsCopy n m → IsSoughtBy ready L k n a → IsSoughtBy ready L k m a
  sought_copy m aim.Here same h = rw (same.left, same.entry, same.right) h
  sought_copy m (aim.Left t) same h = rw (same.left, same.entry, same.right) h
  sought_copy m (aim.Right t) same h = rw (same.left, same.entry, same.right) h

  pub sought_rest : (a : Aim S) → IsSoughtBy ready L k n a → rest_at L n a ≡ rest L k (pairs_of n)
  sought_rest aim.Here h = rw (h.0, h.2) refl
  sought_rest (aim.Left t) h = rw (h.1, h.3) (append_assoc (L.before t n.left.entries) (L.after t n.left.entries) (pair_of n.entry.value ∷ n.right.entries))
  sought_rest (aim.Right t) h = rw (h.1, h.3) (sym (append_assoc n.left.entries (pair_of n.entry.value ∷ L.before t n.right.entries) (L.after t n.right.entries)))

  pub sought_finds : (a : Aim S) → IsSoughtBy ready L k n a → finds_at L n a ≡ finds L k (pairs_of n)
  sought_finds aim.Here h = rw h.1 refl
  sought_finds (aim.Left t) h = rw h.2 refl
  sought_finds (aim.Right t) h = rw h.2 refl

pub some_same : {T : Type 0} (q p : T) → Some q ≡ Some p → q ≡ p
some_same q p h = ap (λ (x : Option _). elim x [ Some y ↦ y | None ↦ q ]) h

-- a list with p first
next_of : {T : Type 0} (es : List T) (p : T) → slice_get es 0 ≡ Some p → p ∷ drop 1 es ≡ es
next_of [] p h = absurd (false≢true (ap is_some h))
next_of (q ∷ es) p h = ap (λ q. q ∷ es) (sym (some_same q p h))

-- the next pair takes the node's place
pub next_above : {K V A : Type 0} (old new : Painted K V A) (p : K × V) (above : Rc (Entry K V) A) (loss : Loss) → slice_get old.right.entries 0 ≡ Some p → pair_of above.value ≡ p → IsTakenFrom (old.left.entries ++ pair_of above.value ∷ drop 1 old.right.entries) (is_some (slice_get old.right.entries 0)) (record old { entry = above }) loss new → IsTakenFrom (old.left.entries ++ old.right.entries) true old loss new
next_above old new p above loss first same t = grind (arith, next_of old.right.entries p first, first, t, t.pairs, t.found, t.lowered.black, t.lowered.red, t.lowered.stays, t.even, same)
