-- What a removal in place makes of a tree, of a node, and of the nephews of the tree.
use Rattle.std.specs.Prelude.{◌≡◌, ℕ, ◌+◌, Bool, true, false, if◌then◌else◌, is_some, alloc_error, List, ◌∷◌, ◌++◌, Result, Ok, Err}
use Rattle.std.specs.declared.alloc.AllocError.{AllocError}
use Rattle.std.specs.declared.rc.Rc.{Rc}
use Rattle.rpds_core.specs.declared.map.entry.Entry.{Entry}
use Rattle.rpds_red_black.specs.TreeNode.{shape_of, pair_of, IsEven, Painted}
use Rattle.rpds_red_black.specs.Seeks.{Looks}
use Rattle.rpds_red_black.specs.Sides.{joined}
use Rattle.rpds_red_black.specs.Shape.{Shape}
use Rattle.rpds_red_black.specs.declared.seek.Aim.{Aim}
use Rattle.rpds_red_black.specs.declared.seek.Aim.TheVariants as aim
use Rattle.rpds_red_black.specs.declared.remove_in_place.Loss.{Loss}
use Rattle.rpds_red_black.specs.declared.remove_in_place.Loss.TheVariants.{Absent, Removed, RemovedShorter}
use Rattle.rpds_red_black.specs.declared.remove_in_place.Taken.{Taken}
use Rattle.rpds_red_black.specs.declared.remove_in_place.Taken.TheVariants as taken
use Rattle.rpds_red_black.specs.declared.tree.Color.{Color}
use Rattle.rpds_red_black.specs.declared.tree.Color.TheVariants.{Red, Black}
use Rattle.rpds_red_black.specs.declared.tree.Node.{Node}

-- the loss, or an error where memory was refused
abbrev pub outcome_of : Taken → Result Loss AllocError
outcome_of taken.Refused = Err alloc_error
outcome_of taken.Absent = Ok Absent
outcome_of taken.Removed = Ok Removed
outcome_of taken.RemovedShorter = Ok RemovedShorter

-- whether a pair was taken
abbrev pub is_taken : Loss → Bool
is_taken Absent = false
is_taken Removed = true
is_taken RemovedShorter = true

abbrev pub has_taken : {E : Type 0} → Result Loss E → Bool
has_taken (Ok loss) = is_taken loss
has_taken (Err e) = false

abbrev pub taken_by : {E : Type 0} → Result Loss E → ℕ
taken_by taken = if has_taken taken then 1 else 0

-- what is told of it
abbrev pub taken_of : {E : Type 0} → Result Loss E → Result Bool E
taken_of (Ok loss) = Ok (is_taken loss)
taken_of (Err e) = Err e

-- how many black nodes fewer there are on each path
abbrev pub lost : Loss → ℕ
lost Absent = 0
lost Removed = 0
lost RemovedShorter = 1

-- whether there is one fewer
abbrev pub got_shorter : {E : Type 0} → Result Loss E → Bool
got_shorter (Ok Absent) = false
got_shorter (Ok Removed) = false
got_shorter (Ok RemovedShorter) = true
got_shorter (Err e) = false

-- the loss of a node, whose shorter side was made up for
abbrev pub restored_of : {E : Type 0} → Result Loss E → Result Loss E
restored_of (Ok Absent) = Ok Absent
restored_of (Ok Removed) = Ok Removed
restored_of (Ok RemovedShorter) = Ok Removed
restored_of (Err e) = Err e

-- a red root loses no black node, and a black one stays black: so the new tree may stand where the old one stood
pub record IsLowered {K V : Type 0} (loss : Loss) (old new : Shape K V) : Type 0 where
  pub black : old.black ≡ new.black + lost loss
  pub red : old.color ≡ Red → lost loss ≡ 0
  pub stays : old.color ≡ Black → new.color ≡ Black

-- the pairs without the one that a look finds, and whether it finds one
abbrev pub rest : {S K V : Type 0} → Looks S K V → S → List (K × V) → List (K × V)
rest w s es = w.before s es ++ w.after s es

abbrev pub finds : {S K V : Type 0} → Looks S K V → S → List (K × V) → Bool
finds w s es = is_some (w.found s es)

-- the same at a node, by where the look goes on from there
abbrev pub rest_at : {S K V A : Type 0} → Looks S K V → Node K V A → Aim S → List (K × V)
rest_at w n aim.Here = n.left.entries ++ n.right.entries
rest_at w n (aim.Left t) = rest w t n.left.entries ++ pair_of n.entry.value ∷ n.right.entries
rest_at w n (aim.Right t) = n.left.entries ++ pair_of n.entry.value ∷ rest w t n.right.entries

abbrev pub finds_at : {S K V A : Type 0} → Looks S K V → Node K V A → Aim S → Bool
finds_at w n aim.Here = true
finds_at w n (aim.Left t) = finds w t n.left.entries
finds_at w n (aim.Right t) = finds w t n.right.entries

-- it finds its way in the side where it goes on
abbrev pub IsReadyAt : {S K V A : Type 0} → (S → List (K × V) → Type 0) → Node K V A → Aim S → Type 0
IsReadyAt ready n aim.Here = Unit {0}
IsReadyAt ready n (aim.Left t) = ready t n.left.entries
IsReadyAt ready n (aim.Right t) = ready t n.right.entries

-- a tree without the pair that a look finds
pub record IsTaken {S K V : Type 0} (w : Looks S K V) (s : S) (old : Shape K V) (loss : Loss) (new : Shape K V) : Type 0 where
  pub pairs : new.entries ≡ rest w s old.entries
  pub found : is_taken loss ≡ finds w s old.entries
  pub same : loss ≡ Absent → new ≡ old
  pub lowered : IsLowered loss old new

-- a node with the pairs that are left, where `there` tells whether one was taken
pub record IsTakenFrom {K V A : Type 0} (entries : List (K × V)) (there : Bool) (old : Painted K V A) (loss : Loss) (new : Painted K V A) : Type 0 where
  pub pairs : (shape_of new).entries ≡ entries
  pub found : is_taken loss ≡ there
  pub same : loss ≡ Absent → new ≡ old
  pub lowered : IsLowered loss (shape_of old) (shape_of new)
  pub even : IsEven new

-- what a node of the color loses over two sides that lost a black node
abbrev pub loss_under : Color → Loss
loss_under Red = Removed
loss_under Black = RemovedShorter

-- the loss of a node of the color over two sides that lost as much
abbrev pub under_of : {E : Type 0} → Color → Result Loss E → Result Loss E
under_of color (Ok Absent) = Ok Absent
under_of color (Ok Removed) = Ok Removed
under_of color (Ok RemovedShorter) = Ok (loss_under color)
under_of color (Err e) = Err e

-- a black side with the same pairs, and one black node more on each path
pub record IsDarker {K V : Type 0} (old new : Shape K V) : Type 0 where
  pub pairs : new.entries ≡ old.entries
  pub black : new.black ≡ old.black + 1
  pub color : new.color ≡ Black

-- the far nephew of a tree, which becomes black where the tree got shorter
abbrev pub IsDarkenedFor : {K V : Type 0} → Loss → Shape K V → Shape K V → Type 0
IsDarkenedFor Absent old new = new ≡ old
IsDarkenedFor Removed old new = new ≡ old
IsDarkenedFor RemovedShorter old new = IsDarker old new

-- the near side of a node, its entry, and the near nephew of that side
pub record Parts (K V A : Type 0) : Type 0 where
  pub near : Shape K V
  pub entry : Rc (Entry K V) A
  pub near_nephew : Shape K V

abbrev pub parts_of : {K V A : Type 0} → Shape K V → Rc (Entry K V) A → Shape K V → Parts K V A
parts_of near entry near_nephew = record { near = near; entry = entry; near_nephew = near_nephew }

-- those without the pair that a look finds, with as many black nodes on each path as before
pub record IsTakenWithNephew {S K V A : Type 0} (right : Bool) (w : Looks S K V) (s : S) (old : Parts K V A) (loss : Loss) (new : Parts K V A) : Type 0 where
  pub pairs : joined right new.near.entries (pair_of new.entry.value) new.near_nephew.entries ≡ joined right (rest w s old.near.entries) (pair_of old.entry.value) old.near_nephew.entries
  pub found : is_taken loss ≡ finds w s old.near.entries
  pub same : loss ≡ Absent → new ≡ old
  pub level : lost loss ≡ 0
  pub near : new.near.black ≡ old.near.black
  pub near_nephew : new.near_nephew.black ≡ old.near_nephew.black
  pub stays : old.near.color ≡ Black → new.near.color ≡ Black
