-- A removal at a node.
use Rattle.rpds_red_black.specs.KeySeeks.{above_form, below_form}
use Rattle.rpds_red_black.specs.Removal.{IsRemains, IsRemainsOver, IsRemoved}
use Rattle.rpds_red_black.specs.SeekCuts.{IsWithoutSought}
use Rattle.rpds_red_black.specs.Seeks.{Looks}
use Rattle.rpds_red_black.proofs.Words.{◌≡◌, Bool, true, [], Result, Ok, Err, IfOk, OnOk, sym, ap, ◌∙◌, arith, Ordering}
use Rattle.rpds_red_black.proofs.Words.{Rc, IsTotalOrder, Entry, Loss, Black, IsAscending, IsSearch, find_by, IsEndTaken, Shape, leaf, joined, node_of}
use Rattle.rpds_red_black.proofs.Words.{is_taken, lost, shape_of, pair_of, IsEven, Painted}
use Rattle.rpds_red_black.proofs.ByForm.{others_parts}
use Rattle.rpds_red_black.proofs.Pairs.{length_of_others}
use Rattle.rpds_red_black.proofs.Sides.{black_of, color_of, even_of, far_part, joined_assoc, joined_of, level_sides, near_part, over_far, over_near, shape_black, shape_joined}
use Rattle.rpds_red_black.proofs.Take.{stays_over}

-- a node whose near side is made anew, and is as high as the old one
module _ {K V A : Type 0} (r : Bool) (n : Painted K V A) (even : IsEven n) (e : Rc (Entry K V) A) where
  module _ (near far : Shape K V) (is : far ≡ far_part r n) (level : near.black ≡ (near_part r n).black) (stays : (near_part r n).color ≡ Black → near.color ≡ Black) where
    kept_level : near.black ≡ far.black
    kept_level = level ∙ level_sides r n even ∙ sym (ap (λ (s : Shape K V). s.black) is)

    pub even_kept : IsEven (node_of r n.color near e far)
    even_kept = even_of r n.color near e far kept_level (stays_over n.color (near_part r n) near stays (over_near r n even)) (rw is (over_far r n even))

    pub remains_kept : {E : Type 0} (loss : Loss) → is_taken loss ≡ true → lost loss ≡ 0 → (result : Result (Shape K V) E) → IfOk result (λ t. t ≡ shape_of (node_of r n.color near e far)) → IfOk result (IsRemains (joined r near.entries (pair_of e.value) (far_part r n).entries) (shape_of n) loss)
    remains_kept loss there none (Err x) whole = tt
    remains_kept loss there none (Ok left) whole =
        grind (arith, whole, is, joined_of r n.color near e far, black_of r n.color near e far kept_level, shape_black r n even, level, there, none, color_of r n.color near e far)

-- what is left of a node by the loss of its near side, and by what is left of that
module _ {K V A : Type 0} (r : Bool) (n : Painted K V A) (near_loss : Loss) (below : Shape K V) where
  -- a pair was
  pub remains_over : {E : Type 0} (entry : Rc (Entry K V) A) (loss : Loss) → is_taken near_loss ≡ true → entry.value ≡ n.entry.value → (result : Result (Shape K V) E) → IfOk result (IsRemains (joined r below.entries (pair_of entry.value) (far_part r n).entries) (shape_of n) loss) → IfOk result (IsRemainsOver r n near_loss below loss)
  remains_over entry loss there same (Err x) made = tt
  remains_over entry loss there same (Ok left) made = grind (arith, made.taken, made.pairs, made.lowered, there, same)

-- a node without the pair at the end of its near side
module _ {K V A : Type 0} (r : Bool) (n : Painted K V A) where
  -- that is its own
  pub end_here : {E : Type 0} (loss : Loss) → near_part r n ≡ leaf → (result : Result (Shape K V) E) → IfOk result (IsRemains (far_part r n).entries (shape_of n) loss) → IfOk result (IsEndTaken r (shape_of n) loss)
  end_here loss empty (Err x) made = tt
  end_here loss empty (Ok left) made = record {
    end = pair_of n.entry.value;
    pairs = shape_joined r n ∙ ap (λ (s : Shape K V). joined r s.entries (pair_of n.entry.value) (far_part r n).entries) empty ∙ ap (λ x. joined r [] (pair_of n.entry.value) x) (sym made.pairs);
    taken = made.taken;
    lowered = made.lowered;
  }

  -- it is below
  pub end_below : {E : Type 0} (near_loss : Loss) (below : Shape K V) (entry : Rc (Entry K V) A) (loss : Loss) → IsEndTaken r (near_part r n) near_loss below → entry.value ≡ n.entry.value → (result : Result (Shape K V) E) → IfOk result (IsRemains (joined r below.entries (pair_of entry.value) (far_part r n).entries) (shape_of n) loss) → IfOk result (IsEndTaken r (shape_of n) loss)
  end_below near_loss below entry loss t same (Err x) made = tt
  end_below near_loss below entry loss t same (Ok left) made = record {
    end = t.end;
    pairs =
        shape_joined r n
        ∙ ap (λ x. joined r x (pair_of n.entry.value) (far_part r n).entries) t.pairs
        ∙ joined_assoc r [] below.entries (far_part r n).entries t.end (pair_of n.entry.value)
        ∙ ap (λ x. joined r [] t.end (joined r below.entries (pair_of x) (far_part r n).entries)) (sym same)
        ∙ ap (λ x. joined r [] t.end x) (sym made.pairs);
    taken = made.taken;
    lowered = made.lowered;
  }

-- what holds whatever a call returns
pub whatever_comes : {T E P : Type 0} (result : Result T E) → P → OnOk result P
whatever_comes result holds = grind (arith, holds)

-- a whole tree without the pair of the key
pub removed_whole : {S K V : Type 0} {R : K → K → Ordering} (o : IsTotalOrder R) {seek : K → Ordering} (finds : IsSearch R seek) (w : Looks S K V) (sought : S) (old new : Shape K V) (loss : Loss) (left : Shape K V)
    → IsWithoutSought w sought old loss left → w.found sought old.entries ≡ find_by seek old.entries → w.before sought old.entries ≡ below_form seek old.entries → w.after sought old.entries ≡ above_form seek old.entries
    → IsAscending R old.entries → is_taken loss ≡ true → new.entries ≡ left.entries → new.color ≡ Black → IsRemoved seek old new
removed_whole {R = R} o finds w sought old new loss left i found before after rising there same black =
    grind (arith, found, before, after, i.found, i.pairs, there, same, black, others_parts R o finds old.entries rising, length_of_others R o finds old.entries rising)
