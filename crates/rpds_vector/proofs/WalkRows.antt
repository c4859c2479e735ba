-- The nodes of a row, and their items, in order.
use Rattle.rpds_vector.proofs.Words.{◌≡◌, ℕ, ◌+◌, ◌-◌, ◌≤◌, List, [], ◌∷◌, ◌++◌, length, reverse, refl, ap, sym, ◌∙◌, subst, append_assoc}
use Rattle.rpds_vector.proofs.Words.{append-nil, arith, Bool, true, false, reverse-append, along, Trie, IsRow, flatten, height_of, span}
use Rattle.std.proofs.lemmas.List.{get_or-reverse, length-reverse}
use Rattle.std.proofs.lemmas.List.Elements.{All-nil, All-cons, All-head, All-tail}
use Rattle.std.specs.List.{All}
use Rattle.rpds_vector.specs.VectorWalk.{items_along, AreLow}
use Rattle.rpds_vector.proofs.OpenNodes.{IsOpenBranch}

module _ {T : Type 0} where
  items_append : (b : Bool) (ks ms : List (Trie T)) → items_along b (ks ++ ms) ≡ items_along b ks ++ items_along b ms
  items_append b [] ms = refl
  items_append b (k ∷ ks) ms = ap (λ z. along b k.items ++ z) (items_append b ks ms)
      ∙ sym (append_assoc (along b k.items) (items_along b ks) (items_along b ms))

  -- they give the row's items in that order
  items_of_row : (b : Bool) (ks : List (Trie T)) → items_along b (along b ks) ≡ along b (flatten ks)
  items_of_row false [] = refl
  items_of_row false (k ∷ ks) = ap (λ z. k.items ++ z) (items_of_row false ks)
  items_of_row true [] = refl
  items_of_row true (k ∷ ks) =
      ap (λ z. items_along true z) (reverse-append (k ∷ []) ks)
      ∙ items_append true (reverse ks) (k ∷ [])
      ∙ ap (λ z. z ++ (reverse k.items ++ [])) (items_of_row true ks)
      ∙ ap (λ z. reverse (flatten ks) ++ z) (append-nil (reverse k.items))
      ∙ sym (reverse-append k.items (flatten ks))

  -- of nodes that aren't high, the first and the others
  pub low_first : (most : ℕ) (k : Trie T) (ks : List (Trie T)) → AreLow most (k ∷ ks) → k.height ≤ most
  low_first most k ks h = All-head (λ (t : Trie T). t.height ≤ most) k ks h

  pub low_others : (most : ℕ) (k : Trie T) (ks : List (Trie T)) → AreLow most (k ∷ ks) → AreLow most ks
  low_others most k ks h = All-tail (λ (t : Trie T). t.height ≤ most) k ks h

  pub low_cut : (most : ℕ) (k : Trie T) {ks ms : List (Trie T)} → ms ≡ k ∷ ks → AreLow most ms → AreLow most (k ∷ ks)
  low_cut most k e h = subst (λ (ns : List (Trie T)). AreLow most ns) e h

  all_along : (P : Trie T → Type 0) (b : Bool) (ks : List (Trie T)) → All P ks → All P (along b ks)
  all_along P false ks h = h
  all_along P true ks h = λ n d lt. let size = length-reverse ks in subst P (sym (get_or-reverse ks n d (omega arith))) (h (length ks - 1 - n) d (omega arith))

  -- the children of a branch have one height
  all_row : (b h c most : ℕ) (ks : List (Trie T)) → IsRow b h c ks → h ≤ most → AreLow most ks
  all_row b h c most [] w le = All-nil (λ (k : Trie T). k.height ≤ most)
  all_row b h c most (k ∷ ks) w le = All-cons (λ (k : Trie T). k.height ≤ most) k ks (omega (arith, w.0.same_height)) (all_row b h c most ks w.1 le)

  -- a branch that was opened at its first child on the way
  module _ {v : Trie T} {b : ℕ} {ks : List (Trie T)} (o : IsOpenBranch v b ks) (back : Bool) {first : Trie T} {rest : List (Trie T)}
      (cut : along back ks ≡ first ∷ rest) where
    pub branch_items : items_along back (first ∷ rest) ≡ along back v.items
    branch_items = ap (λ z. items_along back z) (sym cut) ∙ items_of_row back ks ∙ ap (λ (t : Trie T). along back t.items) (sym o.is)

    pub branch_low : (most : ℕ) → v.height ≤ most + 1 → AreLow most (first ∷ rest)
    branch_low most le =
        let low : height_of ks ≤ most = omega (arith, le, ap (λ (t : Trie T). t.height) o.is) in
        subst (λ (ns : List (Trie T)). AreLow most ns) cut (all_along (λ (child : Trie T). child.height ≤ most) back ks
        (all_row b (height_of ks) (span b (height_of ks + 1)) most ks o.sound.row low))

-- rows of three levels, each below the first of the next
pub rows_below : {X : Type 0} (l ls p ps g gs n : List X) → l ++ ls ≡ p → p ++ ps ≡ g → g ++ gs ≡ n → l ++ (ls ++ (ps ++ gs)) ≡ n
rows_below l ls p ps g gs n leaf parent top = sym (append_assoc l ls (ps ++ gs)) ∙ ap (λ z. z ++ (ps ++ gs)) leaf ∙ sym (append_assoc p ps gs)
    ∙ ap (λ z. z ++ gs) parent ∙ top
