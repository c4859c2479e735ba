-- Items that words write to their end.
use Rattle.std.proofs.Common.{◌≡◌, ◌≢◌, ◌↔◌, ℕ, suc, List, [], ◌∷◌, ◌++◌, drop, length, length-append, append_assoc, arith, refl, sym, ap, subst, ◌∙◌}
use Rattle.std.specs.List.{flat_map}
use Rattle.std.proofs.Math.Seq.{drop-append_seam}
use Rattle.std.proofs.lemmas.List.{map-append}
use Rattle.rpds_lines.specs.Grammar.Items.{AreItems}
use Rattle.rpds_lines.specs.Grammar.Pieces.{Piece, text_of, texts_of, AllFit}

fit_both : (front more : List Piece) → AllFit front → AllFit more → AllFit (front ++ more)
fit_both [] more fit fits = fits
fit_both (piece ∷ front) more fit fits = (fit.0, fit_both front more fit.1 fits)

fit_parts : (front more : List Piece) → AllFit (front ++ more) → AllFit front × AllFit more
fit_parts [] more fit = (tt, fit)
fit_parts (piece ∷ front) more fit =
    let parts = fit_parts front more fit.1 in
    ((fit.0, parts.0), parts.1)

texts_of_both : (front more : List Piece) (rest : List (List ℕ)) → texts_of (front ++ more) ++ rest ≡ texts_of front ++ (texts_of more ++ rest)
texts_of_both front more rest = ap (λ ws. ws ++ rest) (map-append text_of front more) ∙ append_assoc (texts_of front) (texts_of more) rest

module _ {X : Type 0} (pieces_of : X → List Piece) where
  -- no item stands first
  abbrev pub LacksItem : List (List ℕ) → Type 0
  LacksItem words = (x : X) (rest : List (List ℕ)) → AllFit (pieces_of x) → words ≢ texts_of (pieces_of x) ++ rest

  pub no_items : (words : List (List ℕ)) → words ≢ [] → LacksItem words → AreItems pieces_of words → ⊥
  no_items words some lacks ([], fit, is) = some is
  no_items words some lacks (x ∷ items, fit, is) =
      lacks x (texts_of (flat_map pieces_of items)) (fit_parts (pieces_of x) (flat_map pieces_of items) fit).0
      (is ∙ map-append text_of (pieces_of x) (flat_map pieces_of items))

  -- The words begin with these items, and the others are left.
  abbrev pub AreBegun : List X → List (List ℕ) → List (List ℕ) → Type 0
  AreBegun front words left = AllFit (flat_map pieces_of front) × (words ≡ texts_of (flat_map pieces_of front) ++ left)

  -- Where all items have k + 1 pieces.
  module _ (k : ℕ) (wide : (x : X) → length (texts_of (pieces_of x)) ≡ suc k) where
    some_words : (x : X) (rest words : List (List ℕ)) → words ≡ texts_of (pieces_of x) ++ rest → words ≢ []
    some_words x rest words next none = omega (arith, wide x, length-append (texts_of (pieces_of x)) rest, ap length (sym next ∙ none))

    behind : (x : X) (rest : List (List ℕ)) → drop (suc k) (texts_of (pieces_of x) ++ rest) ≡ rest
    behind x rest = ap (λ n. drop n (texts_of (pieces_of x) ++ rest)) (sym (wide x)) ∙ drop-append_seam (texts_of (pieces_of x)) rest

    items_rest : (x : X) (rest words : List (List ℕ)) → words ≡ texts_of (pieces_of x) ++ rest → AreItems pieces_of words → AreItems pieces_of rest
    items_rest x rest words next ([], fit, is) = absurd (some_words x rest words next is)
    items_rest x rest words next (y ∷ items, fit, is) =
        let others = flat_map pieces_of items in
        let same = sym next ∙ is ∙ map-append text_of (pieces_of y) others in
        (items, (fit_parts (pieces_of y) others fit).1, sym (behind x rest) ∙ ap (drop (suc k)) same ∙ behind y (texts_of others))

    -- Words that begin with an item are items exactly where the others are.
    pub items_next : (x : X) (rest words : List (List ℕ)) → AllFit (pieces_of x) → words ≡ texts_of (pieces_of x) ++ rest
        → AreItems pieces_of words ↔ AreItems pieces_of rest
    items_next x rest words fit next = (
      items_rest x rest words next,
      λ items. (
        x ∷ items.0,
        fit_both (pieces_of x) (flat_map pieces_of items.0) fit items.1,
        next ∙ ap (λ ws. texts_of (pieces_of x) ++ ws) items.2 ∙ sym (map-append text_of (pieces_of x) (flat_map pieces_of items.0)),
      ),
    )

    -- The same of words that begin with items.
    pub items_begun : (front : List X) (words left : List (List ℕ)) → AreBegun front words left → AreItems pieces_of words ↔ AreItems pieces_of left
    items_begun [] words left begun = (λ all. subst (AreItems pieces_of) begun.1 all, λ all. subst (AreItems pieces_of) (sym begun.1) all)
    items_begun (x ∷ front) words left begun =
        let others = flat_map pieces_of front in
        let parts = fit_parts (pieces_of x) others begun.0 in
        let first = items_next x (texts_of others ++ left) words parts.0 (begun.1 ∙ texts_of_both (pieces_of x) others left) in
        let behind_first = items_begun front (texts_of others ++ left) left (parts.1, refl) in
        (λ all. behind_first.0 (first.0 all), λ all. first.1 (behind_first.1 all))

    -- The same where one more item is read.
    pub items_left : (front : List X) (x : X) (rest left words : List (List ℕ)) → AreBegun front words left → AllFit (pieces_of x)
        → left ≡ texts_of (pieces_of x) ++ rest → (AreItems pieces_of words ↔ AreItems pieces_of rest) × (words ≢ [])
    items_left front x rest left words begun fit next =
        let before = items_begun front words left begun in
        let after = items_next x rest left fit next in (
          (λ all. after.0 (before.0 all), λ all. before.1 (after.1 all)),
          λ none. omega (
            arith,
            wide x,
            length-append (texts_of (pieces_of x)) rest,
            length-append (texts_of (flat_map pieces_of front)) left,
            ap length
                next,
            ap length (sym begun.1 ∙ none),
          ),
        )
