-- What callers need of `differences`.
use Rattle.std.specs.Prelude.{map}
use Rattle.rpds_tree.proofs.Words.{◌≡◌, Bool, true, false, cond, not, ◌||◌, Option, Some, None, List, [], ◌∷◌, is_some, refl, sym, ap, ◌∙◌, IsTotalOrder, filter}
use Rattle.rpds_tree.proofs.Words.{option_map, is_eq, Ordering, Less, Equal, Greater, differ, differences, value_of, IsBelowAll, IsAscending, find, put}
use Rattle.rpds_tree.proofs.Words.{put_all}
use Rattle.rpds_tree.proofs.MapLaws.{has_put}
use Rattle.rpds_tree.proofs.Unions.{ascending_put_all}
use Rattle.rpds_red_black.proofs.Pairs.{ascending_filter, below_filter, below_tied, find_below, find_same}

-- nothing is found where neither of two was
neither : (a b : Bool) → (a || b) ≡ false → (a ≡ false) × (b ≡ false)
neither true b none = absurd (cc)
neither false b none = (refl, none)

nothing : {T : Type 0} (found : Option T) → is_some found ≡ false → found ≡ None
nothing None none = refl
nothing (Some x) none = absurd (cc)

module _ {K V : Type 0} {R : K → K → Ordering} (o : IsTotalOrder R) where
  -- what isn't found in all wasn't there, and wasn't put in
  absent_all : (k : K) (es ps : List (K × V)) → is_some (find R k (put_all R es ps)) ≡ false → (find R k es ≡ None) × (find R k ps ≡ None)
  absent_all k es [] none = (nothing (find R k es) none, refl)
  absent_all k es (p ∷ ps) none =
      let before = absent_all k (put R p es) ps none in
      let here = neither (is_eq (R k p.0)) (is_some (find R k es)) (sym (has_put o p es k) ∙ ap is_some before.0) in
      (nothing (find R k es) here.1, rw here.0 before.1)

  module _ (same : V → V → Bool) (es fs : List (K × V)) where
    abbrev row : K → K × (Option V × Option V)
    row k = (k, (value_of R k es, value_of R k fs))

    abbrev those : List (K × V) → List (K × (Option V × Option V))
    those ps = filter (λ d. differ same d.1.0 d.1.1) (map (λ p. row p.0) ps)

    -- the values of a key, where they differ
    abbrev change : K → Option (Option V × Option V)
    change k = cond (differ same (value_of R k es) (value_of R k fs)) (Some (value_of R k es, value_of R k fs)) None

    alike : (j k : K) → R j k ≡ Equal → change j ≡ change k
    alike j k tied = λ i. (let a = option_map (λ p. p.1) (find_same o j k es tied i) in let b = option_map (λ p. p.1) (find_same o j k fs tied i) in cond
        (differ same a b) (Some (a, b)) None)

    below_rows : (k : K) (ps : List (K × V)) → IsBelowAll R k ps → IsBelowAll R k (map (λ p. row p.0) ps)
    below_rows k [] h = tt
    below_rows k (p ∷ ps) h = (h.0, below_rows k ps h.1)

    ascending_rows : (ps : List (K × V)) → IsAscending R ps → IsAscending R (map (λ p. row p.0) ps)
    ascending_rows [] up = tt
    ascending_rows (p ∷ ps) up = (below_rows p.0 ps up.0, ascending_rows ps up.1)

    pub ascending_differences : IsAscending R es → IsAscending R (differences R same es fs)
    ascending_differences up = ascending_filter R (λ d. differ same d.1.0 d.1.1) (map (λ p. row p.0) (put_all R es fs))
        (ascending_rows (put_all R es fs) (ascending_put_all R o es fs up))

    found_row : (k : K) (ps : List (K × V)) → IsAscending R ps → option_map (λ d. d.1) (find R k (those ps)) ≡ cond (is_some (find R k ps)) (change k) None
    found_row k [] up = refl
    found_row k (p ∷ ps) up = go (found_row k ps up.1) (R k p.0) refl (differ same (value_of R p.0 es) (value_of R p.0 fs)) refl
      where
        go : option_map (λ d. d.1) (find R k (those ps)) ≡ cond (is_some (find R k ps)) (change k) None → (c : Ordering) → R k p.0 ≡ c → (b : Bool)
            → differ same (value_of R p.0 es) (value_of R p.0 fs) ≡ b
            → option_map (λ d. d.1) (find R k (cond b (row p.0 ∷ those ps) (those ps))) ≡ cond (is_some (cond (is_eq c) (Some p) (find R k ps))) (change k) None
        go rest Less is true h = rw is rest
        go rest Less is false h = rest
        go rest Greater is true h = rw is rest
        go rest Greater is false h = rest
        go rest Equal is true h = rw (is, alike k p.0 is, h) refl
        go rest Equal is false h =
            let none = find_below R o k (those ps) (below_filter R (λ d. differ same d.1.0 d.1.1) k (map (λ p. row p.0) ps)
            (below_rows k ps (below_tied R o k p.0 ps is up.0))) in
            rw (alike k p.0 is, h) (ap (option_map (λ d. d.1)) none)

    -- a key is found with its values exactly where these differ
    pub found_differences : (k : K) → IsAscending R es → option_map (λ d. d.1) (find R k (differences R same es fs)) ≡ change k
    found_differences k up = found_row k (put_all R es fs) (ascending_put_all R o es fs up) ∙ go (is_some (find R k (put_all R es fs))) refl
      where
        go : (b : Bool) → is_some (find R k (put_all R es fs)) ≡ b → cond b (change k) None ≡ change k
        go true there = refl
        go false none = let before = absent_all k es fs none in rw (before.0, before.1) refl

    -- a key that isn't found has the same value in both
    pub same_of_none : (k : K) → IsAscending R es → find R k (differences R same es fs) ≡ None → differ same (value_of R k es) (value_of R k fs) ≡ false
    same_of_none k up none = go (value_of R k es, value_of R k fs) (differ same (value_of R k es) (value_of R k fs))
        (sym (found_differences k up) ∙ ap (option_map (λ d. d.1)) none)
      where
        go : (both : Option V × Option V) (b : Bool) → cond b (Some both) None ≡ None → b ≡ false
        go both true h = absurd (cc)
        go both false h = refl

-- from a map to itself nothing changed
module _ {K V : Type 0} (R : K → K → Ordering) (same : V → V → Bool) (itself : (v : V) → same v v ≡ true) where
  own : (found : Option V) → differ same found found ≡ false
  own None = refl
  own (Some v) = ap not (itself v)

  pub no_differences : (es : List (K × V)) → differences R same es es ≡ []
  no_differences es = go (put_all R es es)
    where
      go : (ps : List (K × V)) → filter (λ (d : K × (Option V × Option V)). differ same d.1.0 d.1.1) (map (λ p. (p.0, (value_of R p.0 es, value_of R p.0 es))) ps) ≡ []
      go [] = refl
      go (p ∷ ps) = rw (own (value_of R p.0 es)) (go ps)
