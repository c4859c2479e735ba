-- Changes at touched keys.
use Rattle.std.proofs.Common.{◌≡◌, ◌≢◌, Bool, true, false, not, cond, Option, Some, None, is_some, List, [], ◌∷◌, filter, map, refl, sym, ap, subst, ◌∙◌}
use Rattle.std.proofs.lemmas.Cmp.{alike_right, tied_back}
use Rattle.std.specs.Cmp.{IsEquivalence, IsTotalOrder}
use Rattle.std.specs.List.{cons_option}
use Rattle.std.specs.Option.{option_map}
use Rattle.std.specs.Ordering.{is_eq}
use Rattle.std.specs.declared.cmp.Ordering.{Ordering}
use Rattle.std.specs.declared.cmp.Ordering.TheVariants.{Less, Equal, Greater}
use Rattle.rpds_red_black.proofs.Cutting.{ascending_unique, none_at}
use Rattle.rpds_red_black.proofs.Pairs.{below_filter, below_tied, find_below, find_same, find_tied}
use Rattle.rpds_red_black.specs.Cuts.{pick}
use Rattle.rpds_red_black.specs.Pairs.{IsAscending, IsBelowAll, find, put_all}
use Rattle.rpds_tree.proofs.DifferenceLaws.{ascending_differences}
use Rattle.rpds_tree.proofs.Unions.{ascending_put_all, find_put_all, of_union}
use Rattle.rpds_tree.specs.Differences.{differ, differences, value_of}
use Rattle.rpds_branch.specs.Branches.{SparesOthers, change_at, changes_at, fate}

turned : {X : Type 0} (b : Bool) (x : Option X) → cond (not b) x None ≡ cond b None x
turned true x = refl
turned false x = refl

module _ {K V : Type 0} {R : K → K → Ordering} (o : IsTotalOrder R) (same : V → V → Bool) (es fs : List (K × V)) where
  -- equal keys have one fate
  alike : (j k : K) → R j k ≡ Equal → change_at R same es fs j ≡ change_at R same es fs k
  alike j k is = λ i. fate same (find_same o j k es is i) (find_same o j k fs is i)

  abbrev IsTied : K → Option (K × V) → Type 0
  IsTied k found = (p : K × V) → found ≡ Some p → R k p.0 ≡ Equal

  fate_tied : (k : K) (a b : Option (K × V)) (d : K × (Option V × Option V)) → IsTied k a → IsTied k b → fate same a b ≡ Some d → R k d.0 ≡ Equal
  fate_tied k None None d at bt is = absurd (cc)
  fate_tied k (Some p) None d at bt is = (let e : (p.0, (Some p.1, None)) ≡ d = cc in subst (λ (z : K × (Option V × Option V)). R k z.0 ≡ Equal) e (at p refl))
  fate_tied k None (Some q) d at bt is = (let e : (q.0, (None, Some q.1)) ≡ d = cc in subst (λ (z : K × (Option V × Option V)). R k z.0 ≡ Equal) e (bt q refl))
  fate_tied k (Some p) (Some q) d at bt is = go (same p.1 q.1) is
    where
      go : (b : Bool) → cond b None (Some (q.0, (Some p.1, Some q.1))) ≡ Some d → R k d.0 ≡ Equal
      go true is = absurd (cc)
      go false is = (let e : (q.0, (Some p.1, Some q.1)) ≡ d = cc in subst (λ (z : K × (Option V × Option V)). R k z.0 ≡ Equal) e (bt q refl))

  change_tied : (k : K) (d : K × (Option V × Option V)) → change_at R same es fs k ≡ Some d → R k d.0 ≡ Equal
  change_tied k d is = fate_tied k (find R k es) (find R k fs) d (find_tied o k es) (find_tied o k fs) is

  -- the changes at ascending keys ascend
  below_changes : (k : K) (ps : List (K × V)) → IsBelowAll R k ps → IsBelowAll R k (changes_at R same es fs ps)
  below_changes k [] h = tt
  below_changes k (p ∷ ps) h = go (below_changes k ps h.1) (change_at R same es fs p.0) refl
    where
      go : IsBelowAll R k (changes_at R same es fs ps) → (m : Option (K × (Option V × Option V))) → change_at R same es fs p.0 ≡ m
          → IsBelowAll R k (cons_option m (changes_at R same es fs ps))
      go rest None is = rest
      go rest (Some d) is = (sym (alike_right o p.0 d.0 k (change_tied p.0 d is)) ∙ h.0, rest)

  ascending_changes : (ps : List (K × V)) → IsAscending R ps → IsAscending R (changes_at R same es fs ps)
  ascending_changes [] up = tt
  ascending_changes (p ∷ ps) up = go (ascending_changes ps up.1) (change_at R same es fs p.0) refl
    where
      go : IsAscending R (changes_at R same es fs ps) → (m : Option (K × (Option V × Option V))) → change_at R same es fs p.0 ≡ m
          → IsAscending R (cons_option m (changes_at R same es fs ps))
      go rest None is = rest
      go rest (Some d) is = (
        below_tied R o d.0 p.0 (changes_at R same es fs ps) (tied_back o p.0 d.0 (change_tied p.0 d is)) (below_changes p.0 ps up.0),
        rest,
      )

  -- a key is found among them as its fate says
  abbrev FoundIn : K → List (K × V) → List (K × (Option V × Option V)) → Type 0
  FoundIn k ps ds = find R k ds ≡ cond (is_some (find R k ps)) (change_at R same es fs k) None

  found_changes : (k : K) (ps : List (K × V)) → IsAscending R ps → FoundIn k ps (changes_at R same es fs ps)
  found_changes k [] up = refl
  found_changes k (p ∷ ps) up = go (found_changes k ps up.1) (R k p.0) refl (change_at R same es fs p.0) refl
    where
      apart : (d : K × (Option V × Option V)) → change_at R same es fs p.0 ≡ Some d → R k p.0 ≢ Equal → (c : Ordering) → R k d.0 ≡ c
          → cond (is_eq c) (Some d) (find R k (changes_at R same es fs ps)) ≡ find R k (changes_at R same es fs ps)
      apart d is other Less e = refl
      apart d is other Greater e = refl
      apart d is other Equal e = absurd (other (alike_right o p.0 d.0 k (change_tied p.0 d is) ∙ e))

      rest : FoundIn k ps (changes_at R same es fs ps) → R k p.0 ≢ Equal → (m : Option (K × (Option V × Option V))) → change_at R same es fs p.0 ≡ m
          → FoundIn k ps (cons_option m (changes_at R same es fs ps))
      rest before other None is = before
      rest before other (Some d) is = apart d is other (R k d.0) refl ∙ before

      here : FoundIn k ps (changes_at R same es fs ps) → R k p.0 ≡ Equal → (m : Option (K × (Option V × Option V))) → change_at R same es fs p.0 ≡ m
          → find R k (cons_option m (changes_at R same es fs ps)) ≡ m
      here before tied None is = before ∙ rw (none_at R o k p.0 ps tied up.0) refl
      here before tied (Some d) is = rw (sym (alike_right o p.0 d.0 k (change_tied p.0 d is)) ∙ tied) refl

      go : FoundIn k ps (changes_at R same es fs ps) → (c : Ordering) → R k p.0 ≡ c → (m : Option (K × (Option V × Option V)))
          → change_at R same es fs p.0 ≡ m
          → find R k (cons_option m (changes_at R same es fs ps)) ≡ cond (is_some (cond (is_eq c) (Some p) (find R k ps))) (change_at R same es fs k) None
      go before Less e m is = rest before (λ h. cc (h, e)) m is
      go before Greater e m is = rest before (λ h. cc (h, e)) m is
      go before Equal e m is = here before e m is ∙ sym is ∙ sym (alike k p.0 e)

  -- the rows that `differences` keeps
  abbrev row : K → K × (Option V × Option V)
  row k = (k, (value_of R k es, value_of R k fs))

  abbrev those : List (K × V) → List (K × (Option V × Option V))
  those ps = filter (λ d. differ same d.1.0 d.1.1) (map (λ p. row p.0) ps)

  -- a pair that is found, with both values, where these differ
  abbrev kept : Option (K × V) → Option V → Option V → Option (K × (Option V × Option V))
  kept None a b = None
  kept (Some p) a b = cond (differ same a b) (Some (p.0, (a, b))) None

  below_rows : (k : K) (ps : List (K × V)) → IsBelowAll R k ps → IsBelowAll R k (map (λ p. row p.0) ps)
  below_rows k [] h = tt
  below_rows k (p ∷ ps) h = (h.0, below_rows k ps h.1)

  values_alike : (j k : K) → R j k ≡ Equal → (value_of R j es ≡ value_of R k es) × (value_of R j fs ≡ value_of R k fs)
  values_alike j k is = (ap (option_map (λ p. p.1)) (find_same o j k es is), ap (option_map (λ p. p.1)) (find_same o j k fs is))

  found_rows : (k : K) (ps : List (K × V)) → IsAscending R ps → find R k (those ps) ≡ kept (find R k ps) (value_of R k es) (value_of R k fs)
  found_rows k [] up = refl
  found_rows k (p ∷ ps) up = go (found_rows k ps up.1) (R k p.0) refl (differ same (value_of R p.0 es) (value_of R p.0 fs)) refl
    where
      go : find R k (those ps) ≡ kept (find R k ps) (value_of R k es) (value_of R k fs) → (c : Ordering) → R k p.0 ≡ c → (b : Bool)
          → differ same (value_of R p.0 es) (value_of R p.0 fs) ≡ b
          → find R k (cond b (row p.0 ∷ those ps) (those ps)) ≡ kept (cond (is_eq c) (Some p) (find R k ps)) (value_of R k es) (value_of R k fs)
      go rest Less is true h = rw is rest
      go rest Less is false h = rest
      go rest Greater is true h = rw is rest
      go rest Greater is false h = rest
      go rest Equal is true h = (let both = values_alike k p.0 is in rw (is, both.0, both.1, h) refl)
      go rest Equal is false h =
          let both = values_alike k p.0 is in
          let none = find_below R o k (those ps) (below_filter R (λ d. differ same d.1.0 d.1.1) k (map (λ p. row p.0) ps)
          (below_rows k ps (below_tied R o k p.0 ps is up.0))) in
          rw (both.0, both.1, h) none

  kept_fate : (a b : Option (K × V)) → kept (pick of_union b a) (option_map (λ p. p.1) a) (option_map (λ p. p.1) b) ≡ fate same a b
  kept_fate None None = refl
  kept_fate (Some p) None = refl
  kept_fate None (Some q) = refl
  kept_fate (Some p) (Some q) = turned (same p.1 q.1) (Some (q.0, (Some p.1, Some q.1)))

  found_differences : (k : K) → IsAscending R es → IsAscending R fs → find R k (differences R same es fs) ≡ change_at R same es fs k
  found_differences k up up' = found_rows k (put_all R es fs) (ascending_put_all R o es fs up)
      ∙ ap (λ found. kept found (value_of R k es) (value_of R k fs)) (find_put_all R o k es fs up') ∙ kept_fate (find R k es) (find R k fs)

  unchanged : IsEquivalence same → (a : Option (K × V)) → fate same a a ≡ None
  unchanged e None = refl
  unchanged e (Some p) = rw (e.refl p.1) refl

  pub changes_are : IsEquivalence same → (touched : List (K × V)) → IsAscending R touched → IsAscending R es → IsAscending R fs
      → SparesOthers R touched es fs → changes_at R same es fs touched ≡ differences R same es fs
  changes_are e touched up up_es up_fs spares = ascending_unique R o (changes_at R same es fs touched) (differences R same es fs)
      (ascending_changes touched up) (ascending_differences o same es fs up_es)
      (λ k. found_changes k touched up ∙ all k (find R k touched) refl ∙ sym (found_differences k up_es up_fs))
    where
      all : (k : K) (found : Option (K × V)) → find R k touched ≡ found → cond (is_some found) (change_at R same es fs k) None ≡ change_at R same es fs k
      all k (Some p) is = refl
      all k None is = sym (ap (fate same (find R k es)) (spares k is) ∙ unchanged e (find R k es))
