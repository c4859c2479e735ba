-- The differences of two ascending lists, step by step.
use Rattle.std.specs.Prelude.{map}
use Rattle.rpds_tree.proofs.Words.{◌≡◌, Bool, true, false, not, Option, Some, None, List, [], ◌∷◌, slice_get, refl, sym, ap, subst, ◌∙◌, tied_back}
use Rattle.rpds_tree.proofs.Words.{tied_itself, Ordering, Less, Equal, Greater, IsTotalOrder, filter, option_map, keys_of, is_gt, is_lt, ordering_reverse}
use Rattle.rpds_tree.proofs.Words.{differ, differences, value_of, IsBelowAll, IsAscending, find, put, put_all}
use Rattle.rpds_red_black.proofs.Look.{below_of, beyond}
use Rattle.rpds_red_black.proofs.Pairs.{below_put, below_through, below_tied, find_below}

level : (c : Ordering) → is_lt c ≡ false → is_gt c ≡ false → c ≡ Equal
level Less h g = absurd (cc)
level Equal h g = refl
level Greater h g = absurd (cc)

-- whether two values are equal, from whether they aren't
pub like : (b : Bool) → not b ≡ false → b ≡ true
like true h = refl
like false h = absurd (cc)

pub unlike : (b : Bool) → not b ≡ true → b ≡ false
unlike true h = absurd (cc)
unlike false h = refl

over : {K : Type 0} {R : K → K → Ordering} (o : IsTotalOrder R) (k j : K) → R k j ≡ Less → R j k ≡ Greater
over o k j h = o.antisymm j k ∙ ap ordering_reverse h

-- the first key of a list
module _ {K V : Type 0} where
  pub head_key : (es : List (K × V)) (x : K × V) (xs : List (K × V)) (k : K) → es ≡ x ∷ xs → Some k ≡ slice_get (keys_of es) 0 → k ≡ x.0
  head_key es x xs k is at = (let same : Some k ≡ Some x.0 = at ∙ ap (λ z. slice_get (keys_of z) 0) is in cc)

  no_key : (es : List (K × V)) → None ≡ slice_get (keys_of es) 0 → es ≡ []
  no_key [] none = refl
  no_key (e ∷ es) none = absurd (cc)

module _ {K V : Type 0} {R : K → K → Ordering} (o : IsTotalOrder R) where
  below_head : (k b : K) (es : List (K × V)) → IsAscending R es → Some b ≡ slice_get (keys_of es) 0 → R k b ≡ Less → IsBelowAll R k es
  below_head k b [] up at less = absurd (cc)
  below_head k b (e ∷ es) up at less =
      let before = subst (λ j. R k j ≡ Less) (head_key (e ∷ es) e es b refl at) less in
      (before, below_through R o k e.0 es before up.0)

  -- a pair below all others stands in front
  put_front : (x : K × V) (es : List (K × V)) → IsBelowAll R x.0 es → put R x es ≡ x ∷ es
  put_front x [] h = refl
  put_front x (e ∷ es) h = rw h.0 refl

  stays_front : (x : K × V) (es ps : List (K × V)) → IsBelowAll R x.0 ps → put_all R (x ∷ es) ps ≡ x ∷ put_all R es ps
  stays_front x es [] h = refl
  stays_front x es (p ∷ ps) h = rw (over o x.0 p.0 h.0) (stays_front x (put R p es) ps h.1)

  below_all : (k : K) (es ps : List (K × V)) → IsBelowAll R k es → IsBelowAll R k ps → IsBelowAll R k (put_all R es ps)
  below_all k es [] h b = h
  below_all k es (p ∷ ps) h b = below_all k (put R p es) ps (below_put R o k p es b.0 h) b.1

  find_behind : (x : K × V) (es : List (K × V)) (j : K) → R x.0 j ≡ Less → find R j (x ∷ es) ≡ find R j es
  find_behind x es j h = rw (over o x.0 j h) refl

  find_front : (x : K × V) (es : List (K × V)) (k : K) → R k x.0 ≡ Equal → find R k (x ∷ es) ≡ Some x
  find_front x es k h = rw h refl

  agree : {T : Type 0} (f g : K → T) (k : K) (ps : List (K × V)) → ((j : K) → R k j ≡ Less → f j ≡ g j) → IsBelowAll R k ps
      → map (λ p. f p.0) ps ≡ map (λ p. g p.0) ps
  agree f g k [] same h = refl
  agree f g k (p ∷ ps) same h = λ i. same p.0 h.0 i ∷ agree f g k ps same h.1 i

  module _ (same : V → V → Bool) where
    abbrev row : List (K × V) → List (K × V) → K → K × (Option V × Option V)
    row es fs k = (k, (value_of R k es, value_of R k fs))

    abbrev those : List (K × (Option V × Option V)) → List (K × (Option V × Option V))
    those ds = filter (λ d. differ same d.1.0 d.1.1) ds

    -- the key x is below all others
    module _ (x : K × V) (es fs es' fs' : List (K × V)) (d : K × (Option V × Option V)) (front : put_all R es' fs' ≡ x ∷ put_all R es fs)
        (h : IsBelowAll R x.0 es) (b : IsBelowAll R x.0 fs) (first : row es' fs' x.0 ≡ d) (rest : (j : K) → R x.0 j ≡ Less → row es' fs' j ≡ row es fs j) where
      from_front : differences R same es' fs' ≡ those (d ∷ map (λ p. row es fs p.0) (put_all R es fs))
      from_front = ap (λ z. those (map (λ p. row es' fs' p.0) z)) front ∙ (λ i. those (first i ∷ agree (row es' fs') (row es fs) x.0 (put_all R es fs) rest
          (below_all x.0 es fs h b) i))

    pub removed : (x : K × V) (es fs : List (K × V)) → IsBelowAll R x.0 es → IsBelowAll R x.0 fs → differences R same (x ∷ es) fs ≡ (x.0, (Some x.1, None))
        ∷ differences R same es fs
    removed x es fs h b =
        from_front x es fs (x ∷ es) fs (x.0, (Some x.1, None)) (stays_front x es fs b) h b
        (λ i. (x.0, (option_map (λ p. p.1) (find_front x es x.0 (tied_itself o x.0) i), option_map (λ p. p.1) (find_below R o x.0 fs b i))))
        (λ j less i. (j, (option_map (λ p. p.1) (find_behind x es j less i), value_of R j fs)))

    pub added : (y : K × V) (es fs : List (K × V)) → IsBelowAll R y.0 es → IsBelowAll R y.0 fs → differences R same es (y ∷ fs) ≡ (y.0, (None, Some y.1))
        ∷ differences R same es fs
    added y es fs h b =
        from_front y es fs es (y ∷ fs) (y.0, (None, Some y.1)) (ap (λ z. put_all R z fs) (put_front y es h) ∙ stays_front y es fs b) h b
        (λ i. (y.0, (option_map (λ p. p.1) (find_below R o y.0 es h i), option_map (λ p. p.1) (find_front y fs y.0 (tied_itself o y.0) i))))
        (λ j less i. (j, (value_of R j es, option_map (λ p. p.1) (find_behind y fs j less i))))

    -- one key in both
    both : (x y : K × V) (es fs : List (K × V)) → R x.0 y.0 ≡ Equal → IsBelowAll R x.0 es → IsBelowAll R y.0 fs
        → differences R same (x ∷ es) (y ∷ fs) ≡ those ((y.0, (Some x.1, Some y.1)) ∷ map (λ p. row es fs p.0) (put_all R es fs))
    both x y es fs tied h b =
        let back = tied_back o x.0 y.0 tied in
        let placed : put R y (x ∷ es) ≡ y ∷ es = rw back refl in
        from_front y es fs (x ∷ es) (y ∷ fs) (y.0, (Some x.1, Some y.1)) (ap (λ z. put_all R z fs) placed ∙ stays_front y es fs b)
        (below_tied R o y.0 x.0 es back h) b
        (λ i. (y.0, (option_map (λ p. p.1) (find_front x es y.0 back i), option_map (λ p. p.1) (find_front y fs y.0 (tied_itself o y.0) i))))
        (λ j less i. (j, (option_map (λ p. p.1) (find_behind x es j (o.congr x.0 y.0 j tied ∙ less) i), option_map (λ p. p.1) (find_behind y fs j less i))))

    pub changed : (x y : K × V) (es fs : List (K × V)) → R x.0 y.0 ≡ Equal → IsBelowAll R x.0 es → IsBelowAll R y.0 fs → same x.1 y.1 ≡ false
        → differences R same (x ∷ es) (y ∷ fs) ≡ (y.0, (Some x.1, Some y.1)) ∷ differences R same es fs
    changed x y es fs tied h b other = both x y es fs tied h b ∙ rw other refl

    pub unchanged : (x y : K × V) (es fs : List (K × V)) → R x.0 y.0 ≡ Equal → IsBelowAll R x.0 es → IsBelowAll R y.0 fs → same x.1 y.1 ≡ true
        → differences R same (x ∷ es) (y ∷ fs) ≡ differences R same es fs
    unchanged x y es fs tied h b alike = both x y es fs tied h b ∙ rw alike refl

    -- two walks that go on at the lesser key, and at both where their keys are equal
    module _ (es fs : List (K × V)) (up : IsAscending R es) (ups : IsAscending R fs) where
      -- the newer one is at its end
      pub last_removed : (x : K × V) (xs : List (K × V)) → es ≡ x ∷ xs → None ≡ slice_get (keys_of fs) 0
          → differences R same es fs ≡ (x.0, (Some x.1, None)) ∷ differences R same xs fs
      last_removed x xs is none =
          ap (λ z. differences R same z fs) is ∙ removed x xs fs (subst (IsAscending R) is up).0 (subst (IsBelowAll R x.0) (sym (no_key fs none)) tt)

      pub first_removed : (x : K × V) (xs : List (K × V)) (a b : K) → es ≡ x ∷ xs → Some a ≡ slice_get (keys_of es) 0 → Some b ≡ slice_get (keys_of fs) 0
          → is_lt (R a b) ≡ true → differences R same es fs ≡ (x.0, (Some x.1, None)) ∷ differences R same xs fs
      first_removed x xs a b is ka kb less =
          let at = head_key es x xs a is ka in
          let before = subst (λ k. R k b ≡ Less) at (below_of (R a b) less) in
          ap (λ z. differences R same z fs) is ∙ removed x xs fs (subst (IsAscending R) is up).0 (below_head x.0 b fs ups kb before)

      -- the older one is at its end
      pub last_added : (y : K × V) (ys : List (K × V)) → fs ≡ y ∷ ys → None ≡ slice_get (keys_of es) 0
          → differences R same es fs ≡ (y.0, (None, Some y.1)) ∷ differences R same es ys
      last_added y ys is none =
          ap (λ z. differences R same es z) is ∙ added y es ys (subst (IsBelowAll R y.0) (sym (no_key es none)) tt) (subst (IsAscending R) is ups).0

      pub first_added : (y : K × V) (ys : List (K × V)) (a b : K) → fs ≡ y ∷ ys → Some a ≡ slice_get (keys_of es) 0 → Some b ≡ slice_get (keys_of fs) 0
          → is_gt (R a b) ≡ true → differences R same es fs ≡ (y.0, (None, Some y.1)) ∷ differences R same es ys
      first_added y ys a b is ka kb more =
          let at = head_key fs y ys b is kb in
          let before = subst (λ k. R k a ≡ Less) at (o.antisymm b a ∙ ap ordering_reverse (beyond (R a b) more)) in
          ap (λ z. differences R same es z) is ∙ added y es ys (below_head y.0 a es up ka before) (subst (IsAscending R) is ups).0

      module _ (x : K × V) (xs : List (K × V)) (y : K × V) (ys : List (K × V)) (a b : K) (is : es ≡ x ∷ xs) (iss : fs ≡ y ∷ ys)
          (ka : Some a ≡ slice_get (keys_of es) 0) (kb : Some b ≡ slice_get (keys_of fs) 0) (not_less : is_lt (R a b) ≡ false)
          (not_more : is_gt (R a b) ≡ false) where
        meet : R x.0 y.0 ≡ Equal
        meet = subst (λ k. R x.0 k ≡ Equal) (head_key fs y ys b iss kb) (subst (λ k. R k b ≡ Equal) (head_key es x xs a is ka)
            (level (R a b) not_less not_more))

        both_there : differences R same es fs ≡ differences R same (x ∷ xs) (y ∷ ys)
        both_there = λ i. differences R same (is i) (iss i)

        pub both_changed : same x.1 y.1 ≡ false → differences R same es fs ≡ (y.0, (Some x.1, Some y.1)) ∷ differences R same xs ys
        both_changed other = both_there ∙ changed x y xs ys meet (subst (IsAscending R) is up).0 (subst (IsAscending R) iss ups).0 other

        pub both_same : same x.1 y.1 ≡ true → differences R same es fs ≡ differences R same xs ys
        both_same alike = both_there ∙ unchanged x y xs ys meet (subst (IsAscending R) is up).0 (subst (IsAscending R) iss ups).0 alike

    pub none_left : (es fs : List (K × V)) → None ≡ slice_get (keys_of es) 0 → None ≡ slice_get (keys_of fs) 0 → differences R same es fs ≡ []
    none_left es fs none nones = λ i. differences R same (no_key es none i) (no_key fs nones i)
