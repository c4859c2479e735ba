-- The versions of a history, and their numbers.
use Rattle.std.proofs.Common.{◌≡◌, ℕ, ◌+◌, ◌-◌, ◌<◌, ◌≤◌, List, [], ◌∷◌, ◌++◌, Some, length, drop, take, reverse, slice_get, refl, ap, sym, ◌∙◌, arith}
use Rattle.std.proofs.lemmas.Grind.{reverse_onto}
use Rattle.std.proofs.lemmas.List.{append_assoc, drop-append-le, drop_at, length-append, length-drop, length-reverse, length-take-le, reverse-append, reverse-reverse, take-append-drop, take_at}
use Rattle.rpds_history.specs.HistoryContents.{Contents, GoesTo, back, contents, recorded, redone, turned, undone, versions_of}

module _ {T : Type 0} where
  -- the nearest version, on the one side or on the other
  pub one_further : (past : List T) (x : T) (rest : List T) → reverse (x ∷ past) ++ rest ≡ reverse past ++ x ∷ rest
  one_further past x rest =
      ap (λ z. z ++ rest) (reverse_onto past x []) ∙ append_assoc (reverse past) (x ∷ []) rest

  versions_back : (past : List T) (x : T) (future : List T) → versions_of (back past x future) ≡ reverse past ++ x ∷ future
  versions_back [] x future = refl
  versions_back (y ∷ past) x future = sym (one_further past y (x ∷ future))

  versions_forth : (past : List T) (x : T) (future : List T) → versions_of (turned (back future x past)) ≡ reverse past ++ x ∷ future
  versions_forth past x [] = refl
  versions_forth past x (y ∷ future) = one_further past x (y ∷ future)

  pub versions_undone : (h : Contents T) → versions_of (undone h) ≡ versions_of h
  versions_undone h = versions_back h.past h.present h.future

  pub versions_redone : (h : Contents T) → versions_of (redone h) ≡ versions_of h
  versions_redone h = versions_forth h.past h.present h.future

  -- how many there are
  pub length_versions : (h : Contents T) → length (versions_of h) ≡ length h.past + 1 + length h.future
  length_versions h =
      let all = length-append (reverse h.past) (h.present ∷ h.future) in
      let before = length-reverse h.past in
      omega (arith, all, before)

  slice_get_at : (xs : List T) (x : T) (ys : List T) → slice_get (xs ++ x ∷ ys) (length xs) ≡ Some x
  slice_get_at [] x ys = refl
  slice_get_at (z ∷ xs) x ys = slice_get_at xs x ys

  -- the present one has as many before it as its number says
  pub present_at : (h : Contents T) → slice_get (versions_of h) (length h.past) ≡ Some h.present
  present_at h =
      ap (λ n. slice_get (versions_of h) n) (sym (length-reverse h.past)) ∙ slice_get_at (reverse h.past) h.present h.future

  -- one history alone has these versions and this number of them before the present one
  pub same_history : (g h : Contents T) → versions_of g ≡ versions_of h → length g.past ≡ length h.past → g ≡ h
  same_history g h same place =
      let n = length g.past in
      let here : length (reverse g.past) ≡ n = length-reverse g.past in
      let there : length (reverse h.past) ≡ n = length-reverse h.past ∙ sym place in
      let before : reverse g.past ≡ reverse h.past =
      sym (take_at (reverse g.past) (g.present ∷ g.future) n here) ∙ ap (λ vs. take n vs) same
      ∙ take_at (reverse h.past) (h.present ∷ h.future) n there in
      let after : g.present ∷ g.future ≡ h.present ∷ h.future =
      sym (drop_at (reverse g.past) (g.present ∷ g.future) n here) ∙ ap (λ vs. drop n vs) same
      ∙ drop_at (reverse h.past) (h.present ∷ h.future) n there in
      let past : g.past ≡ h.past = sym (reverse-reverse g.past) ∙ ap reverse before ∙ reverse-reverse h.past in
      let present : g.present ≡ h.present = cc in
      let future : g.future ≡ h.future = ap (λ vs. drop 1 vs) after in
      ap (λ p. contents p g.present g.future) past ∙ ap (λ x. contents h.past x g.future) present
      ∙ ap (λ f. contents h.past h.present f) future

  -- the nearest n, turned round, are what is left without the others
  drop_reverse : (n : ℕ) (xs : List T) → drop (length xs - n) (reverse xs) ≡ reverse (take n xs)
  drop_reverse n xs =
      let cut : reverse xs ≡ reverse (drop n xs) ++ reverse (take n xs) =
      ap reverse (sym (take-append-drop n xs)) ∙ reverse-append (take n xs) (drop n xs) in
      ap (λ z. drop (length xs - n) z) cut
      ∙ drop_at (reverse (drop n xs)) (reverse (take n xs)) (length xs - n) (length-reverse (drop n xs) ∙ length-drop n xs)

  -- the oldest go
  pub versions_limited : (n : ℕ) (h : Contents T) → versions_of (record h { past = take n h.past }) ≡ drop (length h.past - n) (versions_of h)
  versions_limited n h =
      let rest = h.present ∷ h.future in
      let few : length h.past - n ≤ length (reverse h.past) = omega (arith, length-reverse h.past) in
      sym (drop-append-le (length h.past - n) (reverse h.past) rest few ∙ ap (λ z. z ++ rest) (drop_reverse n h.past))

  -- what was undone goes, and the next one comes
  pub versions_recorded : (x : T) (h : Contents T) → versions_of (recorded x h) ≡ take (length h.past + 1) (versions_of h) ++ x ∷ []
  versions_recorded x h =
      let front = reverse h.past ++ h.present ∷ [] in
      let turn : reverse (h.present ∷ h.past) ≡ front = reverse_onto h.past h.present [] in
      let whole : front ++ h.future ≡ versions_of h = append_assoc (reverse h.past) (h.present ∷ []) h.future in
      let size : length front ≡ length h.past + 1 =
      omega (arith, length-append (reverse h.past) (h.present ∷ []), length-reverse h.past) in
      let kept : take (length h.past + 1) (versions_of h) ≡ front =
      ap (λ z. take (length h.past + 1) z) (sym whole) ∙ take_at front h.future (length h.past + 1) size in
      ap (λ z. z ++ x ∷ []) (turn ∙ sym kept)

  -- undo and redo take each other back
  pub forth_back : (past : List T) (x : T) (future : List T) → 0 < length past → redone (back past x future) ≡ contents past x future
  forth_back [] x future some = absurd (omega arith)
  forth_back (y ∷ past) x future some = refl

  pub back_forth : (past : List T) (x : T) (future : List T) → 0 < length future → undone (turned (back future x past)) ≡ contents past x future
  back_forth past x [] some = absurd (omega arith)
  back_forth past x (y ∷ future) some = refl

  -- a history h that went back to the oldest version to keep, forgot those before it, and went forth to where it was
  pub limited : (most : ℕ) (h oldest new : Contents T) → most ≤ length h.past → GoesTo (length h.past - most) h oldest → GoesTo most (record oldest { past = [] }) new → new ≡ record h { past = take most h.past }
  limited most h oldest new few back forth =
      let over = length h.past - most in
      let target = record h { past = take most h.past } in
      let left : oldest.present ∷ oldest.future ≡ versions_of target =
      sym (drop_at (reverse oldest.past) (oldest.present ∷ oldest.future) over (length-reverse oldest.past ∙ back.place))
      ∙ ap (λ vs. drop over vs) back.versions ∙ sym (versions_limited most h) in
      same_history new target (forth.versions ∙ left) (forth.place ∙ sym (length-take-le most h.past few))
