-- Map and snapshots stay what their commands make.
use Rattle.std.proofs.Common.{[], ◌∷◌, ◌++◌, ◌≡◌, ◌==◌, ◌≢◌, ◌⊎◌, inl, inr, true, false, cond, Option, Some, None, List, slice_get, length, sym, append_assoc}
use Rattle.std.proofs.Common.{◌∙◌, ap, refl, ℕ, suc, zero, arith, reverse}
use Rattle.std.specs.List.{zip}
use Rattle.std.specs.Prelude.{MatchOption}
use Rattle.std.specs.Option.{option_map}
use Rattle.std.proofs.lemmas.Bool.Decides.{eqb_tells}
use Rattle.std.proofs.lemmas.List.{append-nil, reverse-append}
use Rattle.std.specs.declared.cmp.Ordering.{Ordering}
use Rattle.rpds_tree.specs.Pairs.{put, without, find}
use Rattle.rpds_red_black.proofs.Pairs.{without_absent}
use Rattle.rpds_snapshots.specs.SnapshotContents.{Contents}
use Rattle.rpds_snapshots.specs.SnapshotHistory.{HoldsOwn, KeepsSnapshots, current_after, history, snapshot_after}
use Rattle.rpds_snapshots.specs.Snapshots.{Does, Step}
use Rattle.rpds_snapshots.specs.declared.snapshots.command.SnapCommand.{SnapCommand}
use Rattle.rpds_snapshots.specs.declared.snapshots.command.SnapCommand.TheVariants.{Put, TakeOut, Take, GoBack}
use Rattle.rpds_snapshots.specs.declared.snapshots.reply.SnapReply.{SnapReply}
use Rattle.rpds_snapshots.specs.declared.snapshots.reply.SnapReply.TheVariants.{Done, Taken, Refused}

zip_append : {S T : Type 0} (xs : List S) (ys : List T) (x : S) (y : T) → length xs ≡ length ys → zip (xs ++ x ∷ []) (ys ++ y ∷ []) ≡ zip xs ys ++ (x, y) ∷ []
zip_append [] [] x y e = refl
zip_append (u ∷ xs) (v ∷ ys) x y e = ap (λ r. (u, v) ∷ r) (zip_append xs ys x y (omega (arith, e)))
zip_append [] (v ∷ ys) x y e = absurd (omega (arith, e))
zip_append (u ∷ xs) [] x y e = absurd (omega (arith, e))

history_append : {K V : Type 0} (cs : List (SnapCommand K V)) (ys : List SnapReply) (c : SnapCommand K V) (y : SnapReply) → length cs ≡ length ys
    → history (cs ++ c ∷ []) (ys ++ y ∷ []) ≡ (c, y) ∷ history cs ys
history_append cs ys c y e = ap reverse (zip_append cs ys c y e) ∙ reverse-append (zip cs ys) ((c, y) ∷ [])

slice_get_append_length : {T : Type 0} (xs : List T) (x : T) → slice_get (xs ++ x ∷ []) (length xs) ≡ Some x
slice_get_append_length [] x = refl
slice_get_append_length (y ∷ ys) x = slice_get_append_length ys x

slice_get_append_other : {T : Type 0} (xs : List T) (x : T) (n : ℕ) → length xs ≢ n → slice_get (xs ++ x ∷ []) n ≡ slice_get xs n
slice_get_append_other [] x zero h = absurd (h refl)
slice_get_append_other [] x (suc n) h = refl
slice_get_append_other (y ∷ ys) x zero h = refl
slice_get_append_other (y ∷ ys) x (suc n) h = slice_get_append_other ys x n (λ e. h (ap suc e))

module _ {K V : Type 0} (R : K → K → Ordering) where
  -- the state has the map and the snapshots that the commands leave
  abbrev IsAfter : Contents K V → List (SnapCommand K V × SnapReply) → Contents K V → Type 0
  IsAfter s h mid = (mid.current.entries ≡ current_after R s h) × ((n : ℕ) → option_map (λ m. m.entries) (slice_get mid.taken n) ≡ snapshot_after R s h n)

  after_step : (s mid s' : Contents K V) (h : List (SnapCommand K V × SnapReply)) (c : SnapCommand K V) (y : SnapReply) → IsAfter s h mid
      → Step R mid c y s' → IsAfter s ((c, y) ∷ h) s'
  after_step s mid s' h c (Refused r) a step = rw step.1 a
  after_step s mid s' h (Put k v) (Done b) a step = (step.1.1 ∙ ap (put R (k, v)) a.0, rw step.1.2 a.1)
  after_step s mid s' h (TakeOut k) (Done b) a step = taken_out (find R k mid.current.entries) refl step.1 where
    taken_out : (o : Option (K × V)) → find R k mid.current.entries ≡ o
        → MatchOption o ((Done b ≡ Done false) × (s' ≡ mid)) (λ pair. (Done b ≡ Done true) × (s'.current.entries ≡ without R k mid.current.entries)
        × (s'.taken ≡ mid.taken))
        → IsAfter s ((TakeOut k, Done b) ∷ h) s'
    taken_out None e does = (rw does.1 (sym (without_absent R k mid.current.entries (rw e refl)) ∙ ap (without R k) a.0), rw does.1 a.1)
    taken_out (Some pair) e does = (does.1 ∙ ap (without R k) a.0, rw does.2 a.1)
  after_step s mid s' h Take (Taken i) a step = (rw step.1.1 a.0, snapshots) where
    number : i ≡ length mid.taken
    number = cc step.1.0

    snapshots : (n : ℕ) → option_map (λ m. m.entries) (slice_get s'.taken n) ≡ cond (i == n) (Some (current_after R s h)) (snapshot_after R s h n)
    snapshots n = rw (step.1.2, number) (at (eqb_tells (length mid.taken) n)) where
      at : (((length mid.taken == n) ≡ true) × (length mid.taken ≡ n)) ⊎ (((length mid.taken == n) ≡ false) × (length mid.taken ≢ n))
          → option_map (λ m. m.entries) (slice_get (mid.taken ++ mid.current ∷ []) n) ≡ cond (length mid.taken == n) (Some (current_after R s h))
          (snapshot_after R s h n)
      at (inl e) = rw (e.0, ← e.1, slice_get_append_length mid.taken mid.current) (ap Some a.0)
      at (inr e) = rw (e.0, slice_get_append_other mid.taken mid.current n e.1) (a.1 n)
  after_step s mid s' h (GoBack n) (Done b) a step = (rw (← a.1 n, step.1.1) refl, rw step.1.2 a.1)
  after_step s mid s' h (Put k v) (Taken i) a step = absurd (cc step.1.0)
  after_step s mid s' h (TakeOut k) (Taken i) a step = no (find R k mid.current.entries) step.1 where
    no : (o : Option (K × V)) → MatchOption o ((Taken i ≡ Done false) × (s' ≡ mid)) (λ pair. (Taken i ≡ Done true)
        × (s'.current.entries ≡ without R k mid.current.entries) × (s'.taken ≡ mid.taken)) → IsAfter s ((TakeOut k, Taken i) ∷ h) s'
    no None does = absurd (cc does.0)
    no (Some pair) does = absurd (cc does.0)
  after_step s mid s' h (GoBack n) (Taken i) a step = absurd (cc step.1.0)
  after_step s mid s' h Take (Done b) a step = absurd (cc step.1.0)

  pub own_more : (s mid s' : Contents K V) (cs : List (SnapCommand K V)) (ys : List SnapReply) (c : SnapCommand K V) (y : SnapReply) → length cs ≡ length ys
      → HoldsOwn R s cs ys mid → Step R mid c y s' → HoldsOwn R s (cs ++ c ∷ []) (ys ++ y ∷ []) s'
  own_more s mid s' cs ys c y e own step =
      let after = after_step s mid s' (history cs ys) c y (own.current, own.snapshots) step in
      record {
        current = rw (history_append cs ys c y e) after.0;
        snapshots = λ n. rw (history_append cs ys c y e) (after.1 n);
      }

  -- a step keeps the snapshots that there are
  pub keeps_more : (s mid s' : Contents K V) (c : SnapCommand K V) (y : SnapReply) → KeepsSnapshots s mid → Step R mid c y s' → KeepsSnapshots s s'
  keeps_more s mid s' c y kept step = onwards (added c y step) where
    onwards : KeepsSnapshots mid s' → KeepsSnapshots s s'
    onwards more = (kept.0 ++ more.0, more.1 ∙ ap (λ t. t ++ more.0) kept.1 ∙ append_assoc s.taken kept.0 more.0)

    same : s'.taken ≡ mid.taken → KeepsSnapshots mid s'
    same e = ([], e ∙ sym (append-nil mid.taken))

    taken_out : (k : K) (y : SnapReply) (o : Option (K × V)) → MatchOption o ((y ≡ Done false) × (s' ≡ mid))
        (λ pair. (y ≡ Done true) × (s'.current.entries ≡ without R k mid.current.entries) × (s'.taken ≡ mid.taken)) → KeepsSnapshots mid s'
    taken_out k y None does = same (ap (λ m. m.taken) does.1)
    taken_out k y (Some pair) does = same does.2

    done : (c : SnapCommand K V) (y : SnapReply) → Does R mid c y s' → KeepsSnapshots mid s'
    done (Put k v) y does = same does.2
    done (TakeOut k) y does = taken_out k y (find R k mid.current.entries) does
    done Take y does = (mid.current ∷ [], does.2)
    done (GoBack n) y does = same does.2

    added : (c : SnapCommand K V) (y : SnapReply) → Step R mid c y s' → KeepsSnapshots mid s'
    added c (Refused r) step = same (ap (λ m. m.taken) step.1)
    added c (Done b) step = done c (Done b) step.1
    added c (Taken i) step = done c (Taken i) step.1
