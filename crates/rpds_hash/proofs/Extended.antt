-- A map or a set after an `extend`.
use Rattle.std.proofs.Common.{◌≡◌, ◌++◌, Bool, List, [], ◌∷◌, Option, Result, Ok, Err, OnOk, OnErr, MatchResult, map, reverse, refl, sym, ap, ◌∙◌}
use Rattle.std.proofs.lemmas.List.{map_push, reverse-append}
use Rattle.std.specs.Borrow.{Bor}
use Rattle.std.specs.Iterator.{Drains, Yields}
use Rattle.std.specs.Iterator.Adapters.{copied_source, copied_steps}
use Rattle.std.specs.Map.Iter.{deref_pair}
use Rattle.std.specs.declared.iter.Copied.{Copied}
use Rattle.rpds_core.proofs.Copied.{extended_by_copies}
use Rattle.rpds_hash_trie.specs.HashedMap.{HashedMap, find}
use Rattle.rpds_hash.specs.HashedSet.{HashedSet, find_member}

-- a pair that is copied last is found first
pub copied_last : {K V : Type 0} (xs : List (Bor K × Bor V)) (x : Bor K × Bor V) (es : List (K × V))
    → reverse (map deref_pair (xs ++ x ∷ [])) ++ es ≡ deref_pair x ∷ (reverse (map deref_pair xs) ++ es)
copied_last xs x es = ap (λ l. reverse l ++ es) (map_push deref_pair xs x) ∙ ap (λ l. l ++ es) (reverse-append (map deref_pair xs) (deref_pair x ∷ []))

module _ {K V H : Type 0} (eq : K → K → Bool) (old new : HashedMap K V H) where
  abbrev pub HoldsPairs : List (K × V) → Type 0
  HoldsPairs more = (k : K) → find eq k new.entries ≡ find eq k (reverse more ++ old.entries)

  abbrev pub KeepsHasher : Type 0
  KeepsHasher = new ≡ record old { entries = new.entries }

  pub no_pairs : new ≡ old → HoldsPairs [] × KeepsHasher
  no_pairs is = (
    λ k. ap (λ (m : HashedMap K V H). find eq k m.entries) is,
    is ∙ sym (ap (λ (m : HashedMap K V H). record old { entries = m.entries }) is),
  )

module _ {T H : Type 0} (eq : T → T → Bool) (old new : HashedSet T H) where
  abbrev pub HoldsMembers : List T → Type 0
  HoldsMembers more = (x : T) → find_member eq x new.members ≡ find_member eq x (reverse more ++ old.members)

  abbrev pub KeepsSetHasher : Type 0
  KeepsSetHasher = new ≡ record old { members = new.members }

  pub no_members : new ≡ old → HoldsMembers [] × KeepsSetHasher
  no_members is = (
    λ x. ap (λ (s : HashedSet T H). find_member eq x s.members) is,
    is ∙ sym (ap (λ (s : HashedSet T H). record old { members = s.members }) is),
  )

module _ {S A E : Type 0} (steps : S → Option A → S → Type 0) where
  -- P holds of the items that an iterator gave, and C of whatever they were
  pub extended_whole : (G : S → Type 0) (P : List A → Type 0) (C : Type 0) (s : S) → G s → (r : Result (Unit {0}) E)
      → OnOk r ((it : S) × (more : List A) × (it ≡ s) × Drains steps it more × P more) → OnOk r C → OnErr r (P [] × C)
      → (x : S) × (xs : List A) × G x × (P xs × C) × MatchResult r (λ _. Drains steps x xs) (λ _. (t : S) × Yields steps x xs t)
  extended_whole G P C s g (Ok done) (it, more, is, drained, put) same err = let all : Drains steps s more = rw (sym is) drained in (s, more, g, (put, same), all)
  extended_whole G P C s g (Err e) ok same put = (s, [], g, put, (s, refl))

module _ {S A E : Type 0} (steps : S → Option (Bor A) → S → Type 0) where
  -- the same of the copies of what an iterator of references gave
  pub extended_by_copies_of : (G : S → Type 0) (P : List A → Type 0) (C : Type 0) (s : Copied S) (source : S) → copied_source s ≡ source → G source
      → (r : Result (Unit {0}) E) → OnOk r ((it : Copied S) × (more : List A) × (it ≡ s) × Drains (copied_steps steps) it more × P more) → OnOk r C
      → OnErr r (P [] × C)
      → (x : S) × (xs : List (Bor A)) × G x × (P (map (λ x. x.now) xs) × C) × MatchResult r (λ _. Drains steps x xs) (λ _. (t : S) × Yields steps x xs t)
  extended_by_copies_of G P C s source from g (Ok done) (it, more, is, drained, put) same err =
      extended_by_copies steps {E = E} G (λ more. P more × C) s source from g (Ok done) (it, more, is, drained, (put, same)) err
  extended_by_copies_of G P C s source from g (Err e) ok same put = extended_by_copies steps {E = E} G (λ more. P more × C) s source from g (Err e) ok put
