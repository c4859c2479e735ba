-- What a history holds, and what its calls make of it.
use Rattle.std.specs.Prelude.{ℕ, ◌≡◌, List, [], ◌∷◌, ◌++◌, Some, length, reverse, slice_get}

-- the present version, those before it and those that were undone, the nearest first
pub record Contents (T : Type 0) : Type 0 where
  pub past : List T
  pub present : T
  pub future : List T

module _ {T : Type 0} where
  -- a history, part by part
  abbrev pub contents : List T → T → List T → Contents T
  contents past present future = record { past = past; present = present; future = future }

  -- with a version more, which is the present one: what was undone is forgotten
  abbrev pub recorded : T → Contents T → Contents T
  recorded next h = contents (h.present ∷ h.past) next []

  -- at the version before the present one, if there is one
  abbrev pub back : List T → T → List T → Contents T
  back [] present future = contents [] present future
  back (before ∷ past) present future = contents past before (present ∷ future)

  abbrev pub undone : Contents T → Contents T
  undone h = back h.past h.present h.future

  -- the past for the future
  abbrev pub turned : Contents T → Contents T
  turned h = contents h.future h.present h.past

  -- at the version that was undone last, if there is one
  abbrev pub redone : Contents T → Contents T
  redone h = turned (undone (turned h))

  -- all versions, the oldest first
  abbrev pub versions_of : Contents T → List T
  versions_of h = reverse h.past ++ h.present ∷ h.future

  -- the new history has the versions of the old one, and is at that of this number
  pub record GoesTo (index : ℕ) (old new : Contents T) : Type 0 where
    pub versions : versions_of new ≡ versions_of old
    pub place : length new.past ≡ index
    pub present : slice_get (versions_of old) index ≡ Some new.present
