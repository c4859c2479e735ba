-- `NestVector` as a type that may hold the type that holds it.
--     the_former, the_weighed, the_empty, the_items      its value is the list of its items
--     levels, items_of      so many levels as a former, and their items
--     natural, keeps        the items of levels go along `map`, and show what the levels hold, each once and in order
--     level_places          levels own and lend what their items own and lend
use mathlib.Core.Path.{◌≡◌, refl, sym, ap, ◌∙◌}
use mathlib.Core.List.{List, [], ◌∷◌, ◌++◌, map}
use mathlib.Core.Former.{Former, this, list, via, pair, const, children, none_left}
use native.Mathlib.Nat.{ℕ_set}
use native.Mathlib.Omega.{arith}
use native.Mathlib.Bridge.{le_prop}
use Prim.Native.Nat.{ℕ, zero, suc}
use lib.ListN.{length, length-map}
use mathlib.Core.List.{append_assoc}
use base.Stored.{code_map, gnil}
use base.Fml.{ftrue}
use denote.Memory.{part_of}
use denote.RawPtr.{Ptr}
use denote.Sharing.{nothing}
use denote.RattleType.{RattleType}
use denote.HoleLaws.{Alike}
use denote.HolePlaces.{Recodes, struct_places, laid, one_value}
use denote.Hole.Carrier.{listed, list-listed}
use denote.Hole.Fix.{over}
use denote.Param.Weighed.{Weighed, w_list}
use denote.Model.Placed.{view_places, Held}
use Rattle.std.specs.declared.alloc.Allocator.{Ghosts}
use Rattle.std.specs.declared.rc.Rc.{Rc}
use Rattle.std.specs.contracts.rc.Rc as rc
use Rattle.std.specs.contracts.vec.Vec as vecs
use Rattle.std.specs.formers.vec.Vec as vec
use Rattle.rpds_core.specs.Rows.{behind}
use Rattle.rpds_nest.specs.Level.{Row, contents, flat, AllFull, level_items, IsRow, IsLevel}
use Rattle.rpds_nest.specs.declared.nest_vector.level.Level.{Level}
use Rattle.rpds_nest.specs.contracts.nest_vector.level.Level as L
use Rattle.rpds_nest.specs.declared.nest_vector.NestVector.TheInside.{Inside}
use Rattle.rpds_nest.specs.declared.nest_vector.NestVector.TheView.{view, invariant}
use Rattle.rpds_nest.specs.contracts.nest_vector.NestVector as C
use Rattle.rpds_nest.specs.contracts.nest_vector.NestVector.TheInside as I

abbrev pub the_former : Former {0} → Type 0 → Former {0}
the_former g A = list g

abbrev pub the_weighed : {g : Former {0}} → Weighed g → (A : Type 0) → Weighed (the_former g A)
the_weighed w A = w_list w

pub the_empty : (A : Type 0) → A → List ⊥
the_empty A a = []

abbrev pub the_items : (A X : Type 0) → List X → List X
the_items A X d = d

pub the_items_listed : (A X : Type 0) (d : List X) → listed _ (children (the_former this A) X d) ≡ the_items A X d
the_items_listed A X d = list-listed X d

abbrev on_rc : {X Y A : Type 0} → (X → Y) → Rc X A → Rc Y A
on_rc h r = record { ptr = r.ptr; value = h r.value }

abbrev on_row : {X Y A : Type 0} → (X → Y) → Row X A → Row Y A
on_row h = vec.mapped (on_rc h)

module _ (A : Type 0) where
  abbrev pointer : Former {0} → Former {0}
  pointer g = via (pair (const Ptr) g) (λ X. Rc (g.Of X) A) (λ X a. (a.ptr, a.value)) (λ X v. record { ptr = v.0; value = v.1 }) (λ X a. refl) (λ X v. refl)

  abbrev row : Former {0} → Former {0}
  row g = vec.the_former (pointer g) A

  abbrev levels : ℕ → Former {0} → Former {0}
  levels zero g = row g
  levels (suc n) g = via (pair (levels n (row g)) (row g)) (λ X. Level ((levels n (row g)).Of X) (g.Of X) A) (λ X l. (l.rows, l.tail)) (λ X v. record { rows = v.0; tail = v.1 }) (λ X l. refl) (λ X v. refl)

  abbrev items_of : (n : ℕ) (g : Former {0}) (X : Type 0) → (levels n g).Of X → List (g.Of X)
  items_of zero g X l = contents l
  items_of (suc n) g X l = level_items (items_of n (row g) X) l

  abbrev Sound : (n : ℕ) (g : Former {0}) (X : Type 0) → (levels n g).Of X → Type 0
  Sound zero g X l = IsRow l
  Sound (suc n) g X l = IsLevel (items_of n (row g) X) (Sound n (row g) X) l

  -- ---- `map`
  contents_natural : {X Y : Type 0} (h : X → Y) (xs : List (Rc X A)) (ys : List X) (zs : List Y) → zs ≡ map h ys
      → behind (map (on_rc h) xs) ++ zs ≡ map h (behind xs ++ ys)
  contents_natural h [] ys zs e = e
  contents_natural h (x ∷ xs) ys zs e = ap (λ l. h x.value ∷ l) (contents_natural h xs ys zs e)

  contents_along : {X Y : Type 0} (h : X → Y) (xs : List (Rc X A)) → behind (map (on_rc h) xs) ≡ map h (behind xs)
  contents_along h [] = refl
  contents_along h (x ∷ xs) = ap (λ l. h x.value ∷ l) (contents_along h xs)

  flat_natural : {X Y : Type 0} (h : X → Y) (rows : List (Row X A)) (ys : List X) (zs : List Y) → zs ≡ map h ys → flat (map (on_row h) rows) ++ zs ≡ map h (flat rows ++ ys)
  flat_natural h [] ys zs e = e
  flat_natural h (r ∷ rows) ys zs e =
      append_assoc (contents (on_row h r)) (flat (map (on_row h) rows)) zs
      ∙ contents_natural h r.items (flat rows ++ ys) _ (flat_natural h rows ys zs e)
      ∙ ap (map h) (sym (append_assoc (contents r) (flat rows) ys))

  natural : (n : ℕ) (g : Former {0}) (X Y : Type 0) (h : X → Y) (l : (levels n g).Of X) → items_of n g Y ((levels n g).map X Y h l) ≡ map (g.map X Y h) (items_of n g X l)
  natural zero g X Y h l = contents_along (g.map X Y h) l.items
  natural (suc n) g X Y h l =
      ap (λ rows. flat rows ++ contents (on_row (g.map X Y h) l.tail)) (natural n (row g) X Y h l.rows)
      ∙ flat_natural (g.map X Y h) (items_of n (row g) X l.rows) (contents l.tail) _ (contents_along (g.map X Y h) l.tail.items)

  full_prop : {X : Type 0} (rows : List (Row X A)) → IsProp (AllFull rows)
  full_prop [] p q = refl
  full_prop (r ∷ rows) p q = λ i. (ℕ_set _ _ p.0 q.0 i, full_prop rows p.1 q.1 i)

  sound_prop : (n : ℕ) (g : Former {0}) (X : Type 0) (l : (levels n g).Of X) → IsProp (Sound n g X l)
  sound_prop zero g X l p q = refl
  sound_prop (suc n) g X l p q = λ i. record {
    sound = sound_prop n (row g) X l.rows p.sound q.sound i;
    full = full_prop (items_of n (row g) X l.rows) p.full q.full i;
    few = le_prop p.few q.few i;
  }

  same_length : {X Y : Type 0} (h : X → Y) (r : Row X A) → length (contents (on_row h r)) ≡ length (contents r)
  same_length h r = ap length (contents_along h r.items) ∙ length-map (contents r) h

  full_to : {X Y : Type 0} (h : X → Y) (rows : List (Row X A)) → AllFull rows → AllFull (map (on_row h) rows)
  full_to h [] p = tt
  full_to h (r ∷ rows) p = (same_length h r ∙ p.0, full_to h rows p.1)

  full_from : {X Y : Type 0} (h : X → Y) (rows : List (Row X A)) → AllFull (map (on_row h) rows) → AllFull rows
  full_from h [] p = tt
  full_from h (r ∷ rows) p = (sym (same_length h r) ∙ p.0, full_from h rows p.1)

  sound_to : (n : ℕ) (g : Former {0}) (X Y : Type 0) (h : X → Y) (l : (levels n g).Of X) → Sound n g X l → Sound n g Y ((levels n g).map X Y h l)
  sound_to zero g X Y h l p = tt
  sound_to (suc n) g X Y h l p = record {
    sound = sound_to n (row g) X Y h l.rows p.sound;
    full = rw (natural n (row g) X Y h l.rows) (full_to (g.map X Y h) (items_of n (row g) X l.rows) p.full);
    few = omega (arith, p.few, same_length (g.map X Y h) l.tail);
  }

  sound_from : (n : ℕ) (g : Former {0}) (X Y : Type 0) (h : X → Y) (l : (levels n g).Of X) → Sound n g Y ((levels n g).map X Y h l) → Sound n g X l
  sound_from zero g X Y h l p = tt
  sound_from (suc n) g X Y h l p = record {
    sound = sound_from n (row g) X Y h l.rows p.sound;
    full = full_from (g.map X Y h) (items_of n (row g) X l.rows) (rw (natural n (row g) X Y h l.rows) at p.full);
    few = omega (arith, p.few, same_length (g.map X Y h) l.tail);
  }

  -- ---- what is held
  -- what x holds, before what p holds
  abbrev onto : (f : Former {0}) (X : Type 0) → f.Of X → Held X → Held X
  onto f X x p = (f.count (f.shape X x) p.0, f.put X x p.0 p.1)

  onto_append : (g : Former {0}) (X : Type 0) (xs ys : List (g.Of X)) (p : Held X) → onto (list g) X (xs ++ ys) p ≡ onto (list g) X xs (onto (list g) X ys p)
  onto_append g X [] ys p = refl
  onto_append g X (x ∷ xs) ys p = ap (onto g X x) (onto_append g X xs ys p)

  onto_row : (g : Former {0}) (X : Type 0) (rcs : List (Rc (g.Of X) A)) (p : Held X) → onto (list g) X (behind rcs) p ≡ onto (list (pointer g)) X rcs p
  onto_row g X [] p = refl
  onto_row g X (r ∷ rcs) p = ap (onto g X r.value) (onto_row g X rcs p)

  onto_flat : (g : Former {0}) (X : Type 0) (rows : List (Row (g.Of X) A)) (p : Held X) → onto (list g) X (flat rows) p ≡ onto (list (row g)) X rows p
  onto_flat g X [] p = refl
  onto_flat g X (r ∷ rows) p = onto_append g X (contents r) (flat rows) p ∙ ap (onto (list g) X (contents r)) (onto_flat g X rows p) ∙ onto_row g X r.items (onto (list (row g)) X rows p)

  keeps : (n : ℕ) (g : Former {0}) (X : Type 0) (l : (levels n g).Of X) (p : Held X) → onto (list g) X (items_of n g X l) p ≡ onto (levels n g) X l p
  keeps zero g X l p = onto_row g X l.items p
  keeps (suc n) g X l p =
      onto_append g X (flat (items_of n (row g) X l.rows)) (contents l.tail) p
      ∙ ap (onto (list g) X (flat (items_of n (row g) X l.rows))) (onto_row g X l.tail.items p)
      ∙ onto_flat g X (items_of n (row g) X l.rows) (onto (row g) X l.tail p)
      ∙ keeps n (row g) X l.rows (onto (row g) X l.tail p)

  abbrev fields : Former {0}
  fields = via (pair (levels 4 this) (const (ℕ × A))) (λ X. Inside X A) (λ X v. (v.tower, (v.len, v.alloc))) (λ X v. record { tower = v.0; len = v.1.0; alloc = v.1.1 }) (λ X v. refl) (λ X v. refl)

-- ---- what is owned and lent
module _ (A : RattleType) (G : Ghosts A.Denot) where
  abbrev rc_row : RattleType → RattleType
  rc_row R = rc.the_row R A G

  abbrev row_row : RattleType → RattleType
  row_row R = vecs.the_row (rc_row R) A G

  module _ (R S : RattleType) (h : R.Denot → S.Denot) where
    rc_places : Alike R S h → Alike (rc_row R) (rc_row S) (on_rc h)
    unfolding part_of
    rc_places a = record {
      mir_same = λ i. (rc_row (one_value R (a.mir_same i) (λ _. ftrue) (λ _ _. nothing) gnil)).mir;
      own_same = λ d i. (rc_row (one_value R (a.mir_same i) (a.own_same d.value i) (a.shr_same d.value i) gnil)).own_val (record { ptr = d.ptr; value = tt });
      shr_same = λ d i. (rc_row (one_value R (a.mir_same i) (a.own_same d.value i) (a.shr_same d.value i) gnil)).shr_at (record { ptr = d.ptr; value = tt });
    }

    row_places : Alike R S h → Alike (row_row R) (row_row S) (on_row h)
    row_places a = vec.the_places A G (rc_row R) (rc_row S) (on_rc h) (rc_places a)

  abbrev level_row : ℕ → RattleType → RattleType
  level_row zero R = row_row R
  level_row (suc n) R = L.the_row (level_row n (row_row R)) R A G

  abbrev on_level : (n : ℕ) (R S : RattleType) → (R.Denot → S.Denot) → (level_row n R).Denot → (level_row n S).Denot
  on_level zero R S h l = on_row h l
  on_level (suc n) R S h l = record { rows = on_level n (row_row R) (row_row S) (on_row h) l.rows; tail = on_row h l.tail }

  level_places : (n : ℕ) (R S : RattleType) (h : R.Denot → S.Denot) → Alike R S h → Alike (level_row n R) (level_row n S) (on_level n R S h)
  level_places zero R S h a = row_places R S h a
  level_places (suc n) R S h a =
      struct_places (L.the_type (level_row n (row_row R)) R A G) (L.the_type (level_row n (row_row S)) S A G) (on_level n (row_row R) (row_row S) (on_row h), (on_row h, tt)) _ (λ d. refl) refl
      (laid _ _ _ (level_places n (row_row R) (row_row S) (on_row h) (row_places R S h a)), (laid _ _ _ (row_places R S h a), tt))

  module _ (R S : RattleType) (h : R.Denot → S.Denot) where
    pub the_places : Alike R S h → Alike (C.the_row R A G) (C.the_row S A G) ((the_former this A.Denot).map R.Denot S.Denot h)
    the_places a = view_places (fields A.Denot) (list this) (λ X. view X A.Denot G) (λ X Y k u. natural A.Denot 4 this X Y k u.tower) (λ X u. keeps A.Denot 4 this X u.tower (none_left, tt))
        R.Denot S.Denot h (C.the_row R A G).coded (C.the_row S A G).coded
        (invariant R.Denot A.Denot G) (invariant S.Denot A.Denot G)
        (λ u p q i. record { sound = sound_prop A.Denot 4 this R.Denot u.tower p.sound q.sound i; counted = ℕ_set _ _ p.counted q.counted i })
        (λ u p q i. record { sound = sound_prop A.Denot 4 this S.Denot u.tower p.sound q.sound i; counted = ℕ_set _ _ p.counted q.counted i })
        (λ u p. record { sound = sound_to A.Denot 4 this R.Denot S.Denot h u.tower p.sound; counted = p.counted ∙ sym (ap length (natural A.Denot 4 this R.Denot S.Denot h u.tower) ∙ length-map _ h) })
        (λ u p. record { sound = sound_from A.Denot 4 this R.Denot S.Denot h u.tower p.sound; counted = p.counted ∙ ap length (natural A.Denot 4 this R.Denot S.Denot h u.tower) ∙ length-map _ h })
        (over (I.the_row R A G)) (over (I.the_row S A G))
        (struct_places (I.the_type R A G) (I.the_type S A G) (on_level 4 R S h, (λ n. n, (λ x. x, tt))) _ (λ d. refl) refl
        (laid _ _ _ (level_places 4 R S h a), ((refl, (λ n. refl, λ n. refl)), ((refl, (λ n. refl, λ n. refl)), tt))))

    pub the_codes_placed : Recodes R S h → Recodes (C.the_row R A G) (C.the_row S A G) ((the_former this A.Denot).map R.Denot S.Denot h)
    the_codes_placed e d = sym (code_map R.coded.code S.coded.code h (λ x. sym (e x)) d)
