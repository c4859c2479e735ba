-- `SparseArrayUsize` as a type that may hold the type that holds it: a list of items with their places.
use Rattle.std.specs.Prelude.{◌≡◌, ℕ, List, [], ◌∷◌, map, length, zip}
use Rattle.std.specs.Int.Count.{ones_in}
use mathlib.Core.Path.{refl, sym, ap, ◌∙◌}
use mathlib.Core.Former.{Former, one_more, this, const, pair, list, via, children}
use native.Mathlib.Nat.{ℕ_set}
use native.Mathlib.Omega.{arith}
use lib.ListN.{length-map}
use base.Stored.{code_map, gcons, coded×, coded_ℕ}
use denote.RattleType.{RattleType}
use denote.HoleLaws.{Alike}
use denote.HolePlaces.{Recodes, struct_places, laid}
use denote.Hole.Carrier.{listed}
use denote.Hole.Fix.{over}
use denote.Param.Weighed.{Weighed, w_list, w_pair, w_const}
use denote.Model.Placed.{held, view_places_where}
use Rattle.std.specs.formers.vec.Vec as vec
use Rattle.std.specs.declared.alloc.Allocator.{Ghosts}
use Rattle.rpds_hash_trie.specs.declared.sparse_array_usize.SparseArrayUsize.TheInside.{Inside}
use Rattle.rpds_hash_trie.specs.declared.sparse_array_usize.SparseArrayUsize.TheView.{view, invariant}
use Rattle.rpds_hash_trie.specs.contracts.sparse_array_usize.SparseArrayUsize as C
use Rattle.rpds_hash_trie.specs.contracts.sparse_array_usize.SparseArrayUsize.TheInside as I
use Rattle.rpds_hash_trie.specs.Places.{placed, places, length_places}

abbrev pub the_former : Former {0} → Type 0 → Former {0}
the_former g Z = list (pair (const ℕ) g)

abbrev pub the_weighed : {g : Former {0}} → Weighed g → (Z : Type 0) → Weighed (the_former g Z)
the_weighed w Z = w_list (w_pair (w_const ℕ) w)

pub the_empty : (Z : Type 0) → Z → List (ℕ × ⊥)
the_empty Z z = []

abbrev pub the_items : (Z X : Type 0) → List (ℕ × X) → List X
the_items Z X [] = []
the_items Z X (d ∷ ds) = d.1 ∷ the_items Z X ds

pub the_items_listed : (Z X : Type 0) (d : List (ℕ × X)) → listed _ (children (the_former this Z) X d) ≡ the_items Z X d
the_items_listed Z X [] = refl
the_items_listed Z X (d ∷ ds) = ap (λ l. d.1 ∷ l) (the_items_listed Z X ds)

abbrev fields : Type 0 → Former {0}
fields Z = via (pair (const ℕ) (vec.the_former this Z)) (λ X. Inside X Z) (λ X a. (a.bitmap, a.items)) (λ X v. record { bitmap = v.0; items = v.1 }) (λ X a. refl) (λ X v. refl)

abbrev on_item : {X Y : Type 0} → (X → Y) → ℕ × X → ℕ × Y
on_item h p = (p.0, h p.1)

zip_map : {X Y : Type 0} (h : X → Y) (ks : List ℕ) (vs : List X) → zip ks (map h vs) ≡ map (on_item h) (zip ks vs)
zip_map h [] vs = refl
zip_map h (k ∷ ks) [] = refl
zip_map h (k ∷ ks) (v ∷ vs) = ap (λ l. (k, h v) ∷ l) (zip_map h ks vs)

placed_map : {X Y : Type 0} (h : X → Y) (b : ℕ) (vs : List X) → placed b (map h vs) ≡ map (on_item h) (placed b vs)
unfolding placed
placed_map h b vs = zip_map h (places 64 0 b) vs

zip_held : (X : Type 0) (ks : List ℕ) (vs : List X) → length vs ≡ length ks → held (list (pair (const ℕ) this)) X (zip ks vs) ≡ held (list this) X vs
zip_held X [] [] e = refl
zip_held X [] (v ∷ vs) e = absurd (omega arith)
zip_held X (k ∷ ks) [] e = absurd (omega arith)
zip_held X (k ∷ ks) (v ∷ vs) e = λ i. (one_more (zip_held X ks vs (omega arith) i).0, (v, (zip_held X ks vs (omega arith) i).1))

placed_held : (X : Type 0) (b : ℕ) (vs : List X) → length vs ≡ ones_in 64 b → held (list (pair (const ℕ) this)) X (placed b vs) ≡ held (list this) X vs
unfolding placed
placed_held X b vs e = zip_held X (places 64 0 b) vs (e ∙ sym (length_places 64 0 b))

module _ (Z : RattleType) (G : Ghosts Z.Denot) (R S : RattleType) (h : R.Denot → S.Denot) where
  pub the_places : Alike R S h → Alike (C.the_row R Z G) (C.the_row S Z G) ((the_former this Z.Denot).map R.Denot S.Denot h)
  the_places a = view_places_where (fields Z.Denot) (the_former this Z.Denot) (λ X. view X Z.Denot G)
      (λ X Y k u. placed_map k u.bitmap u.items.items)
      (λ X u. length u.items.items ≡ ones_in 64 u.bitmap) (λ X Y k u e. sym (length-map u.items.items k) ∙ e) (λ X u e. placed_held X u.bitmap u.items.items e)
      R.Denot S.Denot h (C.the_row R Z G).coded (C.the_row S Z G).coded
      (invariant R.Denot Z.Denot G) (invariant S.Denot Z.Denot G) (λ u. ℕ_set _ _) (λ u. ℕ_set _ _)
      (λ u e. length-map u.items.items h ∙ e) (λ u e. sym (length-map u.items.items h) ∙ e) (λ u e. e)
      (over (I.the_row R Z G)) (over (I.the_row S Z G))
      (struct_places (I.the_type R Z G) (I.the_type S Z G) (λ n. n, (vec.mapped h, tt)) _ (λ d. refl) refl
      ((refl, (λ n. refl, λ n. refl)), (laid _ _ _ (vec.the_places Z G R S h a), tt)))

  pub the_codes_placed : Recodes R S h → Recodes (C.the_row R Z G) (C.the_row S Z G) ((the_former this Z.Denot).map R.Denot S.Denot h)
  the_codes_placed e d = sym (code_map (coded× coded_ℕ R.coded).code (coded× coded_ℕ S.coded).code (on_item h) (λ x i. gcons (coded_ℕ.code x.0) (sym (e x.1) i)) d)
