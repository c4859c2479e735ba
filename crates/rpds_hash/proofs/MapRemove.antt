-- A map after a removal.
use Rattle.rpds_hash.proofs.Words.{◌≡◌, ℕ, ◌+◌, ◌-◌, ◌^◌, ◌<◌, ◌≤◌, Bool, true, false, List, [], ◌∷◌, Some, None, length, refl, sym, ap, ◌∙◌, subst, arith, Option, Result, Ok, Err, option_map, false≢true, Stored, Trie, matches, unmatched, found, IsLeft, HashedMap, pairs_of, find, without, AllApart, IsMap}
use Rattle.std.specs.Prelude.{IfOk, is_some}
use Rattle.rpds_hash_trie.proofs.NodeRemove.{fewer_kept, none_kept}
use Rattle.rpds_hash_trie.specs.HashChanges.{IsShrunk}
use Rattle.rpds_hash_trie.proofs.Flat.{each_without}
use Rattle.rpds_hash_trie.proofs.MapGet.{IsSeenMap, look_of, pairs_found, pairs_gone}
use Rattle.rpds_hash_trie.proofs.MapInsert.{both_kept, none_gone}

pub some_is : {X Y : Type 0} (f : X → Y) (o : Option X) → is_some o ≡ is_some (option_map f o)
some_is f None = refl
some_is f (Some x) = refl

pub shorter : {K V : Type 0} (t : Stored K V → Bool) (xs : List (Stored K V)) → is_some (found t xs) ≡ true → length (unmatched t xs) < length xs
shorter t [] s = cc
shorter t (x ∷ xs) s = grind (arith, shorter t xs, fewer_kept t xs)

pub stays_none : {X : Type 0} (o : Option X) → is_some o ≡ false → o ≡ None
stays_none None e = refl
stays_none (Some x) e = absurd (false≢true (sym e))

-- the map, with the entries of a trie that lost one
module _ {K S V H : Type 0} {eq : K → K → Bool} {F : H → K → ℕ} {same : K → S → Bool} {k : S} {sought : H → ℕ} {h : ℕ} {hasher : H} {size : ℕ} {v : Trie K V} {m : HashedMap K V H} (s : IsSeenMap eq F same k sought h hasher size v m) where
  abbrev t : Stored K V → Bool
  t = matches same k h

  abbrev ps : List (K × V)
  ps = pairs_of v.entries

  pub absent : found t v.entries ≡ None → find same k m.entries ≡ None
  absent none = subst (λ (n : HashedMap K V H). find same k n.entries ≡ None) s.view (sym (pairs_found s) ∙ ap (option_map (λ e. e.1)) none)

  pub told : (there : Bool) → there ≡ is_some (found t v.entries) → there ≡ is_some (find same k m.entries)
  told there e = e ∙ some_is (λ (e : Stored K V). e.1) (found t v.entries) ∙ ap is_some (pairs_found s) ∙ ap (λ (n : HashedMap K V H). is_some (find same k n.entries)) s.view

  module _ (left : Trie K V) (is : left ≡ record v { entries = unmatched t v.entries }) where
    apart_less : AllApart eq (pairs_of (unmatched t v.entries))
    apart_less j =
        let one : length ps ≤ length (without eq j ps) + 1 = s.map_is.apart j in
        rw (pairs_gone s) (omega (arith, one, both_kept eq same k j ps))

    resized : (many : ℕ) → many ≡ length (unmatched t v.entries) → IsMap eq (F hasher) left many
    resized many long = rw is (record { counted = long; hashes = each_without (λ e. e.0 ≡ F hasher e.1.0) t v.entries s.map_is.hashes; apart = apart_less })

    pub less_map : is_some (found t v.entries) ≡ true → IsMap eq (F hasher) left (size - 1)
    less_map there = resized (size - 1) (omega (arith, shorter t v.entries there, (look_of s).once, s.map_is.counted))

    pub same_map : is_some (found t v.entries) ≡ false → IsMap eq (F hasher) left size
    same_map miss = resized size (s.map_is.counted ∙ ap length (sym (none_kept t v.entries (stays_none (found t v.entries) miss))))

    pub left_view : (record { entries = pairs_of left.entries; degree = 2 ^ left.bits; hasher = hasher }) ≡ record m { entries = without same k m.entries }
    left_view = subst (λ (n : HashedMap K V H). (record { entries = pairs_of left.entries; degree = 2 ^ left.bits; hasher = hasher }) ≡ record n { entries = without same k n.entries }) s.view (rw (is, pairs_gone s) refl)

  module _ (left : Trie K V) (l : IsLeft t v left) where
    shrunk_pairs : IsShrunk eq (F hasher) same k (record { entries = ps; degree = 2 ^ v.bits; hasher = hasher }) left (size - 1)
    shrunk_pairs = record {
      there = sym (some_is (λ (e : Stored K V). e.1) (found t v.entries) ∙ ap is_some (pairs_found s)) ∙ l.there;
      map_is = less_map left l.is l.there;
      pairs = rw l.is (pairs_gone s);
      degree = rw l.is refl;
    }

    pub shrunk : IsShrunk eq (F m.hasher) same k m left (size - 1)
    shrunk = subst (λ (n : HashedMap K V H). IsShrunk eq (F n.hasher) same k n left (size - 1)) s.view shrunk_pairs

-- nothing goes where the key isn't there
pub unchanged : {K S V H : Type 0} (same : K → S → Bool) (k : S) (m : HashedMap K V H) → find same k m.entries ≡ None → m ≡ record m { entries = without same k m.entries }
unchanged {K} {S} {V} {H} same k m none = ap {A = List (K × V)} {B = HashedMap K V H} (λ l. record m { entries = l }) (sym (none_gone same k m.entries none))

-- the map that is made of what is left
pub shrunk_view : {K S V H : Type 0} (eq : K → K → Bool) (hash : K → ℕ) (same : K → S → Bool) (k : S) (m : HashedMap K V H) (t : Trie K V) (size : ℕ) → IsShrunk eq hash same k m t size
    → (record { entries = pairs_of t.entries; degree = 2 ^ t.bits; hasher = m.hasher }) ≡ record m { entries = without same k m.entries }
shrunk_view eq hash same k m t size s = rw (s.pairs, s.degree) refl

-- an answer that is one value is the other
pub ok_along : {X E : Type 0} {x y : X} → x ≡ y → (r : Result X E) → IfOk r (λ m. m ≡ x) → IfOk r (λ m. m ≡ y)
ok_along e (Ok z) h = h ∙ e
ok_along e (Err z) h = h
