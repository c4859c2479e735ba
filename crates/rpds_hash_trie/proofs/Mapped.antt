-- Nodes whose values are made anew.
use Rattle.rpds_hash_trie.proofs.Words.{◌≡◌, ℕ, zero, suc, ◌+◌, ◌-◌, ◌<◌, ◌≤◌, ◌^◌, List, [], ◌∷◌, ◌++◌, Result, length, map, take, get_or, refl, sym, ap, ◌∙◌, subst, arith, length-map, map_push, Rc}
use Rattle.rpds_hash_trie.proofs.Words.{AllByRecursion, AllZip}
use Rattle.rpds_hash_trie.proofs.Words.{agree, behind, digit, items_of, seen, zip, AllChildren, EntryWithHash, IsBranch, IsChildAt, IsCollision, IsSound, Stored}
use Rattle.rpds_hash_trie.proofs.Words.{Trie, branch_of, flat, hashes_in, stored}
use Rattle.rpds_core.proofs.Rows.{behind_append}
use Rattle.rpds_hash_trie.specs.HashTrie.{IsAlike, level_count}
use Rattle.rpds_hash_trie.proofs.OpenNodes.{IsOpenBranch}
use Rattle.rpds_hash_trie.proofs.Sifted.{whole_taken}
use Rattle.rpds_hash_trie.specs.HashValues.{HasStoredValueOf, HasValuesOf}
use Rattle.rpds_hash_trie.specs.Places.{places_of}
use Rattle.std.proofs.lemmas.List.{map-append, take_more}
use Rattle.std.specs.Borrow.{Bor}
use denote.Param.Members.{Shared}

-- what is said of the hashes is said of the entries
module _ {K V : Type 0} (P : ℕ → Type 0) where
  hashes_have : (xs : List (Stored K V)) → AllByRecursion (λ e. P e.0) xs → AllByRecursion P (hashes_in xs)
  hashes_have [] a = tt
  hashes_have (x ∷ xs) a = (a.0, hashes_have xs a.1)

  entries_have : (xs : List (Stored K V)) → AllByRecursion P (hashes_in xs) → AllByRecursion (λ e. P e.0) xs
  entries_have [] a = tt
  entries_have (x ∷ xs) a = (a.0, entries_have xs a.1)

-- entries of the same hashes
module _ {K V W : Type 0} (xs : List (Stored K V)) (ys : List (Stored K W)) (same : hashes_in ys ≡ hashes_in xs) where
  each_hash : (P : ℕ → Type 0) → AllByRecursion (λ e. P e.0) xs → AllByRecursion (λ e. P e.0) ys
  each_hash P a = entries_have P ys (subst (AllByRecursion P) (sym same) (hashes_have P xs a))

  as_many : length ys ≡ length xs
  as_many = sym (length-map ys (λ e. e.0)) ∙ ap length same ∙ length-map xs (λ e. e.0)

  alike_as : (bits d : ℕ) → IsAlike bits d xs → IsAlike bits d ys
  alike_as bits d a = record { with_root = a.with_root; all = each_hash (λ h. agree (2 ^ bits) d h a.with_root) a.all }

-- w has the depth and the bits of v, and entries of the same hashes
pub record IsShapedAs {K V W : Type 0} (v : Trie K V) (w : Trie K W) : Type 0 where
  pub same_bits : w.bits ≡ v.bits
  pub same_depth : w.depth ≡ v.depth
  pub same_hashes : hashes_in w.entries ≡ hashes_in v.entries

module _ {K V W : Type 0} where
  -- a node is sound if one of its shape is
  pub sound_as : (v : Trie K V) (w : Trie K W) → IsShapedAs v w → IsSound v → IsSound w
  sound_as v w a s = record {
    bits_in = subst (λ b. (1 ≤ b) × (b ≤ 6)) (sym a.same_bits) s.bits_in;
    deep = let deep = s.deep in omega (arith, deep, a.same_depth, ap level_count a.same_bits);
    some = let some = s.some in omega (arith, some, as_many v.entries w.entries a.same_hashes);
    alike = rw (a.same_bits, a.same_depth) (alike_as v.entries w.entries a.same_hashes v.bits v.depth s.alike);
    in_order = rw (a.same_bits, a.same_hashes) s.in_order;
  }

  child_as : (bits d p : ℕ) (v : Trie K V) (w : Trie K W) → IsShapedAs v w → IsChildAt bits d p v → IsChildAt bits d p w
  child_as bits d p v w a c = record {
    same_bits = a.same_bits ∙ c.same_bits;
    lower = a.same_depth ∙ c.lower;
    digits = each_hash v.entries w.entries a.same_hashes (λ h. digit (2 ^ bits) d h ≡ p) c.digits;
    sound = sound_as v w a c.sound;
  }

  -- children of the same shapes at the same places
  abbrev AreShapedAs : List (ℕ × Trie K V) → List (ℕ × Trie K W) → Type 0
  AreShapedAs = AllZip (λ c e. (e.0 ≡ c.0) × IsShapedAs c.1 e.1)

  children_as : (bits d low : ℕ) (cs : List (ℕ × Trie K V)) (es : List (ℕ × Trie K W)) → AreShapedAs cs es → AllChildren bits d low cs → AllChildren bits d low es
  children_as bits d low [] [] z a = tt
  children_as bits d low [] (e ∷ es) z a = absurd z
  children_as bits d low (c ∷ cs) [] z a = absurd z
  children_as bits d low (c ∷ cs) (e ∷ es) z a =
      rw z.0.0 (a.0, (child_as bits d c.0 c.1 e.1 z.0.1 a.1.0, children_as bits d (suc c.0) cs es z.1 a.1.1))

  flat_as : (cs : List (ℕ × Trie K V)) (es : List (ℕ × Trie K W)) → AreShapedAs cs es → hashes_in (flat es) ≡ hashes_in (flat cs)
  flat_as [] [] z = refl
  flat_as [] (e ∷ es) z = absurd z
  flat_as (c ∷ cs) [] z = absurd z
  flat_as (c ∷ cs) (e ∷ es) z =
      rw (map-append (λ (x : Stored K W). x.0) e.1.entries (flat es), map-append (λ (x : Stored K V). x.0) c.1.entries (flat cs), z.0.1.same_hashes, flat_as cs es z.1) refl

  branch_as : (bits d : ℕ) (cs : List (ℕ × Trie K V)) (es : List (ℕ × Trie K W)) → AreShapedAs cs es → IsBranch bits d cs → IsBranch bits d es
  branch_as bits d cs es z b =
      let same = flat_as cs es z in
      record {
        bits_in = b.bits_in;
        left = b.left;
        several = let several = b.several in omega (arith, several, as_many (flat cs) (flat es) same);
        children = children_as bits d 0 cs es z b.children;
        alike = alike_as (flat cs) (flat es) same bits d b.alike;
      }

-- lists that go together, place by place
module _ {X Y : Type 0} (R : X → Y → Type 0) where
  zip_append : (xs ys : List X) (us ws : List Y) → AllZip R xs us → AllZip R ys ws → AllZip R (xs ++ ys) (us ++ ws)
  zip_append [] ys [] ws a b = b
  zip_append [] ys (u ∷ us) ws a b = absurd a
  zip_append (x ∷ xs) ys [] ws a b = absurd a
  zip_append (x ∷ xs) ys (u ∷ us) ws a b = (a.0, zip_append xs ys us ws a.1 b)

  -- one place more
  pub zip_more : {S T : Type 0} (f : S → X) (h : T → Y) (all : List S) (done : List T) (i : ℕ) (x : S) (y : T) → i < length all → x ≡ get_or all i x
      → AllZip R (map f (take i all)) (map h done) → R (f x) (h y) → AllZip R (map f (take (i + 1) all)) (map h (done ++ y ∷ []))
  zip_more f h all done i x y lt is a r =
      rw (taken, map_push f (take i all) x, map_push h done y) (zip_append (map f (take i all)) (f x ∷ []) (map h done) (h y ∷ []) a (r, tt))
    where
      taken : take (i + 1) all ≡ take i all ++ x ∷ []
      taken = take_more all i x lt ∙ ap (λ z. take i all ++ z ∷ []) (sym is)

  pub row_more : {A : Type 0} (all : List (Rc X A)) (done : List (Rc Y A)) (i : ℕ) (x : Rc X A) (y : Rc Y A) → i < length all → x ≡ get_or all i x
      → AllZip R (behind (take i all)) (behind done) → R x.value y.value → AllZip R (behind (take (i + 1) all)) (behind (done ++ y ∷ []))
  row_more all done i x y lt is a r =
      rw (taken, behind_append (take i all) (x ∷ []), behind_append done (y ∷ [])) (zip_append (behind (take i all)) (x.value ∷ []) (behind done) (y.value ∷ []) a (r, tt))
    where
      taken : take (i + 1) all ≡ take i all ++ x ∷ []
      taken = take_more all i x lt ∙ ap (λ z. take i all ++ z ∷ []) (sym is)

  -- all places
  pub zip_whole : {S T : Type 0} (f : S → X) (h : T → Y) (all whole : List S) (done : List T) (i : ℕ) → length all ≤ i → all ≡ whole
      → AllZip R (map f (take i all)) (map h done) → AllZip R (map f whole) (map h done)
  zip_whole f h all whole done i le is a = subst (λ l. AllZip R (map f l) (map h done)) (whole_taken all i le ∙ is) a

  pub row_whole : {A : Type 0} (all whole : List (Rc X A)) (done : List (Rc Y A)) (i : ℕ) → length all ≤ i → all ≡ whole
      → AllZip R (behind (take i all)) (behind done) → AllZip R (behind whole) (behind done)
  row_whole all whole done i le is a = subst (λ l. AllZip R (behind l) (behind done)) (whole_taken all i le ∙ is) a

pub length_items : {T : Type 0} (cs : List (ℕ × T)) → length (items_of cs) ≡ length cs
length_items [] = refl
length_items (c ∷ cs) = ap (λ n. suc n) (length_items cs)

-- a child in the row has fewer levels below it
module _ {K V A : Type 0} where
  level_falls : (bits d low : ℕ) (cs : List (ℕ × Rc (Trie K V) A)) (i : ℕ) (x : Rc (Trie K V) A) → d < level_count bits → AllChildren bits d low (seen cs)
      → i < length (items_of cs) → x ≡ get_or (items_of cs) i x → (level_count x.value.bits - x.value.depth) + 1 ≤ level_count bits - d
  level_falls bits d low [] i x left a lt is = absurd (omega arith)
  level_falls bits d low (c ∷ cs) zero x left a lt is = rw is (let child = a.1.0 in omega (arith, left, child.lower, ap level_count child.same_bits))
  level_falls bits d low (c ∷ cs) (suc i) x left a lt is = level_falls bits d (suc c.0) cs i x left a.1.1 (omega arith) is

  pub child_falls : {v : Trie K V} {bits d : ℕ} (cs : List (ℕ × Rc (Trie K V) A)) → IsOpenBranch v bits d (seen cs) → (row : List (Rc (Trie K V) A)) (i : ℕ) (x : Rc (Trie K V) A)
      → row ≡ items_of cs → i < length row → x ≡ get_or row i x → (level_count x.value.bits - x.value.depth) + 1 ≤ level_count v.bits - v.depth
  child_falls {v = v} {bits = bits} {d = d} cs o row i x e lt is =
      let levels : level_count v.bits - v.depth ≡ level_count bits - d = ap (λ (t : Trie K V). level_count t.bits - t.depth) o.is in
      let falls = level_falls bits d 0 cs i x o.sound.left o.sound.children (subst (λ r. i < length r) e lt) (is ∙ ap (λ r. get_or r i x) e) in
      omega (arith, levels, falls)

module _ {F K V W E : Type 0} (g : Shared F (Bor V × Unit {0}) (Result W E)) (f : F) where
  hashes_kept : (xs : List (Stored K V)) (ys : List (Stored K W)) → AllZip (HasStoredValueOf g f) xs ys → hashes_in ys ≡ hashes_in xs
  hashes_kept [] [] z = refl
  hashes_kept [] (y ∷ ys) z = absurd z
  hashes_kept (x ∷ xs) [] z = absurd z
  hashes_kept (x ∷ xs) (y ∷ ys) z = λ i. z.0.hash i ∷ hashes_kept xs ys z.1 i

  shape_kept : (v : Trie K V) (w : Trie K W) → HasValuesOf g f v w → IsShapedAs v w
  shape_kept v w h = record { same_bits = h.same_bits; same_depth = h.same_depth; same_hashes = hashes_kept v.entries w.entries h.entries }

  -- entries of one hash
  pub colliding_kept : {A : Type 0} (bits d : ℕ) (front : Stored K V) (others : List (Stored K V)) (front' : EntryWithHash K W A) (others' : List (Stored K W)) → HasStoredValueOf g f front (stored front')
      → AllZip (HasStoredValueOf g f) others others' → IsCollision bits d front.0 others → IsCollision bits d front'.key_hash others'
  colliding_kept bits d front others front' others' first rest c =
      let same = hashes_kept others others' rest in
      record {
        bits_in = c.bits_in;
        full = c.full;
        several = let several = c.several in omega (arith, several, as_many others others' same);
        same = rw first.hash (each_hash others others' same (λ h. h ≡ front.0) c.same);
      }

  -- children with such values at the same places
  abbrev AreMapped : List (ℕ × Trie K V) → List (ℕ × Trie K W) → Type 0
  AreMapped = AllZip (λ c e. (e.0 ≡ c.0) × HasValuesOf g f c.1 e.1)

  shapes_kept : (cs : List (ℕ × Trie K V)) (es : List (ℕ × Trie K W)) → AreMapped cs es → AreShapedAs cs es
  shapes_kept [] [] z = tt
  shapes_kept [] (e ∷ es) z = absurd z
  shapes_kept (c ∷ cs) [] z = absurd z
  shapes_kept (c ∷ cs) (e ∷ es) z = ((z.0.0, shape_kept c.1 e.1 z.0.1), shapes_kept cs es z.1)

  flat_mapped : (cs : List (ℕ × Trie K V)) (es : List (ℕ × Trie K W)) → AreMapped cs es → AllZip (HasStoredValueOf g f) (flat cs) (flat es)
  flat_mapped [] [] z = tt
  flat_mapped [] (e ∷ es) z = absurd z
  flat_mapped (c ∷ cs) [] z = absurd z
  flat_mapped (c ∷ cs) (e ∷ es) z = zip_append (HasStoredValueOf g f) c.1.entries (flat cs) e.1.entries (flat es) z.0.1.entries (flat_mapped cs es z.1)

  -- a row of nodes with such values, at the places of the children
  row_mapped : {A : Type 0} (cs : List (ℕ × Rc (Trie K V) A)) (row : List (Rc (Trie K W) A)) → AllZip (HasValuesOf g f) (behind (items_of cs)) (behind row)
      → AreMapped (seen cs) (seen (zip (places_of cs) row))
  row_mapped [] row z = tt
  row_mapped (c ∷ cs) [] z = absurd z
  row_mapped (c ∷ cs) (r ∷ row) z = ((refl, z.0), row_mapped cs row z.1)

  -- a branch of such children
  module _ {A : Type 0} {v : Trie K V} {bits d : ℕ} (cs : List (ℕ × Rc (Trie K V) A)) (o : IsOpenBranch v bits d (seen cs)) (row : List (Rc (Trie K W) A))
      (es : List (ℕ × Rc (Trie K W) A)) (made : AllZip (HasValuesOf g f) (behind (items_of cs)) (behind row)) (is : es ≡ zip (places_of cs) row) where
    mapped : AreMapped (seen cs) (seen es)
    mapped = subst (λ l. AreMapped (seen cs) (seen l)) (sym is) (row_mapped cs row made)

    pub branch_kept : IsBranch bits d (seen es)
    branch_kept = branch_as bits d (seen cs) (seen es) (shapes_kept (seen cs) (seen es) mapped) o.sound

    pub branch_mapped : (w : Trie K W) → w ≡ branch_of bits d (seen es) → HasValuesOf g f v w
    branch_mapped w e = rw (o.is, e) (record { same_bits = refl; same_depth = refl; entries = flat_mapped (seen cs) (seen es) mapped })
