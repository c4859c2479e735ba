-- Entries whose keys other entries have, or lack.
use Rattle.rpds_hash_trie.proofs.Words.{nat_tests, ◌≡◌, ℕ, suc, ◌+◌, ◌≤◌, ◌<◌, Bool, true, false, cond, not, List, [], ◌∷◌, ◌++◌, Some, None, length}
use Rattle.rpds_hash_trie.proofs.Words.{refl, sym, ap, ◌∙◌, subst, arith, is_some, IsSome, length-append, IsEquivalence, Stored, Trie, AllAgree, AllHash, found, matches}
use Rattle.rpds_hash_trie.proofs.Words.{unmatched, leaf_of, collision_of}
use Rattle.rpds_hash_trie.specs.HashRemoval.{IsRemoval}
use Rattle.rpds_hash_trie.specs.HashSift.{goes, AreCounted, IsRestOf, IsSifted}
use Rattle.rpds_hash_trie.specs.HashUnion.{AllOnce, CanUnite}
use Rattle.rpds_hash_trie.specs.declared.remove.Removal.{Removal}
use Rattle.rpds_hash_trie.specs.declared.remove.Removal.TheVariants.{Absent, Empty, Left}
use Rattle.rpds_hash_trie.proofs.Flat.{without_append}
use Rattle.rpds_hash_trie.proofs.NodeRemove.{all_kept, fewer_kept, none_kept}
use Rattle.rpds_hash_trie.proofs.OpenNodes.{IsOpenBranch, IsOpenCollision}
use Rattle.rpds_hash_trie.specs.declared.node.Kind.TheVariants as the
use Rattle.rpds_hash_trie.proofs.Flat.{each_without}
use Rattle.rpds_hash_trie.specs.HashRoot.{empty_of}
use Rattle.rpds_hash_trie.specs.HashSift.{IsMadeOf}
use Rattle.rpds_hash_trie.specs.HashTrie.{IsLeaf, level_count}
use Rattle.std.proofs.Common.{map, take, Result, Ok, Err, OnOk}
use Rattle.rpds_hash_trie.proofs.Words.{false≢true, length-map, zero, IsCollision, IsSound, EntryWithHash, Kind, stored, trie_of}

module _ {K V : Type 0} {eq : K → K → Bool} (law : IsEquivalence eq) (e : Stored K V) where
  abbrev t : Stored K V → Bool
  t = matches eq e.1.0 e.0

  -- an entry has the other's key where the other has its key
  turned : (x : Stored K V) → matches eq x.1.0 x.0 e ≡ t x
  turned x = grind (arith, nat_tests, law.symm x.1.0 e.1.0)

  -- beside one entry
  lacks_is : (x : Stored K V) → goes eq true (e ∷ []) x ≡ not (t x)
  lacks_is x = grind (arith, turned x)

  has_is : (x : Stored K V) → goes eq false (e ∷ []) x ≡ t x
  has_is x = grind (arith, turned x)

  none_stays : (xs : List (Stored K V)) → found t xs ≡ None → unmatched (λ x. not (t x)) xs ≡ []
  none_stays [] none = refl
  none_stays (x ∷ xs) none = grind (arith, none_stays xs)

  one_stays : (xs : List (Stored K V)) (y : Stored K V) → found t xs ≡ Some y → length xs ≤ length (unmatched t xs) + 1
      → unmatched (λ x. not (t x)) xs ≡ y ∷ []
  one_stays [] y is once = cc
  one_stays (x ∷ xs) y is once = grind (arith, one_stays xs y, none_stays xs, all_kept t xs)

  beside_one : (both : Bool) → (xs : List (Stored K V)) → unmatched (goes eq both (e ∷ [])) xs ≡ unmatched (λ x. cond both (not (t x)) (t x)) xs
  beside_one true xs = λ i. unmatched (λ x. lacks_is x i) xs
  beside_one false xs = λ i. unmatched (λ x. has_is x i) xs

  counted_none : (xs : List (Stored K V)) (n : ℕ) → found t xs ≡ None → AreCounted eq xs (e ∷ []) n n
  counted_none xs n none = rw (beside_one false xs, none_kept t xs none) refl

  fewer : (xs : List (Stored K V)) → IsSome (found t xs) → length (unmatched t xs) < length xs
  fewer [] some = absurd (false≢true some)
  fewer (x ∷ xs) some = grind (arith, fewer xs, fewer_kept t xs)

  counted_one : (xs : List (Stored K V)) (n : ℕ) → AllOnce eq xs → IsSome (found t xs) → AreCounted eq xs (e ∷ []) n (n + 1)
  counted_one xs n once some =
      let all : length xs ≤ length (unmatched t xs) + 1 = once e.1.0 e.0 in
      let one : length (unmatched t xs) + 1 ≡ length xs = omega (arith, all, fewer xs some) in
      rw (beside_one false xs) (omega (arith, one))

  module _ (v : Trie K V) (n : ℕ) (once : AllOnce eq v.entries) where
    pub like_none : {A : Type 0} → found t v.entries ≡ None → IsSifted {A = A} eq true v (e ∷ []) Empty n n
    like_none none = record { rest = beside_one true v.entries ∙ none_stays v.entries none; counted = counted_none v.entries n none }

    pub like_one : (y : Stored K V) → found t v.entries ≡ Some y → unmatched (goes eq true (e ∷ [])) v.entries ≡ y ∷ []
    like_one y is = beside_one true v.entries ∙ one_stays v.entries y is (once e.1.0 e.0)

    pub like_counted : (y : Stored K V) → found t v.entries ≡ Some y → AreCounted eq v.entries (e ∷ []) n (n + 1)
    like_counted y is = counted_one v.entries n once (rw is refl)

    pub without_none : {A : Type 0} → found t v.entries ≡ None → IsSifted {A = A} eq false v (e ∷ []) Absent n n
    without_none none = record { rest = beside_one false v.entries ∙ none_kept t v.entries none; counted = counted_none v.entries n none }

    pub without_some : {A : Type 0} (r : Removal K V A) → IsRemoval t v r → IsSome (found t v.entries) → IsSifted eq false v (e ∷ []) r n (n + 1)
    without_some {A} r is some = record { rest = rest r is; counted = counted_one v.entries n once some }
      where
        rest : (r : Removal K V A) → IsRemoval t v r → IsRestOf (goes eq false (e ∷ [])) v r
        rest Absent none = beside_one false v.entries ∙ none_kept t v.entries none
        rest Empty is = beside_one false v.entries ∙ is.1
        rest (Left m) is = rw (is.is, beside_one false v.entries) refl

-- one entry, which others have or lack
module _ {K V : Type 0} (eq : K → K → Bool) (e : Stored K V) (others : List (Stored K V)) (there : Bool) (is : there ≡ is_some (found (matches eq e.1.0 e.0) others)) where
  pub one_counted : (old new : ℕ) → new ≡ old + cond there 1 0 → AreCounted eq (e ∷ []) others old new
  one_counted old new counted = grind (arith, is, counted)

  pub one_goes : (both : Bool) → goes eq both others e ≡ cond there (not both) both
  one_goes both = ap (λ b. cond b (not both) both) (sym is)

-- entries, and more behind them
module _ {K V : Type 0} (eq : K → K → Bool) (others : List (Stored K V)) (xs ys : List (Stored K V)) where
  pub counted_on : (l m n : ℕ) → AreCounted eq xs others l m → AreCounted eq ys others m n → AreCounted eq (xs ++ ys) others l n
  counted_on l m n first second =
      omega (
        arith,
        first,
        second,
        length-append xs ys,
        ap length (without_append (goes eq false others) xs ys),
        length-append (unmatched (goes eq false others) xs) (unmatched (goes eq false others) ys),
      )

-- nothing goes beside nothing, or all
pub beside_none : {K V : Type 0} (eq : K → K → Bool) (both : Bool) (xs : List (Stored K V)) → unmatched (goes eq both []) xs ≡ cond both [] xs
beside_none eq true [] = refl
beside_none eq false [] = refl
beside_none eq true (x ∷ xs) = beside_none eq true xs
beside_none eq false (x ∷ xs) = ap (λ l. x ∷ l) (beside_none eq false xs)

-- counted are at most as many as there are
pub counted_most : {K V : Type 0} (eq : K → K → Bool) (xs others : List (Stored K V)) (old new : ℕ) → AreCounted eq xs others old new → new ≤ old + length xs
counted_most eq xs others old new counted = omega (arith, counted)

-- entries that fit, said the other way round
pub can_turned : {K V : Type 0} {eq : K → K → Bool} (v w : Trie K V) (e : Stored K V) (n : ℕ) → CanUnite eq w v.entries n → w.bits ≡ v.bits → w.depth ≡ v.depth
    → w.entries ≡ e ∷ [] → 0 < length v.entries → CanUnite eq v (e ∷ []) n
can_turned {eq = eq} v w e n can same_bits same_depth is some =
    let room = can.room in
    record {
      with_root = can.with_root;
      alike = subst (λ d. AllAgree v.bits d can.with_root v.entries) same_depth (subst (λ b. AllAgree b w.depth can.with_root v.entries) same_bits can.alike_others);
      alike_others = subst (AllAgree v.bits v.depth can.with_root) is (subst (λ d. AllAgree v.bits d can.with_root w.entries) same_depth
          (subst (λ b. AllAgree b w.depth can.with_root w.entries) same_bits can.alike));
      once = can.once_others;
      once_others = (λ k h. omega arith);
      room = omega (arith, room, some);
    }

-- a leaf at the place of a node
module _ {K V A : Type 0} (bits d : ℕ) (kind : Kind K V A) {v : Trie K V} (is : trie_of bits d kind ≡ v) where
  same_bits : bits ≡ v.bits
  same_bits = go kind ∙ ap (λ (t : Trie K V). t.bits) is
    where
      go : (kind : Kind K V A) → bits ≡ (trie_of bits d kind).bits
      go (the.Branch cs) = refl
      go (the.Leaf e) = refl
      go (the.Collision rc) = refl

  same_depth : d ≡ v.depth
  same_depth = go kind ∙ ap (λ (t : Trie K V). t.depth) is
    where
      go : (kind : Kind K V A) → d ≡ (trie_of bits d kind).depth
      go (the.Branch cs) = refl
      go (the.Leaf e) = refl
      go (the.Collision rc) = refl

  pub leaf_in : IsSound v → IsLeaf bits d
  leaf_in s = record {
    bits_in = subst (λ b. (1 ≤ b) × (b ≤ 6)) (sym same_bits) s.bits_in;
    deep = let deep = s.deep in omega (arith, deep, same_depth, ap level_count same_bits);
  }

  pub leaf_as : (y : Stored K V) → leaf_of bits d y ≡ record v { entries = y ∷ [] }
  leaf_as y = λ i. record { entries = y ∷ []; depth = same_depth i; bits = same_bits i }

-- what is left of a collision
module _ {K V A : Type 0} (eq : K → K → Bool) (both : Bool) (bits d : ℕ) (front : EntryWithHash K V A) (others kept : List (EntryWithHash K V A)) (ys : List (Stored K V))
    (old common : ℕ) (is : map stored kept ≡ unmatched (goes eq both ys) (stored front ∷ map stored others))
    (counted : AreCounted eq (stored front ∷ map stored others) ys old common) where
  pub colliding_whole : length others < length kept → IsSifted {A = A} eq both (collision_of bits d (stored front) (map stored others)) ys Absent old common
  colliding_whole many =
      let t = goes eq both ys in
      let all = stored front ∷ map stored others in
      record {
        rest = none_kept t all (all_kept t all (omega (arith, many, ap length is, length-map kept stored, length-map others stored)));
        counted = counted;
      }

  pub colliding_hash : IsCollision bits d front.key_hash (map stored others) → AllHash front.key_hash (map stored kept)
  colliding_hash sound =
      subst (AllHash front.key_hash) (sym is) (each_without (λ e. e.0 ≡ front.key_hash) (goes eq both ys) (stored front ∷ map stored others) (refl, sound.same))

  pub colliding_left : (r : Removal K V A) → IsMadeOf bits d (map stored kept) r → IsSifted eq both (collision_of bits d (stored front) (map stored others)) ys r old common
  colliding_left Absent made = absurd made
  colliding_left Empty made = record { rest = sym is ∙ made; counted = counted }
  colliding_left (Left n) made = record { rest = made ∙ (λ i. record { entries = is i; depth = d; bits = bits }); counted = counted }

pub whole_taken : {X : Type 0} (xs : List X) (i : ℕ) → length xs ≤ i → take i xs ≡ xs
whole_taken [] zero le = refl
whole_taken [] (suc i) le = refl
whole_taken (x ∷ xs) zero le = absurd (omega arith)
whole_taken (x ∷ xs) (suc i) le = ap (λ l. x ∷ l) (whole_taken xs i (omega arith))

-- no collision stands beside a branch
pub branch_beside : {K V : Type 0} {v w : Trie K V} {bits d bits' d' : ℕ} {cs : List (ℕ × Trie K V)} {e : Stored K V} {es : List (Stored K V)} → IsOpenBranch v bits d cs
    → IsOpenCollision w bits' d' e es → w.bits ≡ v.bits → w.depth ≡ v.depth → ⊥
branch_beside {K} {V} {v} {w} {bits} {d} {bits'} {d'} o q same_bits same_depth =
    let b : bits' ≡ bits = sym (ap (λ (t : Trie K V). t.bits) q.is) ∙ same_bits ∙ ap (λ (t : Trie K V). t.bits) o.is in
    let e : d' ≡ d = sym (ap (λ (t : Trie K V). t.depth) q.is) ∙ same_depth ∙ ap (λ (t : Trie K V). t.depth) o.is in
    let left = o.sound.left in
    let full = q.sound.full in
    omega (arith, left, full, e, ap level_count b)

-- no entry, at the root
pub empty_as : {K V : Type 0} (v : Trie K V) (bits : ℕ) → v.bits ≡ bits → v.depth ≡ 0 → empty_of bits ≡ record v { entries = [] }
empty_as v bits b top = λ i. record { entries = []; depth = sym top i; bits = sym b i }

-- what is left beside nothing
pub sifted_alone : {K V A : Type 0} (eq : K → K → Bool) (both : Bool) (v : Trie K V) (r : Removal K V A) (n : ℕ) → r ≡ cond both Empty Absent → IsSifted eq both v [] r n n
sifted_alone {K} {V} {A} eq both v r n is = subst (λ r. IsSifted eq both v [] r n n) (sym is) (go both)
  where
    counted : AreCounted eq v.entries [] n n
    counted = ap (λ l. n + length l) (beside_none eq false v.entries)

    go : (both : Bool) → IsSifted {A = A} eq both v [] (cond both Empty Absent) n n
    go true = record { rest = beside_none eq true v.entries; counted = counted }
    go false = record { rest = beside_none eq false v.entries; counted = counted }

pub on_ok_of : {X E P : Type 0} (r : Result X E) → P → OnOk r P
on_ok_of (Ok x) p = p
on_ok_of (Err e) p = tt
