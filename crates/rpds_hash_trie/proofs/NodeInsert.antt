-- Branches that an insertion makes.
use Rattle.rpds_hash_trie.proofs.Words.{nat_tests, Result, Ok, Err, IfOk, ◌≡◌, ℕ, suc, ◌+◌, ◌*◌, ◌^◌, ◌<◌, ◌≤◌, Bool, true, false, List, [], ◌∷◌, ◌++◌, None, length, map, refl, sym, ap, ◌∙◌, subst, arith, is_none, Rc, IsPermutation, append-nil, length-map, IsPermutation-refl, length_permutation, ne_eqb, item_at, put_at, seen, agree, digit, Stored, Trie, flat, AllChildren, IsChildAt, IsSound, IsBranch, IsCollision, AllDigit, AllHash, AllAgree, found, unmatched, matches, branch_of, leaf_of, collision_of, stored, EntryWithHash, IsPutIn}
use Rattle.rpds_hash_trie.specs.HashInPlace.{IsNodeOf}
use Rattle.std.specs.Prelude.{nat_lt}
use Rattle.rpds_hash_trie.specs.HashTrie.{level_count, IsLeaf}
use Rattle.rpds_hash_trie.proofs.Digits.{all_bits, full_depth, same_hash}
use Rattle.rpds_hash_trie.proofs.Flat.{each_along, each_without, without_same}
use Rattle.rpds_hash_trie.proofs.Children.{under, put_perm, put_children, digit_under}
use Rattle.rpds_hash_trie.proofs.NodeRemove.{all_kept, some_gone}
use Rattle.rpds_hash_trie.proofs.OpenNodes.{IsOpenBranch, IsOpenLeaf, IsOpenCollision}
use Rattle.rpds_hash_trie.proofs.Child.{HasChild, HasNoChild, child_is}

-- children of a branch that hold these entries
pub record IsNewBranch {K V : Type 0} (bits d : ℕ) (cs : List (ℕ × Trie K V)) (xs : List (Stored K V)) : Type 0 where
  pub sound : IsBranch bits d cs
  pub entries : IsPermutation xs (flat cs)

module _ {K V : Type 0} (eq : K → K → Bool) (k : K) (w : V) (h bits d : ℕ) (cs : List (ℕ × Trie K V)) (b : IsBranch bits d cs) (c : Trie K V) where
  abbrev t : Stored K V → Bool
  t = matches eq k h

  abbrev p : ℕ
  p = digit (2 ^ bits) d h

  put_new : IsSound c → c.bits ≡ bits → c.depth ≡ suc d → IsPermutation ((h, (k, w)) ∷ unmatched t (under (item_at p cs))) c.entries → AllAgree bits d h (flat cs) → length (flat cs) ≤ length (unmatched t (flat cs)) + 1
      → IsNewBranch bits d (put_at p c cs) ((h, (k, w)) ∷ unmatched t (flat cs))
  put_new sound same lower moved agrees once =
      let below : AllDigit bits d p ((h, (k, w)) ∷ unmatched t (under (item_at p cs))) = (refl, each_without (λ e. digit (2 ^ bits) d e.0 ≡ p) t (under (item_at p cs)) (digit_under eq k h bits d p refl 0 cs b.children)) in
      let child : IsChildAt bits d p c = record { same_bits = same; lower = lower; digits = each_along (λ e. digit (2 ^ bits) d e.0 ≡ p) _ c.entries moved below; sound = sound } in
      let perm : IsPermutation ((h, (k, w)) ∷ unmatched t (flat cs)) (flat (put_at p c cs)) = put_perm eq k h bits d p refl (h, (k, w)) c 0 cs b.children moved in
      let many : length (flat (put_at p c cs)) ≡ suc (length (unmatched t (flat cs))) = length_permutation _ _ perm in
      let several : 2 ≤ length (flat cs) = b.several in
      let low : 0 ≤ p = omega arith in
      let alike : AllAgree bits d h ((h, (k, w)) ∷ unmatched t (flat cs)) = (refl, each_without (λ e. agree (2 ^ bits) d e.0 h) t (flat cs) agrees) in
      record {
        sound = record { bits_in = b.bits_in; left = b.left; several = omega arith; children = put_children eq k h bits d p refl c 0 cs b.children low child; alike = record { with_root = h; all = each_along (λ e. agree (2 ^ bits) d e.0 h) _ _ perm alike } };
        entries = perm;
      }

module _ {K V : Type 0} (eq : K → K → Bool) (k : K) (w : V) (h bits d : ℕ) (v : Trie K V) (cs : List (ℕ × Trie K V)) (o : IsOpenBranch v bits d cs) (agrees : AllAgree v.bits v.depth h v.entries) (once : length v.entries ≤ length (unmatched (matches eq k h) v.entries) + 1) where
  put_opened : (c : Trie K V) → IsSound c → c.bits ≡ bits → c.depth ≡ suc d → IsPermutation ((h, (k, w)) ∷ unmatched (matches eq k h) (under (item_at (digit (2 ^ bits) d h) cs))) c.entries → IsNewBranch bits d (put_at (digit (2 ^ bits) d h) c cs) ((h, (k, w)) ∷ unmatched (matches eq k h) v.entries)
  put_opened c sound same lower moved =
      rw o.is (put_new eq k w h bits d cs o.sound c sound same lower moved (subst (λ (x : Trie K V). AllAgree x.bits x.depth h x.entries) o.is agrees) (subst (λ (x : Trie K V). length x.entries ≤ length (unmatched (matches eq k h) x.entries) + 1) o.is once))

module _ {K V A : Type 0} {eq : K → K → Bool} {k : K} (w : V) {h bits d place : ℕ} {v : Trie K V} {rcs : List (ℕ × Rc (Trie K V) A)} where
  -- a child at a place that had none
  pub put_first : HasNoChild eq k h bits d place v rcs → AllAgree v.bits v.depth h v.entries → length v.entries ≤ length (unmatched (matches eq k h) v.entries) + 1 → {c : Trie K V} → c ≡ leaf_of bits (d + 1) (h, (k, w)) → IsSound c
      → IsNewBranch bits d (put_at place c (seen rcs)) ((h, (k, w)) ∷ unmatched (matches eq k h) v.entries)
  put_first a agrees once {c} is sound =
      let moved : IsPermutation ((h, (k, w)) ∷ unmatched (matches eq k h) (under (item_at (digit (2 ^ bits) d h) (seen rcs)))) c.entries = rw (a.there, is) (IsPermutation-refl ((h, (k, w)) ∷ [])) in
      let lower : c.depth ≡ suc d = ap (λ (x : Trie K V). x.depth) is ∙ (let s : d + 1 ≡ suc d = omega arith in s) in
      rw a.place_is (put_opened eq k w h bits d v (seen rcs) a.opened agrees once c sound (ap (λ (x : Trie K V). x.bits) is) lower moved)

  -- the child n, changed, in its place
  pub put_changed : {old : Rc (Trie K V) A} → HasChild eq k h bits d place v rcs old → AllAgree v.bits v.depth h v.entries → length v.entries ≤ length (unmatched (matches eq k h) v.entries) + 1
      → {n c : Trie K V} → n ≡ old.value → IsPermutation ((h, (k, w)) ∷ unmatched (matches eq k h) n.entries) c.entries → c.bits ≡ n.bits → c.depth ≡ n.depth → IsSound c
      → IsNewBranch bits d (put_at place c (seen rcs)) ((h, (k, w)) ∷ unmatched (matches eq k h) v.entries)
  put_changed {old} a agrees once {n} {c} same perm bits_same depth_same sound =
      let perm' : IsPermutation ((h, (k, w)) ∷ unmatched (matches eq k h) old.value.entries) c.entries = subst (λ (x : Trie K V). IsPermutation ((h, (k, w)) ∷ unmatched (matches eq k h) x.entries) c.entries) same perm in
      let moved : IsPermutation ((h, (k, w)) ∷ unmatched (matches eq k h) (under (item_at (digit (2 ^ bits) d h) (seen rcs)))) c.entries = rw a.there perm' in
      let bits_is = bits_same ∙ (child_is a same).bits_same ∙ ap (λ (x : Trie K V). x.bits) a.opened.is in
      let depth_is = depth_same ∙ (child_is a same).lower ∙ ap (λ (x : Trie K V). suc x.depth) a.opened.is in
      rw a.place_is (put_opened eq k w h bits d v (seen rcs) a.opened agrees once c sound bits_is depth_is moved)

-- a leaf fits below a branch
pub branch_leaf : {K V : Type 0} {bits d : ℕ} {cs : List (ℕ × Trie K V)} → IsBranch bits d cs → IsLeaf bits (d + 1)
branch_leaf b = record { bits_in = b.bits_in; deep = let l = b.left in omega arith }

module _ {K V : Type 0} (bits d : ℕ) (low : (1 ≤ bits) × (bits ≤ 6)) (left : d < level_count bits) (old new : Stored K V) (alike : agree (2 ^ bits) d old.0 new.0) where
  -- one child that holds both
  pub chain_made : (p : ℕ) (c : Trie K V) → digit (2 ^ bits) d old.0 ≡ p → digit (2 ^ bits) d new.0 ≡ p → c.bits ≡ bits → c.depth ≡ suc d → IsSound c → IsPermutation (new ∷ old ∷ []) c.entries → IsNewBranch bits d ((p, c) ∷ []) (new ∷ old ∷ [])
  chain_made p c op np same lower sound perm =
      let both : IsPermutation (new ∷ old ∷ []) (c.entries ++ []) = rw (append-nil c.entries) perm in
      let many : length (c.entries ++ []) ≡ 2 = length_permutation _ _ both in
      let zero_le : 0 ≤ p = omega arith in
      let child : IsChildAt bits d p c = record { same_bits = same; lower = lower; digits = each_along (λ e. digit (2 ^ bits) d e.0 ≡ p) (new ∷ old ∷ []) c.entries perm (np, (op, tt)); sound = sound } in
      let all : AllAgree bits d new.0 (new ∷ old ∷ []) = (refl, (alike, tt)) in
      record {
        sound = record { bits_in = low; left = left; several = omega arith; children = (zero_le, (child, tt)); alike = record { with_root = new.0; all = each_along (λ e. agree (2 ^ bits) d e.0 new.0) _ _ both all } };
        entries = both;
      }

  -- two leaves
  pub fork_made : (p q : ℕ) (a b : Trie K V) → p ≡ digit (2 ^ bits) d old.0 → q ≡ digit (2 ^ bits) d new.0 → (p ≡ q → ⊥) → a ≡ leaf_of bits (d + 1) old → b ≡ leaf_of bits (d + 1) new → IsSound a → IsSound b
      → IsNewBranch bits d (put_at q b (put_at p a [])) (new ∷ old ∷ [])
  fork_made p q a b op np ne ai bi sa sb =
      let eq : K → K → Bool = (λ x y. false) in
      let k : K = new.1.0 in
      let t : Stored K V → Bool = matches eq k new.0 in
      let zero_le : 0 ≤ p = omega arith in
      let zero_le' : 0 ≤ q = omega arith in
      let up : d + 1 ≡ suc d = omega arith in
      let ka : IsChildAt bits d p a = record { same_bits = ap (λ (x : Trie K V). x.bits) ai; lower = ap (λ (x : Trie K V). x.depth) ai ∙ up; digits = rw ai (sym op, tt); sound = sa } in
      let kb : IsChildAt bits d q b = record { same_bits = ap (λ (x : Trie K V). x.bits) bi; lower = ap (λ (x : Trie K V). x.depth) bi ∙ up; digits = rw bi (sym np, tt); sound = sb } in
      let children : AllChildren bits d 0 ((p, a) ∷ []) = (zero_le, (ka, tt)) in
      let none : item_at q ((p, a) ∷ []) ≡ None = rw (ne_eqb q p (λ s. ne (sym s))) refl in
      let moved : IsPermutation (new ∷ unmatched t (under (item_at q ((p, a) ∷ [])))) b.entries = rw (none, bi) (IsPermutation-refl (new ∷ [])) in
      let perm = put_perm eq k new.0 bits d q (sym np) new b 0 ((p, a) ∷ []) children moved in
      let kept : unmatched t (flat ((p, a) ∷ [])) ≡ old ∷ [] = rw ai (without_same eq k new.0 bits d p (old ∷ []) (sym op, tt) (λ s. ne (sym (np ∙ s)))) in
      let both : IsPermutation (new ∷ old ∷ []) (flat (put_at q b ((p, a) ∷ []))) = rw kept at perm in
      let many : length (flat (put_at q b ((p, a) ∷ []))) ≡ 2 = length_permutation _ _ both in
      let all : AllAgree bits d new.0 (new ∷ old ∷ []) = (refl, (alike, tt)) in
      record {
        sound = record { bits_in = low; left = left; several = omega arith; children = put_children eq k new.0 bits d q (sym np) b 0 ((p, a) ∷ []) children zero_le' kb; alike = record { with_root = new.0; all = each_along (λ e. agree (2 ^ bits) d e.0 new.0) _ _ both all } };
        entries = both;
      }

-- the entry in front of the others of its hash
pub collision_kept : {K V : Type 0} (eq : K → K → Bool) (k : K) (h bits d : ℕ) (v : Trie K V) (f : Stored K V) (es rest : List (Stored K V)) → IsOpenCollision v bits d f es → f.0 < 2 ^ 64 → h < 2 ^ 64
    → AllAgree v.bits v.depth h v.entries → length v.entries ≤ length (unmatched (matches eq k h) v.entries) + 1 → unmatched (matches eq k h) (f ∷ es) ≡ rest → IsCollision bits d h rest
collision_kept eq k h bits d v f es rest o fl hl agrees once is =
    let s = o.sound in
    let a : AllAgree bits d h (f ∷ es) = subst (λ x. AllAgree x.bits x.depth h x.entries) o.is agrees in
    let same : f.0 ≡ h = same_hash bits d f.0 h (all_bits bits d s.bits_in.0 s.bits_in.1 s.full) fl hl a.0 in
    let all : AllHash h (f ∷ es) = (same, subst (λ n. AllHash n es) same s.same) in
    let kept : AllHash h rest = subst (AllHash h) is (each_without (λ e. e.0 ≡ h) (matches eq k h) (f ∷ es) all) in
    let some : 1 ≤ length es = s.several in
    let o2 : length (f ∷ es) ≤ length (unmatched (matches eq k h) (f ∷ es)) + 1 = subst (λ x. length x.entries ≤ length (unmatched (matches eq k h) x.entries) + 1) o.is once in
    let l : length (unmatched (matches eq k h) (f ∷ es)) ≡ length rest = ap length is in
    record { bits_in = s.bits_in; full = s.full; several = omega arith; same = kept }

pub put_seen : {X A : Type 0} (p : ℕ) (x : Rc X A) (cs : List (ℕ × Rc X A)) → seen (put_at p x cs) ≡ put_at p x.value (seen cs)
put_seen p x [] = refl
put_seen p x (c ∷ cs) = grind (arith, put_seen p x cs)

-- as many others are left of a collision as before where the key was among its entries
module _ {K V A : Type 0} (test : Stored K V → Bool) (bits d : ℕ) (v : Trie K V) (f : Stored K V) (others rest : List (EntryWithHash K V A)) (o : IsOpenCollision v bits d f (map stored others)) (kept : unmatched test (f ∷ map stored others) ≡ map stored rest) where
  pub collision_fresh : (m n : ℕ) → m ≡ length others → n ≡ length rest → nat_lt m n ≡ is_none (found test v.entries)
  collision_fresh m n ml nl =
      let few : length (f ∷ map stored others) ≡ suc m = ap suc (length-map others stored ∙ sym ml) in
      let many : length (unmatched test (f ∷ map stored others)) ≡ n = ap length kept ∙ length-map rest stored ∙ sym nl in
      rw o.is (grind (arith, nat_tests, few, many, all_kept test (f ∷ map stored others), some_gone test (f ∷ map stored others)))

-- two children set, one after the other
pub two_seen : {X A : Type 0} (p q : ℕ) (x y : Rc X A) (a b c : List (ℕ × Rc X A)) → a ≡ [] → b ≡ put_at p x a → c ≡ put_at q y b → seen c ≡ put_at q y.value (put_at p x.value [])
two_seen p q x y a b c ea eb ec = ap seen ec ∙ put_seen q y b ∙ ap (λ l. put_at q y.value (seen l)) eb ∙ ap (put_at q y.value) (put_seen p x a) ∙ ap (λ l. put_at q y.value (put_at p x.value (seen l))) ea

pub one_seen : {X A : Type 0} (p : ℕ) (x : Rc X A) (a b : List (ℕ × Rc X A)) → a ≡ [] → b ≡ put_at p x a → seen b ≡ (p, x.value) ∷ []
one_seen p x a b ea eb = ap seen eb ∙ put_seen p x a ∙ ap (λ l. put_at p x.value (seen l)) ea

pub branch_node : {K V : Type 0} {bits d : ℕ} {cs : List (ℕ × Trie K V)} {xs : List (Stored K V)} {n : Trie K V} → IsNewBranch bits d cs xs → n ≡ branch_of bits d cs → IsNodeOf bits d xs n
branch_node new is = rw is (record { bits = refl; depth = refl; entries = new.entries })

pub branch_held : {K V E : Type 0} {bits d : ℕ} {cs : List (ℕ × Trie K V)} {xs : List (Stored K V)} → IsNewBranch bits d cs xs → (r : Result (Trie K V) E) → IfOk r (λ n. n ≡ branch_of bits d cs) → IfOk r (IsNodeOf bits d xs)
branch_held new (Ok n) is = branch_node new is
branch_held new (Err e) is = tt

-- two entries of one hash
pub collision_two : {K V A : Type 0} (bits d : ℕ) (old new : EntryWithHash K V A) (es : List (EntryWithHash K V A)) → (1 ≤ bits) × (bits ≤ 6) → d ≤ level_count bits → 64 ≤ d * bits → old.key_hash < 2 ^ 64 → new.key_hash < 2 ^ 64
    → agree (2 ^ bits) d old.key_hash new.key_hash → es ≡ old ∷ [] → IsCollision bits d new.key_hash (map stored es)
collision_two bits d old new es b deep full ol nl a is =
    rw is (record { bits_in = b; full = full_depth bits d b.0 b.1 deep full; several = omega arith; same = (same_hash bits d old.key_hash new.key_hash full ol nl a, tt) })

-- the entry put into a leaf of its key, into a collision, or below a branch
pub leaf_put_in : {K V : Type 0} (test : Stored K V → Bool) (bits d : ℕ) (v : Trie K V) (old new : Stored K V) → IsOpenLeaf v bits d old → test old ≡ true → IsPutIn test new v (leaf_of bits d new) false
leaf_put_in test bits d v old new o hit = rw o.is (record { bits = refl; depth = refl; entries = rw hit (IsPermutation-refl (new ∷ [])); fresh = rw hit refl })

pub collision_put_in : {K V : Type 0} (t : Stored K V → Bool) (bits d : ℕ) (v : Trie K V) (f e : Stored K V) (es rest : List (Stored K V)) → IsOpenCollision v bits d f es → unmatched t (f ∷ es) ≡ rest → {added : Bool} → added ≡ is_none (found t v.entries)
    → IsPutIn t e v (collision_of bits d e rest) added
collision_put_in {K} {V} t bits d v f e es rest o w fresh = record {
  bits = sym (ap (λ (x : Trie K V). x.bits) o.is);
  depth = sym (ap (λ (x : Trie K V). x.depth) o.is);
  entries = rw o.is (subst (λ l. IsPermutation (e ∷ l) (e ∷ rest)) (sym w) (IsPermutation-refl (e ∷ rest)));
  fresh = fresh;
}

pub branch_put_in : {K V : Type 0} {t : Stored K V → Bool} {e : Stored K V} {bits d : ℕ} {v : Trie K V} {old cs : List (ℕ × Trie K V)} → IsOpenBranch v bits d old → IsNewBranch bits d cs (e ∷ unmatched t v.entries) → {added : Bool} → added ≡ is_none (found t v.entries)
    → IsPutIn t e v (branch_of bits d cs) added
branch_put_in {K} {V} o new fresh = record { bits = sym (ap (λ (x : Trie K V). x.bits) o.is); depth = sym (ap (λ (x : Trie K V). x.depth) o.is); entries = new.entries; fresh = fresh }

pub put_as : {K V A : Type 0} {t : Stored K V → Bool} {e : Stored K V} {v x : Trie K V} {added : Bool} → IsPutIn t e v x added → (n : Rc (Trie K V) A) → n.value ≡ x → IsPutIn t e v n.value added
put_as p n is = rw is p
