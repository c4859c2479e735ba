-- Same versions, same answers.
use Rattle.std.proofs.Common.{◌≡◌, ◌&&◌, ◌||◌, ℕ, Bool, true, false, cond, not, All, Option, Some, None, List, [], ◌∷◌, length, slice_get, is_some, is_none}
use Rattle.std.proofs.Common.{refl, sym, ap, ◌∙◌}
use Rattle.std.specs.Cmp.{IsEquivalence}
use Rattle.std.specs.List.{IsDistinct, list_all, list_any}
use Rattle.std.specs.List.Sorted.{IsPermutation}
use Rattle.std.specs.Map.{keys_of}
use Rattle.std.specs.Option.{option_map}
use Rattle.std.proofs.lemmas.List.Sorted.{list_any-IsPermutation, length_permutation}
use Rattle.rpds_hash.specs.HashedMap.{find}
use Rattle.rpds_hash.specs.HashedSet.{find_member, is_subset, is_disjoint, members_equal}
use Rattle.rpds_hash.specs.PairsEqual.{pairs_equal, pairs_equiv}
use Rattle.rpds_hash_trie.proofs.KeyLaws.{find_permuted}
use Rattle.rpds_hash.proofs.MemberLaws.{member_permuted}
use Rattle.rpds_hash.proofs.PairsEqual.{equal_alike}
use Rattle.rpds_tree.specs.OrderedMap.{OrderedMap}
use Rattle.rpds_tree.specs.OrderedSet.{OrderedSet}
use Rattle.rpds_table.specs.Answers.{AnswerValue, pair, member, count, truth}
use Rattle.rpds_table.specs.Asked.{of_entries, of_equal, of_items, of_two_sequences, of_two_sets, versions_of}
use Rattle.rpds_table.specs.Compared.{Compared}
use Rattle.rpds_table.specs.History.{SameOption}
use Rattle.rpds_table.specs.Kinds.{IsInOrder, Same, answer_of, answer_of_two}
use Rattle.rpds_table.specs.Kinds.RedBlackTreeMaps as maps
use Rattle.rpds_table.specs.Kinds.RedBlackTreeSets as sets
use Rattle.rpds_table.specs.Questions.{answer, answer_at}
use Rattle.rpds_table.specs.SameTables.{SameTables}
use Rattle.rpds_table.specs.TableContents.{Contents}
use Rattle.rpds_table.specs.Types.{Question, Version}
use Rattle.rpds_table.specs.declared.table.question.Question.TheVariants as questions
use Rattle.rpds_table.specs.declared.table.version.Version.TheVariants as version
use Rattle.rpds_table.proofs.Ordered.{version_is_in_order}

all_by_any : {X : Type 0} (p : X → Bool) (xs : List X) → list_all p xs ≡ not (list_any (λ x. not (p x)) xs)
all_by_any p [] = refl
all_by_any p (x ∷ xs) = go (p x) (all_by_any p xs) where
  go : (b : Bool) → list_all p xs ≡ not (list_any (λ x. not (p x)) xs) → (b && list_all p xs) ≡ not (not b || list_any (λ x. not (p x)) xs)
  go true is = is
  go false is = refl

-- all of a list pass a test where all of its permutation do
all_permuted : {X : Type 0} (p : X → Bool) (xs ys : List X) → IsPermutation xs ys → list_all p xs ≡ list_all p ys
all_permuted p xs ys s = all_by_any p xs ∙ ap not (list_any-IsPermutation (λ x. not (p x)) xs ys s) ∙ sym (all_by_any p ys)

entries_agree : {K V X : Type 0} (one : Option X → AnswerValue K V) (f g : K → Option X) (es fs : List X) → ((k : K) → f k ≡ g k) → length es ≡ length fs
    → (q : Question K)
    → of_entries one f es q ≡ of_entries one g fs q
entries_agree one f g es fs found len (questions.Key i k) = ap one (found k)
entries_agree one f g es fs found len (questions.Size i) = ap count len
entries_agree one f g es fs found len (questions.Contains i k) = ap (λ o. truth (is_some o)) (found k)
entries_agree one f g es fs found len q = refl

module _ {K V : Type 0} (keys : Compared K) (values : Compared V) (key_law : IsEquivalence keys.eq) (value_law : IsEquivalence values.eq) where
  -- PAIRS OF DISTINCT KEYS, IN TWO ORDERS
  module _ (es fs : List (K × V)) (permuted : IsPermutation es fs) (des : IsDistinct keys.eq (keys_of es)) (dfs : IsDistinct keys.eq (keys_of fs)) where
    found : (k : K) → find keys.eq k es ≡ find keys.eq k fs
    found k = sym (find_permuted key_law es fs permuted dfs k)

    equal : pairs_equal keys.eq values.eq es fs ≡ true
    equal = equal_alike keys.eq key_law values.eq value_law.refl es fs des dfs found

    equal_left : (gs : List (K × V)) → pairs_equal keys.eq values.eq es gs ≡ pairs_equal keys.eq values.eq fs gs
    equal_left gs = (pairs_equiv keys.eq values.eq key_law value_law).congr es fs gs equal

    equal_right : (gs : List (K × V)) → pairs_equal keys.eq values.eq gs es ≡ pairs_equal keys.eq values.eq gs fs
    equal_right gs =
        let law = pairs_equiv keys.eq values.eq key_law value_law in
        law.symm gs es ∙ law.congr es fs gs equal ∙ law.symm fs gs

  -- DISTINCT MEMBERS, IN TWO ORDERS
  module _ (ms ns : List K) (permuted : IsPermutation ms ns) (distinct : IsDistinct keys.eq ns) where
    member_found : (k : K) → find_member keys.eq k ms ≡ find_member keys.eq k ns
    member_found k = sym (member_permuted keys.eq key_law ms ns permuted distinct k)

    subset_left : (os : List K) → is_subset keys.eq ms os ≡ is_subset keys.eq ns os
    subset_left os = all_permuted (λ m. is_some (find_member keys.eq m os)) ms ns permuted

    subset_right : (os : List K) → is_subset keys.eq os ms ≡ is_subset keys.eq os ns
    subset_right os = λ i. list_all (λ m. is_some (member_found m i)) os

    disjoint_left : (os : List K) → is_disjoint keys.eq ms os ≡ is_disjoint keys.eq ns os
    disjoint_left os = all_permuted (λ m. is_none (find_member keys.eq m os)) ms ns permuted

    disjoint_right : (os : List K) → is_disjoint keys.eq os ms ≡ is_disjoint keys.eq os ns
    disjoint_right os = λ i. list_all (λ m. is_none (member_found m i)) os

  -- what two hashed sets answer, by what is said of their members
  abbrev of_sets : List K → List K → Question K → AnswerValue K V
  of_sets s o q = of_two_sets (is_disjoint keys.eq) (is_subset keys.eq) s o (of_equal (members_equal keys.eq s o) q) q

  sets_agree : (s o t r : List K) → is_disjoint keys.eq s o ≡ is_disjoint keys.eq t r → is_subset keys.eq s o ≡ is_subset keys.eq t r
      → is_subset keys.eq o s ≡ is_subset keys.eq r t
      → (q : Question K) → of_sets s o q ≡ of_sets t r q
  sets_agree s o t r apart within around (questions.Disjoint i j) = ap truth apart
  sets_agree s o t r apart within around (questions.Subset i j) = ap truth within
  sets_agree s o t r apart within around (questions.Equal i j) = λ n. truth (within n && around n)
  sets_agree s o t r apart within around q = refl

  -- VERSIONS
  module _ {H A S : Type 0} (hash : H → K → ℕ) where
    one_agrees : (v w : Version K V H A S) → Same v w → IsInOrder keys hash v → IsInOrder keys hash w → (q : Question K)
        → answer_of keys v q ≡ answer_of keys w q
    one_agrees (version.List xs) (version.List ys) e c d q = ap (λ l. answer_of {V = V} {H = H} {A = A} {S = S} keys (version.List l) q) e
    one_agrees (version.Stack xs) (version.Stack ys) e c d q = ap (λ l. answer_of {V = V} {H = H} {A = A} {S = S} keys (version.Stack l) q) e
    one_agrees (version.Queue p) (version.Queue r) e c d q = ap (λ l. of_items l q) e
    one_agrees (version.Vector x) (version.Vector y) e c d q = ap (λ l. answer_of {V = V} {H = H} {A = A} {S = S} keys (version.Vector l) q) e
    one_agrees (version.HashTrieMap m) (version.HashTrieMap n) e c d q =
        entries_agree pair (λ k. find keys.eq k m.entries) (λ k. find keys.eq k n.entries) m.entries n.entries
        (found m.entries n.entries e.0 c.distinct d.distinct) (sym (length_permutation m.entries n.entries e.0)) q
    one_agrees (version.HashTrieSet s) (version.HashTrieSet t) e c d q =
        entries_agree member (λ k. find_member keys.eq k s.members) (λ k. find_member keys.eq k t.members) s.members t.members
        (member_found s.members t.members e.0 d.distinct) (sym (length_permutation s.members t.members e.0)) q
    one_agrees (version.RedBlackTreeMap m) (version.RedBlackTreeMap n) e c d q = ap (λ es. maps.answer keys (record { entries = es; depth = 0 }) q) e
    one_agrees (version.RedBlackTreeSet s) (version.RedBlackTreeSet t) e c d q = ap (λ ms. sets.answer keys {V = V} (record { members = ms; depth = 0 }) q) e
    one_agrees v w e c d q = absurd e

    -- what a version answers together with x, as the first of the two or as the second
    abbrev with_other : Bool → Version K V H A S → Version K V H A S → Question K → AnswerValue K V
    with_other first v x q = cond first (answer_of_two keys values v x q) (answer_of_two keys values x v q)

    two_agree : (b : Bool) (v w : Version K V H A S) → Same v w → IsInOrder keys hash v → IsInOrder keys hash w → (x : Version K V H A S) (q : Question K)
        → with_other b v x q ≡ with_other b w x q
    two_agree b (version.List xs) (version.List ys) e c d x q = ap (λ l. with_other b (version.List l) x q) e
    two_agree b (version.Stack xs) (version.Stack ys) e c d x q = ap (λ l. with_other b (version.Stack l) x q) e
    two_agree b (version.Queue p) (version.Queue r) e c d (version.Queue o) q =
        ap (λ l. cond b (of_two_sequences values l o.items q) (of_two_sequences values o.items l q)) e
    two_agree b (version.Queue p) (version.Queue r) e c d x q = refl
    two_agree b (version.Vector y) (version.Vector z) e c d x q = ap (λ l. with_other b (version.Vector l) x q) e
    two_agree b (version.HashTrieMap m) (version.HashTrieMap n) e c d (version.HashTrieMap o) q = λ i.
        cond b (of_equal (equal_left m.entries n.entries e.0 c.distinct d.distinct o.entries i) q) (of_equal
        (equal_right m.entries n.entries e.0 c.distinct d.distinct o.entries i) q)
    two_agree b (version.HashTrieMap m) (version.HashTrieMap n) e c d x q = refl
    two_agree b (version.HashTrieSet s) (version.HashTrieSet t) e c d (version.HashTrieSet o) q =
        let within = subset_left s.members t.members e.0 d.distinct o.members in
        let around = subset_right s.members t.members e.0 d.distinct o.members in
        let first = sets_agree s.members o.members t.members o.members (disjoint_left s.members t.members e.0 d.distinct o.members) within around q in
        let second = sets_agree o.members s.members o.members t.members (disjoint_right s.members t.members e.0 d.distinct o.members) around within q in
        λ i. cond b (first i) (second i)
    two_agree b (version.HashTrieSet s) (version.HashTrieSet t) e c d x q = refl
    two_agree b (version.RedBlackTreeMap m) (version.RedBlackTreeMap n) e c d (version.RedBlackTreeMap o) q =
        let map : List (K × V) → OrderedMap K V = λ es. record { entries = es; depth = 0 } in
        ap (λ es. cond b (maps.answer_of_two keys values (map es) o q) (maps.answer_of_two keys values o (map es) q)) e
    two_agree b (version.RedBlackTreeMap m) (version.RedBlackTreeMap n) e c d x q = refl
    two_agree b (version.RedBlackTreeSet s) (version.RedBlackTreeSet t) e c d (version.RedBlackTreeSet o) q =
        let set : List K → OrderedSet K = λ ms. record { members = ms; depth = 0 } in
        ap (λ ms. cond b (sets.answer_of_two keys {V = V} (set ms) o q) (sets.answer_of_two keys {V = V} o (set ms) q)) e
    two_agree b (version.RedBlackTreeSet s) (version.RedBlackTreeSet t) e c d x q = refl
    two_agree b v w e c d x q = absurd e

    pub answers_agree : (t u : Contents K V H A S) → All (IsInOrder keys hash) t.versions → All (IsInOrder keys hash) u.versions → SameTables t u
        → (q : Question K)
        → answer keys values t q ≡ answer keys values u q
    answers_agree t u here there same q =
        at (slice_get t.versions (versions_of q).0) (slice_get u.versions (versions_of q).0) refl refl (same.versions (versions_of q).0) (versions_of q).1
      where
        beside : (v w : Version K V H A S) → Same v w → IsInOrder keys hash v → IsInOrder keys hash w → (j : ℕ) (x y : Option (Version K V H A S))
            → slice_get t.versions j ≡ x → slice_get u.versions j ≡ y → SameOption x y
            → answer_at keys values q (Some v) (Some x) ≡ answer_at keys values q (Some w) (Some y)
        beside v w s c d j None None is it also = refl
        beside v w s c d j (Some x) (Some y) is it also =
            two_agree true v w s c d x q ∙ two_agree false x y also (version_is_in_order keys hash t j x here is)
            (version_is_in_order keys hash u j y there it) w q
        beside v w s c d j x y is it also = absurd also

        at : (v w : Option (Version K V H A S)) → slice_get t.versions (versions_of q).0 ≡ v → slice_get u.versions (versions_of q).0 ≡ w → SameOption v w
            → (o : Option ℕ)
            → answer_at keys values q v (option_map (λ j. slice_get t.versions j) o) ≡ answer_at keys values q w (option_map (λ j. slice_get u.versions j) o)
        at None None is it s o = refl
        at (Some v) (Some w) is it s None =
            one_agrees v w s (version_is_in_order keys hash t (versions_of q).0 v here is) (version_is_in_order keys hash u (versions_of q).0 w there it) q
        at (Some v) (Some w) is it s (Some j) =
            beside v w s (version_is_in_order keys hash t (versions_of q).0 v here is) (version_is_in_order keys hash u (versions_of q).0 w there it) j
            (slice_get t.versions j) (slice_get u.versions j) refl refl (same.versions j)
        at v w is it s o = absurd s
