-- What a walk from one end has yet to give.
use Rattle.rpds_vector.proofs.Words.{◌≡◌, ℕ, zero, suc, ◌+◌, ◌-◌, ◌*◌, ◌/◌, ◌%◌, ◌^◌, ◌<◌, ◌≤◌, ◌⊎◌, inl, inr, Option, Some, None, IfSome, List, [], ◌∷◌}
use Rattle.rpds_vector.proofs.Words.{◌++◌, length, length-append}
use Rattle.rpds_vector.proofs.Words.{get_or, drop, take, reverse, refl, ap, sym, ◌∙◌, subst, append_assoc, append-nil, arith, Bool, true, false, drop-append-le}
use Rattle.rpds_vector.proofs.Words.{length-drop, length-take-le, reverse-append, reverse-reverse, take-append-le, take-take, take_all, zero-mul, suc-mul}
use Rattle.rpds_vector.proofs.Words.{div-one}
use Rattle.rpds_vector.proofs.Words.{drop-append-add, drop-append_seam, take-append-add, take-append_seam, Bor, IsLastAndRest, MatchOption, Rc, along, behind}
use Rattle.rpds_vector.proofs.Words.{behind_append, behind_drop, behind_length, behind_take, Trie, IsRow, IsSound, flatten, height_of, span, Contents, IsIn, IsPartAt, ahead}
use Rattle.rpds_vector.proofs.Words.{div-add-mod', mod-eq_of_lt, mod_below, mul-add-mod_self_right}
use Rattle.std.proofs.lemmas.Bool.{cases_lt}
use Rattle.std.proofs.lemmas.List.{drop-drop, length-reverse}
use Rattle.rpds_vector.specs.VectorNode.{IsSubtree}
use Rattle.rpds_vector.specs.VectorWalk.{IsPrefix}
use Rattle.rpds_vector.proofs.Descent.{root_counted}
use Rattle.rpds_vector.proofs.Levels.{span_one}
use Rattle.rpds_vector.proofs.OpenNodes.{get_behind}
use Rattle.rpds_vector.proofs.Places.{IsInBranch, child_inside, child_there, row, items, split}
use Rattle.rpds_vector.proofs.Roots.{IsOpened}
use Rattle.rpds_vector.proofs.Spans.{span_pos, span_zero}

module _ {X : Type 0} where
  along_none : (b : Bool) → along {T = X} b [] ≡ []
  along_none false = refl
  along_none true = refl

  -- a row that was cut at its last item
  cut_last : (xs ys : List X) (x : X) → reverse xs ≡ x ∷ reverse ys → xs ≡ ys ++ x ∷ []
  cut_last xs ys x e = sym (reverse-reverse xs) ∙ ap reverse e ∙ reverse-append (x ∷ []) (reverse ys) ∙ ap (λ z. z ++ x ∷ []) (reverse-reverse ys)

  -- what `split_last` gives comes first on the way from the back
  pub last_first : (row : List X) (r : Option (Bor X × Bor (List X))) → MatchOption r (length row ≡ 0) (λ cut. IsLastAndRest row cut.0.now cut.1.now)
      → MatchOption r (row ≡ []) (λ cut. reverse row ≡ cut.0.now ∷ reverse cut.1.now)
  last_first [] None e = refl
  last_first (x ∷ row) None e = absurd (omega (arith, e))
  last_first row (Some cut) e = ap reverse e.0 ∙ reverse-append cut.1.now (cut.0.now ∷ [])

  -- a slice of a row, from a place on
  slice_from : (n : ℕ) (row xs : List X) → row ≡ xs → take (length row - n) (drop n row) ≡ drop n xs
  slice_from n row xs e = take_all (length row - n) (drop n row) (omega (arith, length-drop n row)) ∙ ap (λ l. drop n l) e

module _ {T : Type 0} where
  -- the items of the child i among those of its row
  record IsPart (xs : List T) (n : ℕ) (part : List T) : Type 0 where
    front : List T
    rest : List T
    is : xs ≡ front ++ (part ++ rest)
    before : length front ≡ n

  row_part : (b h c : ℕ) (ks : List (Trie T)) (i : ℕ) (k : Trie T) → IsRow b h c ks → i < length ks → k ≡ get_or ks i k → IsPart (flatten ks) (i * c) k.items
  row_part b h c [] i k w p e = absurd (omega arith)
  row_part b h c (a ∷ ks) zero k w p e = record {
    front = [];
    rest = flatten ks;
    is = ap (λ (t : Trie T). t.items ++ flatten ks) (sym e);
    before = omega
        (arith, zero-mul c);
  }
  row_part b h c (a ∷ ks) (suc i) k w p e =
      let full : length a.items ≡ c = w.0.full (omega arith) in
      let part = row_part b h c ks i k w.1 (omega arith) e in
      record {
        front = a.items ++ part.front;
        rest = part.rest;
        is = ap (λ l. a.items ++ l) part.is ∙ sym (append_assoc a.items part.front (k.items ++ part.rest));
        before = omega (arith, length-append a.items part.front, part.before, suc-mul i c);
      }

  -- a node below a child is one of the whole
  part_within : (xs part leaf : List T) (n m low place : ℕ) → IsPart xs n part → IsPartAt part m low leaf → n + m ≡ place → IsPartAt xs place low leaf
  part_within xs part leaf n m low place p l e = record {
    front = p.front ++ l.front;
    rest = l.rest ++ p.rest;
    is = p.is
        ∙ ap (λ z. p.front ++ (z ++ p.rest)) l.is
        ∙ ap (λ z. p.front ++ z) (append_assoc l.front (leaf ++ l.rest) p.rest)
        ∙ ap (λ z. p.front ++ (l.front ++ z)) (append_assoc leaf l.rest p.rest)
        ∙ sym (append_assoc p.front l.front (leaf ++ (l.rest ++ p.rest)));
    before = omega (arith, length-append p.front l.front, p.before, l.before);
    inside = l.inside;
  }

-- the node of an index below a branch
module _ {T A : Type 0} {v : Trie T} {b : ℕ} {rcs : List (Rc (Trie T) A)} {n H i : ℕ} (a : IsInBranch v b rcs n H i) where
  pub part_below : n % span v.bits (H + 1) < length v.items → {rc : Rc (Trie T) A} → rc ≡ get_or rcs i rc → (w : Trie T) → w ≡ rc.value
      → (low : ℕ) (part : List T) → IsPartAt w.items (n % span w.bits (H - 1 + 1)) (n % span w.bits (low + 1)) part
      → IsPartAt v.items (n % span v.bits (H + 1)) (n % span v.bits (low + 1)) part
  part_below there {rc} e w at low part l =
      let c = span b H in
      let k = child_there a there e in
      let inside : i < length (behind rcs) = omega (arith, child_inside a there, behind_length rcs) in
      let child = row_part b (height_of (behind rcs)) c (behind rcs) i rc.value (row a) inside (get_behind rcs i rc e) in
      let below : IsPartAt rc.value.items (n % c) (n % span v.bits (low + 1)) part = rw (at, k.place, k.bits) at l in
      rw (split a, items a) (part_within (flatten (behind rcs)) rc.value.items part (i * c) (n % c) (n % span v.bits (low + 1)) (i * c + n % c) child
      below refl)

-- a node itself
pub part_itself : {T : Type 0} {v : Trie T} {n H low : ℕ} → IsIn v n H → H ≡ low
    → IsPartAt v.items (n % span v.bits (H + 1)) (n % span v.bits (low + 1)) v.items
part_itself {v = v} i e = rw (sym e) (record { front = []; rest = []; is = sym (append-nil v.items); before = omega arith; inside = i.there })

low_is : (n b : ℕ) → n / span b 0 % 2 ^ b ≡ n % 2 ^ b
low_is n b = rw (span_zero b, div-one n) refl

-- the place in a leaf, as the program computes it
pub place_is : {T : Type 0} {s : Contents T} {xs : List T} {bits : ℕ} (n place : ℕ) → ◌≡◌ {A = Contents T} (record { items = xs; bits = bits }) s
    → place ≡ n / span bits 0 % 2 ^ bits → place ≡ n % 2 ^ s.bits
place_is {T} {bits = bits} n place view is = is ∙ low_is n bits ∙ ap (λ (s : Contents T). n % 2 ^ s.bits) view

-- a node below the root
pub part_of_root : {T : Type 0} {s : Contents T} {v : Trie T} {bits len : ℕ} → IsOpened s v bits len → (n m low : ℕ) → m ≡ n → (part : List T)
    → IsPartAt v.items m (n % span v.bits (low + 1)) part → IsPartAt s.items n (n % span s.bits (low + 1)) part
part_of_root o n m low e part l = rw o.is (rw (e, o.same_bits) at l)

-- a leaf below the root
pub leaf_of_root : {T : Type 0} (s : Contents T) (n : ℕ) {part leaf : List T} → leaf ≡ part → IsPartAt s.items n (n % span s.bits (0 + 1)) part
    → IsPartAt s.items n (n % 2 ^ s.bits) leaf
leaf_of_root s n e l = rw e (rw (span_one s.bits) at l)

-- some items of a leaf that come next on the way, where n are left
pub record IsNextLeaf {T A : Type 0} (back : Bool) (xs : List T) (cut : List (Rc T A)) (n : ℕ) : Type 0 where
  pub next : IsPrefix (along back (behind cut)) (ahead back n xs)
  pub some : 0 < length cut

module _ {T A : Type 0} {xs : List T} {n i p : ℕ} (row : List (Rc T A)) (l : IsPartAt xs n i (behind row)) (same : p ≡ i) where
  pub place_inside : p < length row
  place_inside = omega (arith, l.inside, behind_length row, same)

  pub next_forward : (left : ℕ) → length xs - left ≡ n → IsNextLeaf false xs (take (length row - p) (drop p row)) left
  next_forward left at =
      let leaf = behind row in
      let cut = drop p row in
      let items : behind cut ≡ drop i leaf = ap (λ k. behind (drop k row)) same ∙ behind_drop i row in
      let here : drop n xs ≡ behind cut ++ l.rest = ap (λ k. drop k xs) (sym l.before) ∙ ap (λ z. drop (length l.front + i) z) l.is
      ∙ drop-append-add l.front (leaf ++ l.rest) i ∙ drop-append-le i leaf l.rest (omega (arith, l.inside)) ∙ ap (λ z. z ++ l.rest) (sym items) in
      rw (slice_from p row row refl) (record { next = (l.rest, rw at here); some = omega (arith, length-drop p row, place_inside) })

  pub next_back : (left : ℕ) → n + 1 ≡ left → IsNextLeaf true xs (take (p + 1) row) left
  next_back left end =
      let leaf = behind row in
      let cut = take (p + 1) row in
      let items : behind cut ≡ take (i + 1) leaf = ap (λ k. behind (take (k + 1) row)) same ∙ behind_take (i + 1) row in
      let whole_way : left ≡ length l.front + (i + 1) = omega (arith, l.before, end) in
      let here : take left xs ≡ l.front ++ behind cut = ap (λ k. take k xs) whole_way ∙ ap (λ z. take (length l.front + (i + 1)) z) l.is
      ∙ take-append-add l.front (leaf ++ l.rest) (i + 1) ∙ ap (λ z. l.front ++ z)
      (take-append-le (i + 1) leaf l.rest (omega (arith, l.inside)) ∙ sym items) in
      record {
        next = (reverse l.front, ap reverse here ∙ reverse-append l.front (behind cut));
        some = omega
            (arith, length-take-le (p + 1) row (omega (arith, place_inside)));
      }

-- the place behind the next edge is a multiple of the span
last_place : (e c : ℕ) → 0 < c → 0 < e → e % c ≡ 0 → (e - 1) % c + 1 ≡ c
last_place e c some more edge =
    let n = e - 1 in
    let low : n % c < c = mod_below n c some in
    elim (cases_lt (n % c + 1) c) as (λ _. n % c + 1 ≡ c) [
      | inl less ↦
          let split : n / c * c + (n % c + 1) ≡ e = omega (arith, div-add-mod' n c) in
          let rest : (n / c * c + (n % c + 1)) % c ≡ n % c + 1 = mul-add-mod_self_right (n / c) c (n % c + 1) ∙ mod-eq_of_lt less in
          absurd (omega (arith, rest, ap (λ k. k % c) split, edge))
      | inr same ↦ omega arith
    ]

-- a node of few levels at whose edge a walk stands
module _ {T : Type 0} {s : Contents T} {n e : ℕ} {v : Trie T} (sub : IsSubtree s n e v) where
  abbrev place : ℕ
  place = n % span s.bits (v.height + 1)

  abbrev part : IsPartAt s.items n place v.items
  part = sub.part

  size : length s.items ≡ length part.front + (length v.items + length part.rest)
  size = ap (λ (z : List T). length z) part.is ∙ length-append part.front (v.items ++ part.rest)
      ∙ ap (λ k. length part.front + k) (length-append v.items part.rest)

  pub subtree_forward : (left : ℕ) → length s.items - left ≡ n → n < length s.items → e ≡ n → IsPrefix v.items (drop (length s.items - left) s.items)
  subtree_forward left place_is inside at =
      let begins : place ≡ 0 = elim sub.edge as (λ _. place ≡ 0)
      [ inl end ↦ absurd (omega (arith, end)) | inr edge ↦ ap (λ k. k % span s.bits (v.height + 1)) (sym at) ∙ edge ] in
      let before : n ≡ length part.front = omega (arith, part.before, begins) in (
        part.rest,
        ap (λ k. drop k s.items) (place_is ∙ before) ∙ ap (λ z. drop (length part.front) z) part.is
            ∙ drop-append_seam part.front (v.items ++ part.rest),
      )

  pub subtree_back : n < length s.items → n + 1 ≡ e → IsPrefix (reverse v.items) (reverse (take e s.items))
  subtree_back inside at =
      let less : e - 1 ≡ n = omega arith in
      let whole : e ≡ length part.front + length v.items = elim sub.edge as (λ _. e ≡ length part.front + length v.items) [
        | inl end ↦ omega (arith, end, size, part.before, part.inside)
        | inr edge ↦
            let last : place + 1 ≡ span s.bits (v.height + 1) = rw less at
            (last_place e (span s.bits (v.height + 1)) (span_pos s.bits (v.height + 1)) (omega arith) edge) in
            omega (arith, last, sub.room, part.before, part.inside)
      ] in
      let all : s.items ≡ (part.front ++ v.items) ++ part.rest = part.is ∙ sym (append_assoc part.front v.items part.rest) in
      let here : take e s.items ≡ part.front ++ v.items = ap (λ k. take k s.items) (whole ∙ sym (length-append part.front v.items))
      ∙ ap (λ z. take (length (part.front ++ v.items)) z) all ∙ take-append_seam (part.front ++ v.items) part.rest in
      (reverse part.front, ap reverse here ∙ reverse-append part.front v.items)

-- the node that was found below the root
pub subtree_of : {T : Type 0} {s : Contents T} {v : Trie T} {bits len : ℕ} → IsOpened s v bits len → (n e low : ℕ) (w : Trie T)
    → IsPartAt s.items n (n % span s.bits (low + 1)) w.items → w.height ≡ low → w.bits ≡ v.bits → IsSound w → low ≤ 3 → (e ≡ len)
    ⊎ (e % span bits (low + 1) ≡ 0) → IsSubtree s n e w
subtree_of {s = s} o n e low w part level same sound few edge =
    let seen : s.bits ≡ _ = ap (λ (t : Contents _). t.bits) o.is in
    let bits : w.bits ≡ s.bits = same ∙ o.same_bits ∙ sym seen in
    record {
      low = omega (arith, level, few);
      part = rw level part;
      room = rw bits at sound.room;
      edge = elim edge as (λ _. (e ≡ length s.items) ⊎ (e % span s.bits (w.height + 1) ≡ 0))
          [ inl end ↦ inl (end ∙ root_counted o) | inr place ↦ inr (rw (level, seen) place) ];
    }

module _ {T : Type 0} (s : Contents T) (left : ℕ) where
  pub some_forward : (n : ℕ) → length s.items - left ≡ n → n < length s.items → (r : Option (Bor (Trie T))) → IfSome r (λ node. IsSubtree s n n node.now)
      → IfSome r (λ node. IsPrefix node.now.items (drop (length s.items - left) s.items))
  some_forward n at inside None sub = tt
  some_forward n at inside (Some node) sub = subtree_forward sub left at inside refl

  pub some_back : (n : ℕ) → n + 1 ≡ left → n < length s.items → (r : Option (Bor (Trie T))) → IfSome r (λ node. IsSubtree s n left node.now)
      → IfSome r (λ node. IsPrefix (reverse node.now.items) (reverse (take left s.items)))
  some_back n at inside None sub = tt
  some_back n at inside (Some node) sub = subtree_back sub inside at

-- what lies ahead of a walk once it has given a row
module _ {T : Type 0} where
  record IsLess (b : Bool) (n m : ℕ) (xs row later : List T) : Type 0 where
    less : m ≤ n
    rest : ahead b (n - m) xs ≡ later

  less_ahead : (b : Bool) (n m : ℕ) (xs row later : List T) → n ≤ length xs → length row ≡ m → ahead b n xs ≡ row ++ later → IsLess b n m xs row later
  less_ahead false n m xs row later le size e =
      let less : m ≤ n = omega (arith, le, length-drop (length xs - n) xs, ap (λ (z : List T). length z) e, length-append row later, size) in
      let place : length xs - (n - m) ≡ length xs - n + m = omega arith in
      record {
        less = less;
        rest = ap (λ k. drop k xs) place ∙ sym (drop-drop m (length xs - n) xs) ∙ ap (λ z. drop m z) e
            ∙ ap (λ k. drop k (row ++ later)) (sym size) ∙ drop-append_seam row later;
      }
  less_ahead true n m xs row later le size e =
      let turned : take n xs ≡ reverse later ++ reverse row = sym (reverse-reverse (take n xs)) ∙ ap reverse e ∙ reverse-append row later in
      let long : n ≡ length later + m = omega (
        arith,
        length-take-le n xs le,
        length-reverse (take n xs),
        ap (λ (z : List T). length z) e,
        length-append row
            later,
        size,
      ) in
      let short : n - m ≡ length (reverse later) = omega (arith, long, length-reverse later) in
      let taken : take (n - m) xs ≡ reverse later = sym (take-take (n - m) n xs (omega arith)) ∙ ap (λ z. take (n - m) z) turned
      ∙ ap (λ k. take k (reverse later ++ reverse row)) short ∙ take-append_seam (reverse later) (reverse row) in
      record { less = omega (arith, long); rest = ap reverse taken ∙ reverse-reverse later }

  along_length : (b : Bool) (xs : List T) → length (along b xs) ≡ length xs
  along_length true xs = length-reverse xs
  along_length false xs = refl

-- a walk that has given the items of a leaf, and stands before those below a node
pub record IsGiven {T A : Type 0} (b : Bool) (n : ℕ) (xs : List T) (cut : List (Rc T A)) (below : List T) : Type 0 where
  pub less : length cut ≤ n
  pub items : ahead b n xs ≡ along b (behind cut) ++ ahead b (n - length cut) xs
  pub sound : (n - length cut ≤ length xs) × IsPrefix below (ahead b (n - length cut) xs)

pub given : {T A : Type 0} (b : Bool) (n : ℕ) (xs : List T) (cut : List (Rc T A)) (below : List T) → n ≤ length xs
    → IsPrefix (along b (behind cut) ++ below) (ahead b n xs) → IsGiven b n xs cut below
given b n xs cut below le next =
    let row = along b (behind cut) in
    let all : ahead b n xs ≡ row ++ (below ++ next.0) = next.1 ∙ append_assoc row below next.0 in
    let l = less_ahead b n (length cut) xs row (below ++ next.0) le (along_length b (behind cut) ∙ behind_length cut) all in
    record { less = l.less; items = all ∙ ap (λ z. row ++ z) (sym l.rest); sound = (omega (arith, le), (next.0, l.rest)) }

-- a row of pointers, cut at the item that comes first on the way
module _ {X A : Type 0} where
  pub behind_cut : (b : Bool) (pointers rest : List (Rc X A)) (rc : Rc X A) → along b pointers ≡ rc ∷ along b rest
      → along b (behind pointers) ≡ rc.value ∷ along b (behind rest)
  behind_cut false pointers rest rc e = ap behind e
  behind_cut true pointers rest rc e = ap (λ r. reverse (behind r)) (cut_last pointers rest rc e) ∙ ap reverse (behind_append rest (rc ∷ []))
      ∙ reverse-append (behind rest) (rc.value ∷ [])

  -- of the same row by another name
  pub behind_cut_of : (b : Bool) {row pointers : List (Rc X A)} (rest : List (Rc X A)) (rc : Rc X A) → row ≡ pointers → along b row ≡ rc ∷ along b rest
      → along b (behind pointers) ≡ rc.value ∷ along b (behind rest)
  behind_cut_of b {row} {pointers} rest rc same e = behind_cut b pointers rest rc (subst (λ (r : List (Rc X A)). along b r ≡ rc ∷ along b rest) same e)

  -- the next item of a leaf
  pub walk_leaf : (back : Bool) (all later : List X) (leaf rest : List (Rc X A)) (first : Rc X A) → along back (behind leaf) ++ later ≡ all
      → along back leaf ≡ first ∷ along back rest → all ≡ first.value ∷ (along back (behind rest) ++ later)
  walk_leaf back all later leaf rest first view cut = sym view ∙ ap (λ z. z ++ later) (behind_cut back leaf rest first cut)

  -- past a leaf of which nothing is left, to the next one
  pub walk_on : (back : Bool) (all here later : List X) (none leaf : List (Rc X A)) → along back (behind none) ++ here ≡ all → none ≡ []
      → here ≡ along back (behind leaf) ++ later → along back (behind leaf) ++ later ≡ all
  walk_on back all here later none leaf view empty next = sym next
      ∙ sym (ap (λ z. along back (behind z) ++ here) empty ∙ ap (λ z. z ++ here) (along_none back)) ∙ view
