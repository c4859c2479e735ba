-- A walk's stack, and what it has to give.
use Rattle.rpds_hash_trie.proofs.Words.{◌≡◌, ℕ, suc, ◌<◌, ◌≤◌, List, [], ◌∷◌, ◌++◌, ◌+◌, ◌-◌, length, refl, ap, sym, ◌∙◌, subst, append_assoc, arith, Rc, Trie, flat, AllChildren, IsChildAt, seen, items_of, flatten, AllFit}
use Rattle.rpds_hash_trie.specs.HashTrie.{level_count}
use Rattle.rpds_hash_trie.proofs.OpenNodes.{IsOpenBranch}
use Rattle.rpds_hash_trie.specs.Places.{behind}
use Rattle.rpds_hash_trie.proofs.Digits.{level_count_le}

abbrev pub nodes : {K V : Type 0} → List (ℕ × Trie K V) → List (Trie K V)
nodes [] = []
nodes (c ∷ cs) = c.1 ∷ nodes cs

-- the children of a branch fit
pub fit_row : {K V : Type 0} (bits d low place : ℕ) (cs : List (ℕ × Trie K V)) → d < level_count bits → AllChildren bits d low cs → place ≤ suc d → AllFit place (nodes cs)
fit_row bits d low place [] left a le = tt
fit_row bits d low place (c ∷ cs) left a le =
    let child : IsChildAt bits d c.0 c.1 = a.1.0 in
    let down : c.1.depth ≡ suc d = child.lower in
    let most : level_count bits ≤ 64 = level_count_le bits in
    ((omega arith, omega arith), fit_row bits d (suc c.0) place cs left a.1.1 le)

module _ {K V : Type 0} where
  pub fits_some : (place : ℕ) (ks : List (Trie K V)) → 0 < length ks → AllFit place ks → place < 65
  fits_some place [] some f = absurd (omega arith)
  fits_some place (k ∷ ks) some f = omega (arith, f.0.0, f.0.1)

  -- how many levels there can be from a row on
  abbrev pub levels_left : List (Trie K V) → ℕ
  levels_left [] = 0
  levels_left (k ∷ ks) = 65 - k.depth

  flat_nodes : (cs : List (ℕ × Trie K V)) → flat cs ≡ flatten (nodes cs)
  flat_nodes [] = refl
  flat_nodes (c ∷ cs) = ap (λ l. c.1.entries ++ l) (flat_nodes cs)

  -- what the children of a branch have to give, where they fit, and how many levels they have left
  record IsBelow (v : Trie K V) (ks : List (Trie K V)) : Type 0 where
    some : 0 < length ks
    entries : v.entries ≡ flatten ks
    fits : (place : ℕ) → place ≤ suc v.depth → AllFit place ks
    fewer : levels_left ks < 65 - v.depth

  children_below : (v : Trie K V) (bits d : ℕ) (cs : List (ℕ × Trie K V)) → IsOpenBranch v bits d cs → IsBelow v (nodes cs)
  children_below v bits d [] o = let s : 2 ≤ 0 = o.sound.several in absurd (omega arith)
  children_below v bits d (c ∷ cs) o =
      let depth_is : v.depth ≡ d = ap (λ (t : Trie K V). t.depth) o.is in
      let down : c.1.depth ≡ suc d = o.sound.children.1.0.lower in
      let most : level_count bits ≤ 64 = level_count_le bits in
      record {
        some = omega arith;
        entries = ap (λ (t : Trie K V). t.entries) o.is ∙ flat_nodes (c ∷ cs);
        fits = (λ place le. fit_row bits d 0 place (c ∷ cs) o.sound.left o.sound.children (omega arith));
        fewer = omega (arith, o.sound.left);
      }

module _ {K V A : Type 0} where
  nodes_seen : (rcs : List (ℕ × Rc (Trie K V) A)) → nodes (seen rcs) ≡ behind (items_of rcs)
  nodes_seen [] = refl
  nodes_seen (c ∷ cs) = ap (λ l. c.1.value ∷ l) (nodes_seen cs)

  pub rest_fits : (place : ℕ) {row rest : List (Rc (Trie K V) A)} {node : Rc (Trie K V) A} → AllFit place (behind row) → row ≡ node ∷ rest → AllFit place (behind rest)
  rest_fits place fits cut = (subst (λ r. AllFit place (behind r)) cut fits).1

  -- the children of a row's first node, and the nodes behind that one
  pub record AreNext (row below rest : List (Rc (Trie K V) A)) : Type 0 where
    pub some : 0 < length (behind below)
    pub entries : flatten (behind row) ≡ flatten (behind below) ++ flatten (behind rest)
    pub fits : (place next : ℕ) → AllFit place (behind row) → next ≤ place + 1 → AllFit next (behind below)
    pub fewer : levels_left (behind below) < levels_left (behind row)

  pub are_next : (node : Rc (Trie K V) A) (v : Trie K V) (bits d : ℕ) (rcs : List (ℕ × Rc (Trie K V) A)) (row below rest : List (Rc (Trie K V) A)) → row ≡ node ∷ rest → v ≡ node.value → IsOpenBranch v bits d (seen rcs) → below ≡ items_of rcs → AreNext row below rest
  are_next node v bits d rcs row below rest cut at o e =
      let k : IsBelow v (behind below) = subst (IsBelow v) (nodes_seen rcs ∙ sym (ap behind e)) (children_below v bits d (seen rcs) o) in
      let opened : AreNext (node ∷ rest) below rest = record {
        some = k.some;
        entries = ap (λ l. l ++ flatten (behind rest)) (ap (λ (t : Trie K V). t.entries) (sym at) ∙ k.entries);
        fits = (λ place next fits le. k.fits next (omega (arith, le, fits.0.0, ap (λ (t : Trie K V). t.depth) at)));
        fewer = omega (arith, k.fewer, ap (λ (t : Trie K V). t.depth) at);
      } in
      subst (λ r. AreNext r below rest) (sym cut) opened

pub length_behind : {X A : Type 0} (rcs : List (Rc X A)) → length (behind rcs) ≡ length rcs
length_behind [] = refl
length_behind (r ∷ rcs) = ap (λ n. suc n) (length_behind rcs)

-- what there is to give, after one level down
pub entered : {S : Type 0} (row below rest pushed under old : List S) → row ≡ below ++ rest → pushed ≡ rest ++ under → row ++ under ≡ old → below ++ pushed ≡ old
entered row below rest pushed under old e f h = ap (λ l. below ++ l) f ∙ sym (append_assoc below rest under) ∙ ap (λ l. l ++ under) (sym e) ∙ h
