-- A look-up on its way down.
use Rattle.rpds_hash_trie.proofs.Words.{◌≡◌, ℕ, zero, suc, ◌+◌, ◌-◌, ◌*◌, ◌/◌, ◌%◌, ◌^◌, ◌≤◌, Bool, true, [], ◌∷◌, length, refl, sym, ap, ◌∙◌, arith, Steps, hash_count, reach_within, Stored, Trie, AllAgree, matches, found, unmatched, hashes_in}
use Rattle.rpds_hash_trie.specs.HashLookUp.{IsLookUp}
use Rattle.rpds_hash_trie.specs.HashTrie.{level_count, levels_shared}
use Rattle.rpds_hash_trie.proofs.Child.{IsChild}

-- where there is nothing, nothing is done
pub none_looked : {There Any : Type 0} → (There → ⊥) → (Any → ⊥) → (path levels keys : ℕ) (s : Steps) → IsLookUp There Any path levels keys s s
none_looked no_key none path levels keys s = record {
  visited = (λ key. absurd (no_key key));
  visited_most = omega arith;
  visited_least = omega arith;
  enters = (λ any. absurd (none any));
  matched_most = omega arith;
  matched_least = omega arith;
  compares = (λ key. absurd (no_key key));
  others = refl;
}

-- the key is looked for in v, which lies below top; the counts rose from old to now
pub record IsOnWay {K S V : Type 0} (eq : K → S → Bool) (k : S) (h : ℕ) (top v : Trie K V) (hash_left : ℕ) (old now : Steps) : Type 0 where
  pub bits_same : v.bits ≡ top.bits
  pub hash_left_is : hash_left ≡ h / 2 ^ (v.depth * v.bits)
  pub alike : AllAgree v.bits v.depth h v.entries
  pub once : length v.entries ≤ length (unmatched (matches eq k h) v.entries) + 1
  pub found_in : found (matches eq k h) top.entries ≡ found (matches eq k h) v.entries
  pub visited : old.visited + levels_shared eq k h top ≡ now.visited + levels_shared eq k h v
  pub least : old.visited ≤ now.visited
  pub levels : now.visited + (level_count v.bits - v.depth) ≤ old.visited + (level_count top.bits - top.depth)
  pub count : hash_count h (hashes_in v.entries) ≤ hash_count h (hashes_in top.entries)
  pub others : now ≡ record old { visited = now.visited }

-- the bits are read once, at the top
module _ (hash_left : ℕ) {b b' : ℕ} where
  pub digit_same : (place : ℕ) → b ≡ b' → place ≡ hash_left % 2 ^ b → place ≡ hash_left % 2 ^ b'
  digit_same place same is = is ∙ ap (λ n. hash_left % 2 ^ n) same

  pub left_same : b ≡ b' → hash_left / 2 ^ b ≡ hash_left / 2 ^ b'
  left_same same = ap (λ n. hash_left / 2 ^ n) same

none_shared : (degree h d n : ℕ) → reach_within degree h [] d n ≡ 0
none_shared degree h d zero = refl
none_shared degree h d (suc n) = refl

module _ {K S V : Type 0} (eq : K → S → Bool) (k : S) (h : ℕ) where
  abbrev t : Stored K V → Bool
  t = matches eq k h

  -- no other entry shares a level with the one entry of a leaf
  pub alone_shared : (v : Trie K V) (e : Stored K V) → v.entries ≡ e ∷ [] → t e ≡ true → levels_shared eq k h v ≡ 0
  alone_shared v e is hit = rw (is, hit) (none_shared (2 ^ v.bits) h v.depth (level_count v.bits - v.depth))

  module _ (top v : Trie K V) (hash_left : ℕ) (old now then : Steps) (w : IsOnWay eq k h top v hash_left old now) (raised : then ≡ record now { visited = now.visited + 1 }) where
    one_more : then.visited ≡ now.visited + 1
    one_more = ap (λ s. s.visited) raised

    no_other : then ≡ record old { visited = then.visited }
    no_other = raised ∙ ap {A = Steps} {B = Steps} (λ s. record s { visited = now.visited + 1 }) w.others ∙ ap {A = ℕ} {B = Steps} (λ n. record old { visited = n }) (sym one_more)

    pub next_way : (c : Trie K V) (left : ℕ) → IsChild eq k h v c → left ≡ h / 2 ^ (c.depth * c.bits) → IsOnWay eq k h top c left old then
    next_way c left i r =
        let shares : levels_shared eq k h v ≡ suc (levels_shared eq k h c) = i.shares w.once w.alike in
        let same = w.visited in
        let within = w.levels in
        let fewer = w.count in
        let below = i.count in
        let bits = ap level_count i.bits_same in
        let lower = i.lower in
        let inside = i.inside in
        record {
          bits_same = i.bits_same ∙ w.bits_same;
          hash_left_is = r;
          alike = i.alike w.alike;
          once = i.once w.once;
          found_in = w.found_in ∙ i.found_in;
          visited = omega (arith, same, shares, one_more);
          least = omega (arith, w.least, one_more);
          levels = omega (arith, within, bits, lower, inside, one_more);
          count = omega (arith, fewer, below);
          others = no_other;
        }
