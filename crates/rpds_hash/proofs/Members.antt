-- A set's members are its map's keys.
use Rattle.rpds_hash.proofs.Words.{◌≡◌, ℕ, suc, not, Bool, true, false, cond, None, Some, Option, List, [], ◌∷◌, ◌++◌, length, map, refl, ap, sym, ◌∙◌, keys_of, option_map, map_push, reverse-append, IsPermutation-map, AreCollected, IsPut, HashedMap, IsHashed, without, find_member, without_member, IsPutMember}
use Rattle.std.proofs.Common.{reverse}
use Rattle.std.specs.Option.{option_or}
use Rattle.rpds_hash_trie.specs.HashedMap.{find as find_pair}
use Rattle.rpds_hash.specs.HashedSet.{set_of, HoldLast, IsHashedSet}

-- an item as a pair of its map
abbrev pub to_unit : {T : Type 0} → T → T × Unit {0}
to_unit x = (x, tt)

module _ {T V : Type 0} where
  pub length_members : (es : List (T × V)) → length (keys_of es) ≡ length es
  length_members [] = refl
  length_members (e ∷ es) = ap suc (length_members es)

module _ {T S V : Type 0} (eq : T → S → Bool) where
  pub member_found : (x : S) (es : List (T × V)) → find_member eq x (keys_of es) ≡ option_map (λ p. p.0) (find_pair eq x es)
  member_found x [] = refl
  member_found x (e ∷ es) =
      elim (eq e.0 x) as (λ b. cond b (Some e.0) (find_member eq x (keys_of es)) ≡ option_map (λ p. p.0) (cond b (Some e) (find_pair eq x es))) [
        | true ↦ refl
        | false ↦ member_found x es
      ]

  pub members_without : (x : S) (es : List (T × V)) → keys_of (without eq x es) ≡ without_member eq x (keys_of es)
  members_without x [] = refl
  members_without x (e ∷ es) =
      elim (eq e.0 x) as (λ b. keys_of (cond (not b) (e ∷ without eq x es) (without eq x es)) ≡ cond (not b) (e.0 ∷ without_member eq x (keys_of es)) (without_member eq x (keys_of es))) [
        | true ↦ members_without x es
        | false ↦ ap (λ t. e.0 ∷ t) (members_without x es)
      ]

module _ {T V : Type 0} (eq : T → T → Bool) where
  -- what either of two maps has
  pub members_either : (ms xs ys : List (T × V)) → ((k : T) → find_pair eq k ms ≡ option_or (find_pair eq k xs) (find_pair eq k ys)) → (k : T) → find_member eq k (keys_of ms) ≡ option_or (find_member eq k (keys_of xs)) (find_member eq k (keys_of ys))
  members_either ms xs ys found k =
      member_found eq k ms ∙ ap (option_map (λ p. p.0)) (found k) ∙ split (find_pair eq k xs) (find_pair eq k ys) ∙ (λ i. option_or (sym (member_found eq k xs) i) (sym (member_found eq k ys) i))
    where
      split : (a b : Option (T × V)) → option_map (λ (p : T × V). p.0) (option_or a b) ≡ option_or (option_map (λ p. p.0) a) (option_map (λ p. p.0) b)
      split None b = refl
      split (Some p) b = refl

module _ {T : Type 0} where
  unit_items : (items : List T) → keys_of (reverse (map to_unit items)) ≡ reverse items
  unit_items [] = refl
  unit_items (x ∷ xs) =
      ap keys_of (reverse-append (to_unit x ∷ []) (map to_unit xs)) ∙ map_push (λ p. p.0) (reverse (map to_unit xs)) (to_unit x) ∙ ap (λ t. t ++ x ∷ []) (unit_items xs) ∙ sym (reverse-append (x ∷ []) xs)

  -- a map of which each item has its last pair holds the last of equal items
  pub held_last : (eq : T → T → Bool) (items : List T) (es : List (T × Unit {0})) → AreCollected eq (map to_unit items) es → HoldLast eq items (keys_of es)
  held_last eq items es c x =
      member_found eq x es ∙ ap (option_map (λ p. p.0)) (c x) ∙ sym (member_found eq x (reverse (map to_unit items))) ∙ ap (find_member eq x) (unit_items items)

module _ {T H : Type 0} (eq : T → T → Bool) where
  pub hashed_set : (hash : T → ℕ) (m : HashedMap T (Unit {0}) H) → IsHashed eq hash m → IsHashedSet eq hash (set_of m)
  hashed_set hash m h = record { degree = h.degree; distinct = h.distinct; in_order = h.in_order }

  pub member_put : (x : T) (old new : HashedMap T (Unit {0}) H) → IsPut eq (x, tt) old new → IsPutMember eq x (set_of old) (set_of new)
  member_put x old new put = record {
    members = rw (← members_without eq x old.entries) (IsPermutation-map (λ e. e.0) ((x, tt) ∷ without eq x old.entries) new.entries put.pairs);
    degree = put.degree;
    hasher = put.hasher;
  }

  pub members_found : (x : T) (old new : HashedMap T (Unit {0}) H) → ((y : T) → find_pair eq y new.entries ≡ find_pair eq y ((x, tt) ∷ old.entries))
      → (y : T) → find_member eq y (set_of new).members ≡ find_member eq y (x ∷ (set_of old).members)
  members_found x old new all y = member_found eq y new.entries ∙ ap (option_map (λ e. e.0)) (all y) ∙ sym (member_found eq y ((x, tt) ∷ old.entries))

pub ruleset member_rules = (length_members, member_found, members_without, hashed_set, member_put, members_found, held_last)
