-- A vector that grows by whole leaves.
use Rattle.rpds_vector.proofs.Words.{◌≡◌, ◌+◌, ◌<◌, ◌≤◌, Result, Ok, Err, OnOk, OnErr, List, [], ◌∷◌, ◌++◌, length, refl, ap, ◌∙◌, arith, length-append}
use Rattle.rpds_vector.proofs.Words.{append-nil, append_assoc, pow_pos, Rc, behind, behind_length, behind_append, IsLeaf, Contents, with_leaf, IsBuilding}

module _ {T A : Type 0} where
  -- one item more waits
  pub longer_leaf : (v : Contents T) (leaf leaf' : List (Rc T A)) (rc : Rc T A) → leaf' ≡ leaf ++ rc ∷ [] → ◌≡◌ {A = Contents T} (with_leaf v leaf') (record v { items = (v.items ++ behind leaf) ++ rc.value ∷ [] })
  longer_leaf v leaf leaf' rc e = rw (e, behind_append leaf (rc ∷ []), append_assoc v.items (behind leaf) (rc.value ∷ [])) refl

  pub ready_leaf : (v : Contents T) (leaf leaf' : List (Rc T A)) (rc : Rc T A) → IsBuilding v leaf → leaf' ≡ leaf ++ rc ∷ [] → IsLeaf v.bits (behind leaf')
  ready_leaf v leaf leaf' rc g e =
      let size : length (behind leaf') ≡ length leaf + 1 = behind_length leaf' ∙ ap (λ (xs : List (Rc T A)). length xs) e ∙ length-append leaf (rc ∷ []) in
      record { bits_in = g.bits_in; some = omega arith; few = omega (arith, g.few) }

  -- no item waits
  pub no_leaf : (v v' : Contents T) (more : List T) (leaf : List (Rc T A)) → (1 ≤ v.bits) × (v.bits < 64) → {R E : Type 0} (r : Result R E) → OnOk r (v' ≡ record v { items = v.items ++ more }) → OnErr r (v' ≡ v) → leaf ≡ [] → IsBuilding v' leaf
  no_leaf v v' more leaf bits_in (Ok x) e _ none = rw (e, none) (record { bits_in = bits_in; few = pow_pos v.bits; whole = λ p. absurd (omega arith) })
  no_leaf v v' more leaf bits_in (Err x) _ e none = rw (e, none) (record { bits_in = bits_in; few = pow_pos v.bits; whole = λ p. absurd (omega arith) })

  pub all_in : (v : Contents T) (leaf : List (Rc T A)) → leaf ≡ [] → ◌≡◌ {A = Contents T} (with_leaf v leaf) v
  all_in v leaf none = rw (none, append-nil v.items) refl
