-- What keys are looked up by.
use Rattle.std.specs.Prelude.{◌≡◌, Bool, true, List, ℕ, bytes_eq}
use Rattle.std.specs.Cmp.{IsEquivalence, IsTotalOrder}
use Rattle.std.specs.Cmp.Lexicographic.{bytes_decides}
use Rattle.std.specs.Hash as fed
use Rattle.std.specs.Hash.{HashWrites}
use Rattle.std.specs.Ordering.{ordering_reverse}
use Rattle.std.specs.declared.cmp.Ordering.{Ordering}
use Rattle.std.specs.declared.cmp.Ordering.TheVariants.{Less, Equal, Greater}
use mathlib.Core.Path.{sym, ap, ◌∙◌}

-- how something compares to each key, so that keys in order are below it, tied with it, and above it, in this order; what it is tied
-- with compares as it does
pub record IsSearch {K : Type 0} (R : K → K → Ordering) (q : K → Ordering) : Type 0 where
  pub below : (x y : K) → q x ≡ Less → R x y ≡ Less → q y ≡ Less
  pub tied : (x y : K) → q x ≡ Equal → q y ≡ R x y
  pub above : (x y : K) → R x y ≡ Less → q y ≡ Greater → q x ≡ Greater

module _ {X : Type 0} {S : X → X → Ordering} (o : IsTotalOrder S) where
  above_both : (q x y : X) → S x y ≡ Less → S q y ≡ Greater → S q x ≡ Greater
  above_both q x y h above =
      let back : S y q ≡ Less = o.antisymm y q ∙ ap ordering_reverse above in
      o.antisymm q x ∙ ap ordering_reverse (o.trans x y q h back)

  -- a key searches for itself
  pub own_search : (k : X) → IsSearch S (S k)
  own_search k = record { below = o.trans k; tied = o.congr k; above = above_both k }

  -- a form of a key that compares to it as what the key is seen as does, searches for the key
  pub form_search : {K : Type 0} (view : K → X) (x : X) → IsSearch (λ a b. S (view a) (view b)) (λ k. S x (view k))
  form_search view x = record {
    below = λ a b. o.trans x (view a) (view b);
    tied = λ a b. o.congr x (view a) (view b);
    above = λ a b. above_both x (view a) (view b);
  }

-- and such a key compares to the form the other way round
pub form_turns : {K X : Type 0} {S : X → X → Ordering} → IsTotalOrder S → (view : K → X) (x : X) (k : K) → S (view k) x ≡ ordering_reverse (S x (view k))
form_turns o view x k = o.antisymm (view k) x

-- A test for the keys that are the same as s. It holds of keys that are equal to one, or of none. A hasher is fed `input` for s,
-- and the same for such a key.
pub record IsTest {K S : Type 0} (eq : K → K → Bool) (feed : K → HashWrites) (same : K → S → Bool) (s : S) (input : HashWrites) : Type 0 where
  pub hashed : (k : K) → same k s ≡ true → input ≡ feed k
  pub alike : (j k : K) → same j s ≡ true → same k s ≡ eq k j

-- keys that are compared and hashed by what they are seen as, tested by what one may be seen as
pub form_test : {K X : Type 0} {E : X → X → Bool} {F : X → HashWrites} → IsEquivalence E → ((x y : X) → E x y ≡ true → F x ≡ F y) → (view : K → X) → (x : X)
    → IsTest (λ j k. E (view j) (view k)) (λ k. F (view k)) (λ k y. E (view k) y) x (F x)
form_test o fed view x = record {
  hashed = λ k h. fed x (view k) (o.symm x (view k) ∙ h);
  alike = λ j k h. o.symm (view k) x ∙ sym (o.congr (view j) x (view k) h) ∙ o.symm (view j) (view k);
}

-- texts of the same bytes are hashed alike
pub texts_alike : (a b : List ℕ) → bytes_eq a b ≡ true → fed.str a ≡ fed.str b
texts_alike a b h = ap fed.str ((bytes_decides a b).0 h)
