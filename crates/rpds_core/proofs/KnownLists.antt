-- What calls of `sequence` say of iterators whose value is a list. It is what they have left, and `see` reads an item of it.
use Rattle.std.proofs.Common.{◌≡◌, ℕ, Option, List, length, refl, ap, ◌∙◌, subst}
use Rattle.std.specs.Borrow.{Bor}
use Rattle.std.specs.Hash as fed
use Rattle.std.specs.Hash.{HashWrites}
use Rattle.std.specs.Iterator.{YieldsFirstBy}
use Rattle.std.specs.List.{flat_map, fold}
use Rattle.rpds_core.specs.Sequence.{ShowsList}

-- the item that a reference is to
abbrev pub item : {T : Type 0} → Bor T → T
item x = x.now

module _ {X T : Type 0} (see : X → T) where
  -- each call takes the first of the list
  abbrev Gives : List T → Option X → List T → Type 0
  Gives = YieldsFirstBy see (λ w. w)

  -- equality and order
  pub compares : {E R : Type 0} (f : (T → T → E) → List T → List T → R) (test : T → T → E) {result : R} {left right xs ys : List T}
      → ((see' : X → T) (rest : List T → List T) (test' : T → T → E) → ShowsList Gives see' rest → ((a b : X) → test (see a) (see b) ≡ test' (see' a) (see' b)) → result ≡ f test' (rest left) (rest right))
      → left ≡ xs → right ≡ ys → result ≡ f test xs ys
  compares f test told e e' = told see (λ w. w) test (λ old result new h. h) (λ a b. refl) ∙ (λ i. f test (e i) (e' i))

  -- what a hasher is fed, after the length
  pub feeds : {S : Type 0} (took : S → List ℕ → S) (input : T → HashWrites) {start mid new : S} {n : ℕ} {left xs : List T}
      → ((see' : X → T) (rest : List T → List T) (input' : T → HashWrites) → ShowsList Gives see' rest → ((x : X) → input (see x) ≡ input' (see' x)) → new ≡ fold took mid (flat_map input' (rest left)))
      → mid ≡ took start (fed.le_bytes 8 n) → n ≡ length xs → left ≡ xs → new ≡ fold took start (fed.slice input xs)
  feeds took input {start} told first len e =
      let fed_first = first ∙ ap (λ n. took start (fed.le_bytes 8 n)) len in
      told see (λ w. w) input (λ old result new h. h) (λ x. refl) ∙ (λ i. fold took (fed_first i) (flat_map input (e i)))

  -- what is printed
  pub shows : (P : (T → Option (List ℕ)) → List T → Type 0) (text : T → Option (List ℕ)) {left xs : List T}
      → ((see' : X → T) (rest : List T → List T) (text' : T → Option (List ℕ)) → ShowsList Gives see' rest → ((x : X) → text (see x) ≡ text' (see' x)) → P text' (rest left))
      → left ≡ xs → P text xs
  shows P text told e = subst (P text) e (told see (λ w. w) text (λ old result new h. h) (λ x. refl))
