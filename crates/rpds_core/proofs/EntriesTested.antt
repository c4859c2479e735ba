-- What is found among the pairs that a test without a state kept.
use Rattle.std.proofs.Common.{◌≡◌, Bool, List, find, ap, ◌∙◌}
use Rattle.std.specs.Borrow.{Bor}
use Rattle.std.specs.Cmp.{IsEquivalence}
use Rattle.std.specs.Iterator.{ActsAsOnTwo}
use Rattle.std.specs.List.{IsDistinct}
use Rattle.std.specs.List.Retain.{IsFiltered}
use Rattle.std.specs.Map.{keys_of}
use Rattle.std.proofs.lemmas.Fn.{filter_same}
use Rattle.rpds_core.proofs.Tested.{find_tested}
use Rattle.rpds_core.specs.Calls.{CalledAtEntry}
use Rattle.rpds_core.specs.OptionFilter.{option_filter}
use denote.Param.Members.{Mut}

module _ {F K V : Type 0} (g : Mut F (Bor K × (Bor V × Unit {0})) Bool) (f : F) (test : K × V → Bool)
    (acts : ActsAsOnTwo g f (λ k v. test (k.now, v.now))) where
  says : (p : K × V) (b : Bool) (f' : F) → CalledAtEntry g f p b f' → (b ≡ test p) × (f' ≡ f)
  says p b f' c =
      let told = acts c.key c.value b f' c.called in
      (told.1 ∙ ap test (λ i. (c.shows.0 i, c.shows.1 i)), told.0)

  -- where those hit whose key is equal to k
  pub entry_tested : {eq : K → K → Bool} (law : IsEquivalence eq) (es fs : List (K × V)) → IsDistinct eq (keys_of es) → IsFiltered (CalledAtEntry g) f es fs
      → (k : K) (hits : K × V → Bool) → ((p : K × V) → hits p ≡ eq p.0 k) → find hits fs ≡ option_filter test (find hits es)
  entry_tested law es fs distinct kept k hits is =
      ap (find hits) (filter_same (CalledAtEntry g) test f says es fs kept) ∙ find_tested (λ p. p.0) law k hits is test es distinct
