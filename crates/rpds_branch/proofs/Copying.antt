-- What isn't touched stays as it was.
use Rattle.std.proofs.Common.{◌≡◌, ◌≢◌, Result, Ok, Err, Option, Some, None, is_some, List, Bool, true, false, if◌then◌else◌, OnOk, OnErr, refl, sym, ap, subst, ◌∙◌}
use Rattle.std.proofs.lemmas.Cmp.{tied_back}
use Rattle.std.specs.Cmp.{IsEquivalence, IsTotalOrder}
use Rattle.std.specs.Option.{option_map, option_or}
use Rattle.std.specs.Ordering.{is_eq}
use Rattle.std.specs.declared.cmp.Ordering.{Ordering}
use Rattle.std.specs.declared.cmp.Ordering.TheVariants.{Equal}
use Rattle.rpds_core.specs.Keys.{IsSearch}
use Rattle.rpds_red_black.proofs.Pairs.{find_put, find_same}
use Rattle.rpds_red_black.specs.Pairs.{find, find_by, put, without_by}
use Rattle.rpds_tree.proofs.Copied.{copied}
use Rattle.rpds_tree.proofs.FormLaws.{found_among_others}
use Rattle.rpds_tree.proofs.MapLaws.{find_put_other}
use Rattle.rpds_tree.specs.Altered.{with_found}
use Rattle.rpds_tree.specs.Differences.{differ, value_of}
use Rattle.rpds_tree.specs.OrderedMap.{OrderedMap}
use Rattle.rpds_branch.proofs.Merging.{unchanged}
use Rattle.rpds_branch.specs.Branches.{SparesOthers}

-- what an entry holds that was found, or wasn't
pub held : {X P : Type 0} (f : X → P) (x : X) (entry : Option X) (found : Option P) → option_map f entry ≡ found → entry ≡ Some x → found ≡ Some (f x)
held f x entry found is at = sym is ∙ ap (option_map f) at

pub none_held : {X P : Type 0} (f : X → P) (entry : Option X) (found : Option P) → option_map f entry ≡ found → entry ≡ None → is_some found ≡ false
none_held f entry found is at = ap is_some (sym is) ∙ ap (λ e. is_some (option_map f e)) at

pub nothing_held : {X P : Type 0} (f : X → P) (entry : Option X) (found : Option P) → option_map f entry ≡ found → entry ≡ None → found ≡ None
nothing_held f entry found is at = sym is ∙ ap (option_map f) at

module _ {K V : Type 0} {R : K → K → Ordering} (o : IsTotalOrder R) where
  -- what isn't touched once a pair is: it has another key, and wasn't touched
  untouched : (p : K × V) (touched : List (K × V)) (k : K) → find R k (put R p touched) ≡ None → (R p.0 k ≢ Equal) × (find R k touched ≡ None)
  untouched p touched k none =
      let apart : R p.0 k ≢ Equal = λ near.
      (let found = sym (find_same o k p.0 (put R p touched) (tied_back o p.0 k near)) ∙ none in let put_in = find_put R o p touched in cc (found, put_in)) in
      (apart, sym (find_put_other o p touched k apart) ∙ none)

  -- a pair that is put in, and touched
  pub put_spares : (p : K × V) (touched base current : List (K × V)) → SparesOthers R touched base current
      → SparesOthers R (put R p touched) base (put R p current)
  put_spares p touched base current spares k none =
      let other = untouched p touched k none in
      find_put_other o p current k other.0 ∙ spares k other.1

  -- a key that is taken out, whose pair is touched
  pub without_spares : {seek : K → Ordering} → IsSearch R seek → (p : K × V) → seek p.0 ≡ Equal → (touched base current : List (K × V))
      → SparesOthers R touched base current → SparesOthers R (put R p touched) base (without_by seek current)
  without_spares finds p tied touched base current spares k none =
      let other = untouched p touched k none in
      found_among_others o finds k current (λ here. other.0 (sym (finds.tied p.0 k tied) ∙ here)) ∙ spares k other.1

  -- a merge leaves what they didn't change, and touches what both sides touched
  pub merged_spares : {same : V → V → Bool} → IsEquivalence same → (touched base current theirs_touched theirs_base theirs_current all merged : List (K × V))
      → SparesOthers R touched base current → SparesOthers R theirs_touched theirs_base theirs_current
      → ((k : K) → find R k all ≡ option_or (find R k touched) (find R k theirs_touched))
      → ((k : K) → differ same (value_of R k theirs_base) (value_of R k theirs_current) ≡ false → find R k merged ≡ find R k current)
      → SparesOthers R all base merged
  merged_spares e touched base current theirs_touched theirs_base theirs_current all merged spares theirs_spares found kept k none =
      let both = neither (find R k touched) (find R k theirs_touched) (sym (found k) ∙ none) in
      kept k (unchanged R e theirs_touched theirs_base theirs_current theirs_spares k both.1) ∙ spares k both.0
    where
      neither : (a b : Option (K × V)) → option_or a b ≡ None → (a ≡ None) × (b ≡ None)
      neither None b is = (refl, is)
      neither (Some p) b is = absurd (cc)

module _ {K V : Type 0} {R : K → K → Ordering} (o : IsTotalOrder R) {seek : K → Ordering} (finds : IsSearch R seek) where
  -- back to the base, what isn't touched is as it was
  pub reverted_spares : {E : Type 0} (r : Result (Unit {0}) E) (touched base : List (K × V)) (was is : OrderedMap K V)
      → OnOk r (is.entries ≡ with_found R seek (find_by seek base) was.entries) → OnErr r (is ≡ was) → SparesOthers R touched base was.entries
      → SparesOthers R touched base is.entries
  reverted_spares (Err x) touched base was is ok err spares k none = ap (λ (m : OrderedMap K V). find R k m.entries) err ∙ spares k none
  reverted_spares (Ok x) touched base was is ok err spares k none = ap (find R k) ok ∙ copied o finds k base was.entries ∙ go (is_eq (seek k))
    where
      go : (b : Bool) → (if b then find R k base else find R k was.entries) ≡ find R k base
      go true = refl
      go false = spares k none
