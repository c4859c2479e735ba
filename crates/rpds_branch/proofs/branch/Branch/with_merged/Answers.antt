use Rattle.std.proofs.Common.{◌≡◌, ap, false, length, subst, sym, ◌∙◌}
use Rattle.std.specs.Map.{keys_of}
use Rattle.rpds_branch.proofs.Copying.{merged_spares}
use Rattle.rpds_branch.proofs.Touching.{as_many, united}
use Rattle.rpds_branch.specs.Branches.{Branched}
use Rattle.rpds_core.proofs.Counts.{within_same}
use Rattle.rpds_tree.proofs.Members.{keys_put_all}
use Rattle.rpds_tree.specs.Algebra.{members_of_union}
use Rattle.rpds_tree.specs.Differences.{differ, value_of}
use Rattle.rpds_tree.specs.OrderedMap.{OrderedMap}
use Rattle.rpds_tree.specs.Pairs.{find}
use Rattle.rpds_branch.proofs.branch.Branch.with_merged.Goals as goal

pub invariant_of-result-2 : goal.invariant_of-result-2
invariant_of-result-2 g c = λ k none.
    let R = g.K.Ord.cmp in
    let same = g.V.PartialEq.eq in
    let ours = c.self.inside in
    let theirs = c.theirs.inside in
    let merged = c.args.current.entries in
    let kept : (j : g.row.K.Denot) → differ same (value_of R j theirs.base.entries) (value_of R j theirs.current.entries) ≡ false
    → find R j merged ≡ find R j ours.current.entries = λ j is.
    c.requires j (subst (λ (b : Branched g.row.K.Denot g.row.V.Denot). differ same (value_of R j b.base.entries) (value_of R j b.current.entries) ≡ false)
    c.theirs.view_is is) ∙ sym (ap (λ (b : Branched g.row.K.Denot g.row.V.Denot). find R j b.current.entries) c.self.view_is) in
    ap (λ (m : OrderedMap g.row.K.Denot g.row.V.Denot). find R k m.entries) c.current.view_is
    ∙ merged_spares g.met.K.Ord.total g.met.V.Eq.laws ours.touched.entries ours.base.entries ours.current.entries theirs.touched.entries
    theirs.base.entries theirs.current.entries c.in_ok-union_counted.field-0.entries merged c.self.invariant c.theirs.invariant c.in_ok-union_counted.ensures.found kept k none
    ∙ sym (ap (λ (m : OrderedMap g.row.K.Denot g.row.V.Denot). find R k m.entries) c.in_ok-clone.ensures)

pub returns-in_err-clone-clause-steps : goal.returns-in_err-clone-clause-steps
returns-in_err-clone-clause-steps g c = within_same _ _ _

pub returns-in_err-union_counted-clause-steps : goal.returns-in_err-union_counted-clause-steps
returns-in_err-union_counted-clause-steps g c =
    united (length c.self.inside.touched.entries) (length c.theirs.inside.touched.entries) (length c.args.self.now.touched) (length c.args.theirs.now.touched)
    (as_many c.self.inside.touched.entries (ap (λ (b : Branched g.row.K.Denot g.row.V.Denot). b.touched) c.self.view_is))
    (as_many c.theirs.inside.touched.entries (ap (λ (b : Branched g.row.K.Denot g.row.V.Denot). b.touched) c.theirs.view_is)) c.in_err-union_counted.ensures.steps

pub returns-clause-steps : goal.returns-clause-steps
returns-clause-steps g c =
    united (length c.self.inside.touched.entries) (length c.theirs.inside.touched.entries) (length c.args.self.now.touched) (length c.args.theirs.now.touched)
    (as_many c.self.inside.touched.entries (ap (λ (b : Branched g.row.K.Denot g.row.V.Denot). b.touched) c.self.view_is))
    (as_many c.theirs.inside.touched.entries (ap (λ (b : Branched g.row.K.Denot g.row.V.Denot). b.touched) c.theirs.view_is)) c.in_ok-union_counted.ensures.steps

pub returns-clause-touched : goal.returns-clause-touched
returns-clause-touched g c =
    ap keys_of c.in_ok-union_counted.ensures.ok ∙ keys_put_all g.K.Ord.cmp c.theirs.inside.touched.entries c.self.inside.touched.entries
    ∙ (λ i. members_of_union g.K.Ord.cmp (ap (λ (b : Branched g.row.K.Denot g.row.V.Denot). b.touched) c.self.view_is i)
    (ap (λ (b : Branched g.row.K.Denot g.row.V.Denot). b.touched) c.theirs.view_is i))

pub returns-clause-compares : goal.returns-clause-compares
returns-clause-compares g c = λ our their. c.in_ok-union_counted.ensures.compares
    (λ none. our (sym (ap (λ (b : Branched g.row.K.Denot g.row.V.Denot). b.touched) c.self.view_is) ∙ ap keys_of none))
    (λ none. their (sym (ap (λ (b : Branched g.row.K.Denot g.row.V.Denot). b.touched) c.theirs.view_is) ∙ ap keys_of none))
