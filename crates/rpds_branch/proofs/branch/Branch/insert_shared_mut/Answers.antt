use Rattle.std.proofs.Common.{◌≡◌, ap, sym, ◌∙◌}
use Rattle.std.specs.Map.{keys_of}
use Rattle.rpds_branch.proofs.Copying.{put_spares}
use Rattle.rpds_branch.specs.Branches.{Branched}
use Rattle.rpds_core.specs.declared.map.entry.Entry.{Entry}
use Rattle.rpds_tree.proofs.Members.{member_put}
use Rattle.rpds_tree.specs.OrderedMap.{OrderedMap}
use Rattle.rpds_tree.specs.OrderedSet.{put_member}
use Rattle.rpds_tree.specs.Pairs.{find, put}
use Rattle.rpds_branch.proofs.branch.Branch.insert_shared_mut.Goals as goal

pub invariant_of-self : goal.invariant_of-self
invariant_of-self g c = λ k none.
    ap (λ (m : OrderedMap g.row.K.Denot g.row.V.Denot). find g.K.Ord.cmp k m.entries) c.in_err-insert_shared_mut.ensures.err ∙ c.self.invariant k none

pub invariant_of-self-2 : goal.invariant_of-self-2
invariant_of-self-2 g c = λ k none.
    let R = g.K.Ord.cmp in
    let was = c.self.inside in
    let pair : g.row.K.Denot × g.row.V.Denot = (c.args.entry.value.key, c.args.entry.value.value) in
    let touched : c.in_ok-touched.touched.entries ≡ put R pair was.touched.entries = c.in_ok-touched.ensures.ok
    ∙ ap (λ (e : Entry g.row.K.Denot g.row.V.Denot). put R (e.key, e.value) was.touched.entries) c.in_ok-clone.ensures.cases in
    ap (find R k) c.in_ok-insert_shared_mut.ensures.ok
    ∙ put_spares g.met.K.Ord.total pair was.touched.entries was.base.entries was.current.entries c.self.invariant k (ap (find R k) (sym touched) ∙ none)

pub returns-clause-touched : goal.returns-clause-touched
returns-clause-touched g c =
    let R = g.K.Ord.cmp in
    let was = c.self.inside.touched.entries in
    let entry : Entry g.row.K.Denot g.row.V.Denot = c.args.entry.value in
    let touched : c.in_ok-touched.touched.entries ≡ put R (entry.key, entry.value) was = c.in_ok-touched.ensures.ok
    ∙ ap (λ (e : Entry g.row.K.Denot g.row.V.Denot). put R (e.key, e.value) was) c.in_ok-clone.ensures.cases in
    ap keys_of touched ∙ member_put R (entry.key, entry.value) was
    ∙ ap (λ (b : Branched g.row.K.Denot g.row.V.Denot). put_member R entry.key b.touched) c.self.view_is
