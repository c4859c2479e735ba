use Rattle.std.proofs.Common.{◌≡◌, None, Some, ap, false, is_some, sym, ◌∙◌}
use Rattle.std.specs.Map.{keys_of}
use Rattle.rpds_branch.proofs.Copying.{held, none_held, nothing_held, without_spares}
use Rattle.rpds_branch.specs.Branches.{Branched, touched_with}
use Rattle.rpds_red_black.proofs.Pairs.{others_absent}
use Rattle.rpds_tree.proofs.FormLaws.{sought_tied}
use Rattle.rpds_tree.proofs.Members.{member_put}
use Rattle.rpds_tree.specs.OrderedMap.{OrderedMap}
use Rattle.rpds_tree.specs.Pairs.{find, find_by}
use Rattle.rpds_branch.proofs.branch.Branch.remove_mut.Goals as goal

pub returns-in_default-clause-ok : goal.returns-in_default-clause-ok
returns-in_default-clause-ok g c =
    let seek = g.Q.OrdKey.order (g.Q.OrdKey.seen c.args.key) in
    let same = ap (λ (b : Branched g.row.K.Denot g.row.V.Denot). is_some (find_by seek b.current.entries)) c.self.view_is in
    let none : is_some (find_by seek c.self.inside.current.entries) ≡ false = none_held _ _ _ c.in_ok-entry.ensures c.in_default.is in
    sym (others_absent seek c.args.self.now.current.entries (sym same ∙ none))

pub invariant_of-self : goal.invariant_of-self
invariant_of-self g c = λ k none.
    ap (λ (m : OrderedMap g.row.K.Denot g.row.V.Denot). find g.K.Ord.cmp k m.entries) c.in_err-remove_mut.ensures.err ∙ c.self.invariant k none

pub invariant_of-self-2 : goal.invariant_of-self-2
invariant_of-self-2 g c = λ k none.
    let R = g.K.Ord.cmp in
    let was = c.self.inside in
    let seek = g.Q.OrdKey.order (g.Q.OrdKey.seen c.args.key) in
    let pair : g.row.K.Denot × g.row.V.Denot = (c.in-Some.entry.value.key, c.in-Some.entry.value.value) in
    let found : find_by seek was.current.entries ≡ Some pair = held _ _ _ _ c.in_ok-entry.ensures c.in-Some.is in
    let tied = sought_tied seek was.current.entries pair found in
    ap (find R k) c.in_ok-remove_mut.ensures.ok
    ∙ without_spares g.met.K.Ord.total (g.met.Q.OrdKey.searches c.args.key) pair tied was.touched.entries was.base.entries was.current.entries
    c.self.invariant k (ap (find R k) (sym c.in_ok-touched.ensures.ok) ∙ none)

pub returns-in_default-clause-touched : goal.returns-in_default-clause-touched
returns-in_default-clause-touched g c =
    let seek = g.Q.OrdKey.order (g.Q.OrdKey.seen c.args.key) in
    let none : find_by seek c.args.self.now.current.entries ≡ None = sym (ap (λ (b : Branched g.row.K.Denot g.row.V.Denot). find_by seek b.current.entries) c.self.view_is)
    ∙ nothing_held _ _ _ c.in_ok-entry.ensures c.in_default.is in
    sym (ap (λ f. touched_with g.K.Ord.cmp f c.args.self.now.touched) none)

pub returns-clause-touched : goal.returns-clause-touched
returns-clause-touched g c =
    let R = g.K.Ord.cmp in
    let seek = g.Q.OrdKey.order (g.Q.OrdKey.seen c.args.key) in
    let was = c.self.inside in
    let pair : g.row.K.Denot × g.row.V.Denot = (c.in-Some.entry.value.key, c.in-Some.entry.value.value) in
    let found : find_by seek was.current.entries ≡ Some pair = held _ _ _ _ c.in_ok-entry.ensures c.in-Some.is in
    ap keys_of c.in_ok-touched.ensures.ok ∙ member_put R pair was.touched.entries
    ∙ ap (λ f. touched_with R f (keys_of was.touched.entries)) (sym found)
    ∙ ap (λ (b : Branched g.row.K.Denot g.row.V.Denot). touched_with R (find_by seek b.current.entries) b.touched) c.self.view_is
