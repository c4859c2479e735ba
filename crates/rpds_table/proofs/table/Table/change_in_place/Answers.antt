use Rattle.std.proofs.Common.{rules, ◌≡◌, Some, slice_get, vec_len, refl}
use Rattle.std.proofs.lemmas.Option.{slice_get_read}
use Rattle.std.proofs.lemmas.Result.{err_from_is_err_and}
use Rattle.rpds_hash.specs.HashedMap.{key_hash}
use Rattle.rpds_table.specs.Budgets.{no_budget}
use Rattle.rpds_table.specs.Compared.{compared}
use Rattle.rpds_table.specs.Kinds.{budget_of_edit, outcome_of_edit}
use Rattle.rpds_table.proofs.Budgets.{no_work}
use Rattle.rpds_table.proofs.Spent.{within_reported}
use Rattle.rpds_table.proofs.Transitions.{reported_in_place, refused_in_place}
use Rattle.rpds_table.proofs.table.Table.change_in_place.Goals as goal

pub returns-in_err-outcome-clause-change : goal.returns-in_err-outcome-clause-change
returns-in_err-outcome-clause-change g c =
    let keys = compared g.K.PartialEq.eq g.K.Ord.cmp in
    let t = c.self.inside.versions.items in
    let v = c.in-Some.version.now in
    let found : slice_get t c.args.index ≡ Some v = slice_get_read t (vec_len c.self.inside.versions) c.args.index v (search rules)
    (c.in-Some.ensures.variant.0 refl) c.in-Some.ensures.value in
    let error = err_from_is_err_and c.from_residual.result c.from_residual.ensures.1 in
    rw (← c.self.view_is, error.1, error.2, c.in_err-outcome.ensures.done.1)
    (refused_in_place keys (key_hash g.H.BuildHasher g.H.Hasher.Hasher g.K.Hash.hash_input) t c.args.index (λ v. outcome_of_edit keys v c.args.edit) v found
    c.in_err-outcome.ensures.done.0)

pub returns-clause-change : goal.returns-clause-change
returns-clause-change g c =
    let keys = compared g.K.PartialEq.eq g.K.Ord.cmp in
    let t = c.self.inside.versions.items in
    let v = c.in-Some.version.now in
    let found : slice_get t c.args.index ≡ Some v = slice_get_read t (vec_len c.self.inside.versions) c.args.index v (search rules)
    (c.in-Some.ensures.variant.0 refl) c.in-Some.ensures.value in
    rw (← c.self.view_is, c.reply.ensures)
    (reported_in_place keys (key_hash g.H.BuildHasher g.H.Hasher.Hasher g.K.Hash.hash_input) t c.args.index (λ v. outcome_of_edit keys v c.args.edit) v found
    c.in_ok-outcome.outcome c.edit_mut.new.self c.prove_order.ensures c.in_ok-outcome.ensures.done)

pub returns-clause-counts : goal.returns-clause-counts
returns-clause-counts g c =
    let t = c.self.inside.versions.items in
    let v = c.in-Some.version.now in
    let found : slice_get t c.args.index ≡ Some v = slice_get_read t (vec_len c.self.inside.versions) c.args.index v (search rules)
    (c.in-Some.ensures.variant.0 refl) c.in-Some.ensures.value in
    rw (← c.self.view_is, found, c.reply.ensures)
    (within_reported (budget_of_edit v c.args.edit) c.args.steps.now c.edit_mut.new.steps c.in_ok-outcome.outcome c.in_ok-outcome.ensures.counts)

pub returns-in_default-clause-counts : goal.returns-in_default-clause-counts
returns-in_default-clause-counts g c = no_work no_budget c.args.steps.now refl
