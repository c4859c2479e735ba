use Rattle.std.proofs.Common.{◌<◌, length, set, ap, ◌∙◌, arith}
use Rattle.std.proofs.lemmas.List.{get_or_default}
use Rattle.rpds_core.specs.Rows.{behind}
use Rattle.rpds_core.proofs.Rows.{behind_set, behind_length}
use Rattle.rpds_list.proofs.Turns.{get_behind}
use Rattle.rpds_list.proofs.list.in_place.swap_held.Goals as goal

pub returns-clause-held : goal.returns-clause-held
returns-clause-held g c =
    let was = c.args.held.now.items in
    behind_set was c.args.at c.swap.new.x ∙ ap (λ item. set (behind was) c.args.at item.value) c.swap.ensures.x_after

pub returns-clause-item : goal.returns-clause-item
returns-clause-item g c =
    let was = c.args.held.now.items in
    let there : c.args.at < length (behind was) = omega (arith, c.requires, behind_length was) in
    ap (λ item. item.value) c.swap.ensures.y_after ∙ get_behind was c.args.at c.index_mut.result.now c.index_mut.ensures.value
    ∙ get_or_default (behind was) c.args.at c.index_mut.result.now.value c.args.item.now.value there
