use Rattle.std.proofs.Common.{vec_len}
use Rattle.rpds_red_black.proofs.Words.{◌≡◌, ◌+◌, ◌<◌, ◌≤◌, arith, IfOk-weaker, floor_log2, Black}
use Rattle.rpds_red_black.proofs.FromSorted.{height_of_some, made_none}
use Rattle.rpds_red_black.proofs.Logarithm.{power_le_log}
use Rattle.rpds_red_black.proofs.tree.Tree.from_items.Goals as goal

pub returns-in-0-clause-made : goal.returns-in-0-clause-made
returns-in-0-clause-made g c = made_none c.args.steps.now (vec_len c.args.items) (omega arith)

pub returns-clause-black : goal.returns-clause-black
returns-clause-black g c =
    let some : 0 < c.ilog2.result = height_of_some c.ilog2.result (vec_len c.args.items) (omega arith) (omega arith) in
    IfOk-weaker c.build.result (λ t. 0 < c.ilog2.result → t.color ≡ Black) (λ t. t.color ≡ Black) (λ t black. black some) c.build.ensures.color

pub returns-clause-depth : goal.returns-clause-depth
returns-clause-depth g c =
    let high : c.ilog2.result ≤ floor_log2 (vec_len c.args.items) = power_le_log (vec_len c.args.items) c.ilog2.result (omega arith) in
    IfOk-weaker c.build.result (λ t. t.depth ≤ c.ilog2.result + 1) (λ t. t.depth ≤ floor_log2 (vec_len c.args.items) + 1) (λ t shallow. omega arith) c.build.ensures.depth
