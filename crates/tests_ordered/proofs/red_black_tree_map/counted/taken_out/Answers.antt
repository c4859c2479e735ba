use Rattle.tests_ordered.proofs.Compared.{compares_rows}
use Rattle.tests_ordered.proofs.red_black_tree_map.counted.taken_out.Goals as goal

pub returns : goal.returns
returns g c =
    let told = c.remove_mut_counted.ensures in
    compares_rows c.args.map.now c.args.steps.now c.remove_mut_counted.new.steps told.steps.compared_most (λ none. (told.empty none).1)
