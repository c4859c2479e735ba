use Rattle.std.proofs.Common.{map-id}
use Rattle.std.specs.Result.{IfOk}
use Rattle.rpds_tree.proofs.Words.{◌≡◌, ◌∙◌, ap, subst, rules, keys_of, first_out_of_order}
use Rattle.rpds_tree.proofs.map.red_black_tree_map.RedBlackTreeMap.from_sorted_counted.Goals as goal

pub returns-clause-entries : goal.returns-clause-entries
returns-clause-entries g c =
    subst (λ pairs. IfOk c.from_items.result (λ m. m.entries ≡ pairs)) (map-id c.args.pairs.items) c.from_items.ensures.entries

pub returns-clause-out_of_order : goal.returns-clause-out_of_order
returns-clause-out_of_order g c = c.from_items.ensures.out_of_order ∙ ap (λ pairs. first_out_of_order g.K.Ord.cmp (keys_of pairs)) (map-id c.args.pairs.items)

pub returns-clause-depth : goal.returns-clause-depth
returns-clause-depth g c = c.from_items.ensures.depth

pub returns-clause-empty : goal.returns-clause-empty
returns-clause-empty g c = c.from_items.ensures.empty

pub returns-clause-made : goal.returns-clause-made
returns-clause-made g c = search rules
