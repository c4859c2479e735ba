use Rattle.rpds_tree.proofs.Words.{◌∙◌, [], ap, keys_of, map, put_members}
use Rattle.rpds_tree.proofs.Members.{keys_put_all, length_members}
use Rattle.rpds_tree.proofs.Rising.{members_alone}
use Rattle.rpds_tree.proofs.set.red_black_tree_set.RedBlackTreeSet.from_items.Goals as goal

pub returns-clause-members : goal.returns-clause-members
returns-clause-members g c =
    let items = c.args.items.items in
    ap keys_of c.in_ok-map.ensures.entries ∙ keys_put_all g.T.Ord.cmp [] (map (λ x. (x, tt)) items) ∙ ap (put_members g.T.Ord.cmp []) (members_alone items)

pub returns-clause-depth : goal.returns-clause-depth
returns-clause-depth g c = rw (length_members c.in_ok-map.map.entries) c.in_ok-map.ensures.depth

pub returns-clause-shallowest : goal.returns-clause-shallowest
returns-clause-shallowest g c = rw (length_members c.in_ok-map.map.entries) c.in_ok-map.ensures.shallowest
