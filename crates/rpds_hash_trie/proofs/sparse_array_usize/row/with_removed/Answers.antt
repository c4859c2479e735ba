use Rattle.rpds_hash_trie.proofs.Words.{drop, ap, ◌∙◌, ◌+◌, add-one, behind, behind_clones}
use Rattle.rpds_hash_trie.proofs.Behind.{row_removed, rest_is}
use Rattle.rpds_hash_trie.proofs.sparse_array_usize.row.with_removed.Goals as goal

pub returns : goal.returns
returns g c =
    let added = c.in_ok-extend_with_clones.ensures.items in
    rw added.1 (row_removed c.args.row.now c.in_ok-copy.copy.items added.0 c.args.at c.in_ok-copy.ensures.same (behind_clones _ added.0 added.2 ∙ ap behind (rest_is (c.args.at + 1) c.args.row.now) ∙ ap (λ n. behind (drop n c.args.row.now)) (add-one c.args.at)))
