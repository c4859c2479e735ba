use Rattle.rpds_hash_trie.proofs.Words.{ap, ◌∙◌, behind, behind_clones}
use Rattle.rpds_hash_trie.proofs.Behind.{row_inserted, rest_is}
use Rattle.rpds_hash_trie.proofs.sparse_array_usize.row.with_inserted.Goals as goal

pub returns : goal.returns
returns g c =
    let added = c.in_ok-extend_with_clones.ensures.items in
    rw (added.1, c.push_reserved.ensures.items) (row_inserted c.args.row.now c.in_ok-copy.copy.items added.0 c.args.at c.args.more c.in_ok-copy.ensures.same (behind_clones _ added.0 added.2 ∙ ap behind (rest_is c.args.at c.args.row.now)))
