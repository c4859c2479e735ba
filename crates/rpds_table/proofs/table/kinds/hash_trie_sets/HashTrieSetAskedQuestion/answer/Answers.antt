use Rattle.rpds_table.proofs.HashedCounts.{looked_up}
use Rattle.rpds_table.proofs.table.kinds.hash_trie_sets.HashTrieSetAskedQuestion.answer.Goals as goal

pub returns-in-Key-clause-counts : goal.returns-in-Key-clause-counts
returns-in-Key-clause-counts g c =
    let e = c.get_counted.ensures in
    rw c.in-Key.is (looked_up c.args.self.now.members _ _ _ _ _ e.visited e.visited_least e.enters e.visited_most e.compares e.matched_least e.matched e.others)

pub returns-in-Contains-clause-counts : goal.returns-in-Contains-clause-counts
returns-in-Contains-clause-counts g c =
    let e = c.get_counted-in-Contains.ensures in
    rw c.in-Contains.is (looked_up c.args.self.now.members _ _ _ _ _ e.visited e.visited_least e.enters e.visited_most e.compares e.matched_least e.matched
    e.others)
