use Rattle.std.proofs.Common.{ap, ◌∙◌}
use Rattle.std_collections.proofs.SetKeys.{no_keys}
use Rattle.rpds_hash.proofs.set.hash_trie_set.HashTrieSet.remove_mut.Goals as goal

pub returns-clause-empty : goal.returns-clause-empty
returns-clause-empty g c = λ none. c.remove_mut.ensures.empty (no_keys c.self.inside.map.entries (ap (λ s. s.members) c.self.view_is ∙ none))
