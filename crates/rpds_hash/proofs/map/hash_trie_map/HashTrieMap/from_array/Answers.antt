use Rattle.rpds_hash.proofs.Arrays.{all_given}
use Rattle.rpds_hash.proofs.Words.{◌∙◌, AreCollected, IfOk-weaker, subst}
use Rattle.rpds_hash.proofs.map.hash_trie_map.HashTrieMap.from_array.Goals as goal

pub returns-in-Ok-clause-entries : goal.returns-in-Ok-clause-entries
returns-in-Ok-clause-entries g c =
    IfOk-weaker c.from_iter.result _ _ (λ m given. subst (λ pairs. AreCollected g.K.PartialEq.eq pairs m.entries)
    (all_given given.0 _ given.1 (given.2.0 ∙ c.in-Ok.ensures.items) given.2.3 given.3) given.4) c.from_iter.ensures.entries
