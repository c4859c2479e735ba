use Rattle.rpds_hash.proofs.Arrays.{all_given}
use Rattle.rpds_hash.proofs.Words.{◌∙◌, IfOk-weaker, subst}
use Rattle.rpds_hash.specs.HashedSet.{HoldLast}
use Rattle.rpds_hash.proofs.set.hash_trie_set.HashTrieSet.from_array.Goals as goal

pub returns-in-Ok-clause-members : goal.returns-in-Ok-clause-members
returns-in-Ok-clause-members g c =
    IfOk-weaker c.from_iter.result _ _ (λ s given. subst (λ items. HoldLast g.T.PartialEq.eq items s.members)
    (all_given given.0 _ given.1 (given.2.0 ∙ c.in-Ok.ensures.items) given.2.3 given.3) given.4) c.from_iter.ensures.members
