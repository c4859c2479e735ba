use Rattle.rpds_hash_trie.proofs.Words.{refl, false≢true}
use Rattle.rpds_hash_trie.proofs.LookUp.{none_looked}
use Rattle.rpds_hash_trie.proofs.root.Root.get.Goals as goal

pub returns-in-None-clause-counts : goal.returns-in-None-clause-counts
returns-in-None-clause-counts g c =
    let none = rw c.in-None.is at c.self.view_is in
    rw (← none) (none_looked (λ key. false≢true key) (λ any. any refl) _ _ _ _)
