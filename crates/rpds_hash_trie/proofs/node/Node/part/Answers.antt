use Rattle.rpds_hash_trie.proofs.Words.{ap}
use Rattle.rpds_hash_trie.proofs.node.Node.part.Goals as goal

pub join-requires-clause-alike : goal.join-requires-clause-alike
join-requires-clause-alike g c = rw (ap (λ e. e.0) c.in_ok-old.ensures) c.requires.alike

pub returns-clause-ok : goal.returns-clause-ok
returns-clause-ok g c = rw c.in_ok-old.ensures at c.join.ensures.ok

pub returns-clause-made : goal.returns-clause-made
returns-clause-made g c = rw (ap (λ e. e.0) c.in_ok-old.ensures) at c.join.ensures.made
