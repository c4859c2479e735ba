use Rattle.std.proofs.Common.{rules}
use Rattle.std.proofs.lemmas.Bool.{ne_eqb}
use Rattle.rpds_hash_trie.proofs.Counts.{matched_more}
use Rattle.rpds_hash_trie.proofs.node.EntryWithHash.matches_counted.Goals as goal

pub returns-then-self-hash-clause-matched : goal.returns-then-self-hash-clause-matched
returns-then-self-hash-clause-matched g c = rw (ne_eqb c.args.self.now.key_hash c.args.hash c.if-self-hash.true) (matched_more c.args.steps.now)

pub returns-clause-value : goal.returns-clause-value
returns-clause-value g c = search rules
