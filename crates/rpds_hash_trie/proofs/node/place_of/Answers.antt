use Rattle.rpds_hash_trie.proofs.Digits.{mask_is, few_places}
use Rattle.rpds_hash_trie.proofs.node.place_of.Goals as goal

pub returns-clause-value : goal.returns-clause-value
returns-clause-value c = mask_is c.args.hash_left c.args.bits c.requires.bits_in.1

pub returns-clause-within : goal.returns-clause-within
returns-clause-within c = rw (mask_is c.args.hash_left c.args.bits c.requires.bits_in.1) (few_places c.args.hash_left c.args.bits c.requires.bits_in.1)
