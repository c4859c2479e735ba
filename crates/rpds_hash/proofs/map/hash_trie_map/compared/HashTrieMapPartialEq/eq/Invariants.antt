use Rattle.rpds_hash.proofs.Words.{◌≡◌, list_all}
use Rattle.rpds_hash.proofs.PairsEqual.{is_found}
use Rattle.rpds_hash.proofs.map.hash_trie_map.compared.HashTrieMapPartialEq.eq.Given as goal

abbrev pub invariant-loop-key : goal.invariant-loop-key
invariant-loop-key g l =
    let found = is_found g.K.PartialEq.eq g.V.PartialEq.eq l.other.entries in
    list_all found l.key-iterator ≡ list_all found l.initial.key-iterator
