use Rattle.std.proofs.Common.{◌≡◌, ◌∷◌, map, take}
use Rattle.rpds_hash_trie.proofs.Words.{stored, unmatched}
use Rattle.rpds_hash_trie.specs.HashSift.{goes, AreCounted}
use Rattle.rpds_hash_trie.proofs.sift.sift_collision.Given as goal

abbrev pub invariant-loop-entry : goal.invariant-loop-entry
invariant-loop-entry g l =
    let seen = stored l.mine.front ∷ map stored (take l.entry-index l.others) in
    (map stored l.kept.items ≡ unmatched (goes g.K.PartialEq.eq l.both l.other.entries) seen)
    × AreCounted g.K.PartialEq.eq seen l.other.entries l.fn.common l.common
