use Rattle.rpds_hash_trie.proofs.Words.{arith, refl}
use Rattle.rpds_hash_trie.proofs.Digits.{level_count_le}
use Rattle.rpds_hash_trie.proofs.NodeInsert.{put_seen}
use Rattle.rpds_hash_trie.proofs.in_place.put_leaf.Goals as goal

pub overflow_add-depth : goal.overflow_add-depth
overflow_add-depth g c = omega (arith, c.requires.fits.deep, level_count_le c.args.bits)

pub returns-clause-ok : goal.returns-clause-ok
returns-clause-ok g c = rw c.in_ok-set.ensures.ok (rw (put_seen c.args.place c.in_ok-leaf.leaf c.args.children.now, c.in_ok-leaf.ensures.ok) refl)
