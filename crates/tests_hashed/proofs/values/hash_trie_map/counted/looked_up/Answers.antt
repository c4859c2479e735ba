use Rattle.rpds_hash.specs.HashedMap.{key_hash}
use Rattle.tests_hashed.proofs.HashVisits.{look_up_rows}
use Rattle.tests_hashed.proofs.values.hash_trie_map.counted.looked_up.Goals as goal

pub returns : goal.returns
returns g c =
    let told = c.get_counted.ensures in
    look_up_rows g.K.PartialEq.eq (key_hash g.H.BuildHasher g.H.Hasher.Hasher g.K.Hash.hash_input c.args.map.now.hasher) c.args.map.now c.args.key.now c.args.steps.now c.get_counted.new.steps told.visited told.matched
