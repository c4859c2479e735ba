use Rattle.rpds_hash.specs.HashedMap.{key_hash}
use Rattle.rpds_table.specs.Compared.{compared}
use Rattle.rpds_table.specs.declared.table.version.Version.TheVariants as version
use Rattle.rpds_table.proofs.Ordered.{version_is_in_order}
use Rattle.rpds_table.proofs.table.laws.order_is_lawful.Goals as goal

pub returns-clause-map : goal.returns-clause-map
returns-clause-map g c t i m all found =
    version_is_in_order (compared g.K.PartialEq.eq g.K.Ord.cmp) (key_hash g.H.BuildHasher g.H.Hasher.Hasher g.K.Hash.hash_input) t i
    (version.RedBlackTreeMap m) all found

pub returns-clause-set : goal.returns-clause-set
returns-clause-set g c t i s all found =
    version_is_in_order (compared g.K.PartialEq.eq g.K.Ord.cmp) (key_hash g.H.BuildHasher g.H.Hasher.Hasher g.K.Hash.hash_input) t i
    (version.RedBlackTreeSet s) all found
