use Rattle.std.proofs.Common.{[], refl}
use Rattle.std.proofs.lemmas.Result.{on_err_weaker}
use Rattle.rpds_hash.proofs.Extended.{HoldsPairs, KeepsHasher, extended_whole, no_pairs}
use Rattle.rpds_hash.proofs.map.hash_trie_map.std_traits.HashTrieMapExtendTuple2.extend.Goals as goal

pub extend-requires-clause-clone_hasher : goal.extend-requires-clause-clone_hasher
extend-requires-clause-clone_hasher g c = (c.requires c.into_iter-pairs.result c.into_iter-pairs.ensures.into_iter_gives).2 [] c.into_iter-pairs.result refl

pub returns : goal.returns
returns g c =
    let eq = g.K.PartialEq.eq in
    let old = c.args.self.now in
    let new = c.extend.new.self in
    record {
      ran = extended_whole g.U.IntoIter.Iterator.next_gives (g.U.IntoIterator.into_iter_gives c.args.iter) (HoldsPairs eq old new) (KeepsHasher eq old new) c.into_iter-pairs.result c.into_iter-pairs.ensures.into_iter_gives c.extend.result c.extend.ensures.ok c.extend.ensures.same
          (on_err_weaker c.extend.result (no_pairs eq old new) c.extend.ensures.err);
    }
