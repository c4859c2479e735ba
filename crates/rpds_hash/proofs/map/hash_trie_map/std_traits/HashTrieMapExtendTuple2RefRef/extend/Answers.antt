use Rattle.std.proofs.Common.{[], map, refl, rules}
use Rattle.std.proofs.lemmas.Result.{on_err_weaker}
use Rattle.std.specs.Map.Iter.{deref_pair}
use Rattle.rpds_hash.proofs.Extended.{HoldsPairs, KeepsHasher, extended_whole, no_pairs}
use Rattle.rpds_hash.proofs.map.hash_trie_map.std_traits.HashTrieMapExtendTuple2RefRef.extend.Goals as goal

pub extend_copied-requires : goal.extend_copied-requires
extend_copied-requires g c =
    let all = c.requires c.into_iter-pairs.result c.into_iter-pairs.ensures.into_iter_gives in
    search (rules, all.0, all.1, all.2 [] c.into_iter-pairs.result refl)

pub returns : goal.returns
returns g c =
    let eq = g.K.PartialEq.eq in
    let old = c.args.self.now in
    let new = c.extend_copied.new.self in
    record {
      ran = extended_whole g.U.IntoIter.Iterator.next_gives (g.U.IntoIterator.into_iter_gives c.args.iter) (λ more. HoldsPairs eq old new (map deref_pair more)) (KeepsHasher eq old new) c.into_iter-pairs.result c.into_iter-pairs.ensures.into_iter_gives c.extend_copied.result c.extend_copied.ensures.ok c.extend_copied.ensures.same
          (on_err_weaker c.extend_copied.result (no_pairs eq old new) c.extend_copied.ensures.err);
    }
