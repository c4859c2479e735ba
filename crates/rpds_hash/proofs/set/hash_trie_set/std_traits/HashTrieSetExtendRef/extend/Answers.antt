use Rattle.std.proofs.Common.{[], refl}
use Rattle.std.proofs.lemmas.Result.{on_err_weaker}
use Rattle.rpds_hash.proofs.Extended.{HoldsMembers, KeepsSetHasher, extended_by_copies_of, no_members}
use Rattle.rpds_hash.proofs.set.hash_trie_set.std_traits.HashTrieSetExtendRef.extend.Goals as goal

pub extend-requires-clause-clone_hasher : goal.extend-requires-clause-clone_hasher
extend-requires-clause-clone_hasher g c = (c.requires c.into_iter-items.result c.into_iter-items.ensures.into_iter_gives).2 [] c.into_iter-items.result refl

pub returns : goal.returns
returns g c =
    let eq = g.T.PartialEq.eq in
    let old = c.args.self.now in
    let new = c.extend.new.self in
    record {
      ran = extended_by_copies_of g.U.IntoIter.Iterator.next_gives (g.U.IntoIterator.into_iter_gives c.args.iter) (HoldsMembers eq old new) (KeepsSetHasher eq old new) c.copied.result c.into_iter-items.result c.copied.ensures.source c.into_iter-items.ensures.into_iter_gives c.extend.result c.extend.ensures.ok c.extend.ensures.same
          (on_err_weaker c.extend.result (no_members eq old new) c.extend.ensures.err);
    }
