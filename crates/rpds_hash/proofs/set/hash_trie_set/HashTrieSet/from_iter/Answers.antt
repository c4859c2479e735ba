use Rattle.rpds_hash.proofs.Words.{◌∙◌, map, sym, subst, map_push, AreCollected}
use Rattle.rpds_hash_trie.proofs.FromIter.{collected_last}
use Rattle.rpds_hash.proofs.Members.{to_unit}
use Rattle.rpds_hash.proofs.set.hash_trie_set.HashTrieSet.from_iter.Goals as goal

pub loop-item-preserved : goal.loop-item-preserved
loop-item-preserved g c =
    let eq = g.T.PartialEq.eq in
    let inv = c.loop-item.invariant in
    let put = c.in_ok-insert_mut.ensures.ok in
    let old = c.loop-item.map.entries in
    let new = c.insert_mut.new.self.entries in
    let next = c.in-Some.ensures.goes.on inv.1 in
    let more = collected_last eq g.met.T.Eq.laws (map to_unit c.loop-item.yielded) (to_unit c.in-Some.item) old new inv.2 put.pairs c.size-size.ensures.hashed.distinct in (
      next.0,
      next.1,
      subst (λ pairs. AreCollected eq pairs new) (sym (map_push to_unit c.loop-item.yielded c.in-Some.item)) more,
      put.degree ∙ inv.3,
      subst (λ h. g.H.Default.is_default h) (sym put.hasher) inv.4,
    )
