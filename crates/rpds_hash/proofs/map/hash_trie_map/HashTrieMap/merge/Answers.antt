use Rattle.rpds_hash.proofs.Words.{◌∙◌, HashedMap, find, subst}
use Rattle.rpds_hash.proofs.MergeSteps.{merged_both, valued}
use Rattle.rpds_hash.proofs.PairsKept.{still_map}
use Rattle.rpds_hash.specs.HashMerges.{IsMergedAt}
use Rattle.rpds_hash.proofs.map.hash_trie_map.HashTrieMap.merge.Goals as goal

pub returns-clause-pairs : goal.returns-clause-pairs
returns-clause-pairs g c = λ k.
    let eq = g.K.PartialEq.eq in
    let same = g.V.PartialEq.eq in
    let base = c.args.self.now.entries in
    let theirs = c.args.theirs.now.entries in
    let mid = c.merge_stored.new.self.entries in
    let new = c.merge_added.new.self.entries in
    subst (λ (m : HashedMap g.row.K.Denot g.row.V.Denot g.row.H.Denot). IsMergedAt eq same g.F.Fn c.args.resolve base m.entries theirs k (find eq k new))
    c.in_ok-map.ensures
    (merged_both g.met.K.Eq.laws same base c.in_ok-map.map.entries theirs g.F.Fn c.args.resolve mid new k (c.in_ok-merge_stored.ensures.merged k)
    (c.in_ok-merge_added.ensures.merged k))

pub returns-clause-values : goal.returns-clause-values
returns-clause-values g c = λ h settles k.
    let eq = g.K.PartialEq.eq in
    valued g.met.K.Eq.laws g.V.PartialEq.eq c.args.self.now.entries c.args.ours.now.entries c.args.theirs.now.entries g.F.Fn c.args.resolve h settles k
    (find eq k c.merge_added.new.self.entries) (returns-clause-pairs g c k)

pub returns-clause-same : goal.returns-clause-same
returns-clause-same g c =
    let first = c.in_ok-merge_stored.ensures.same ∙ (λ i. record (c.in_ok-map.ensures i) { entries = c.merge_stored.new.self.entries }) in
    still_map c.args.ours.now c.merge_stored.new.self c.merge_added.new.self _ first c.in_ok-merge_added.ensures.same
