use Rattle.std.proofs.lemmas.Result.{on_ok_weaker}
use Rattle.rpds_hash.proofs.Words.{◌∷◌, ◌∙◌, None, Some, ap, find}
use Rattle.rpds_hash.proofs.MergeSteps.{resolved, settled_in, settled_out}
use Rattle.rpds_hash.specs.HashMerges.{IsResolved, value_of}
use Rattle.rpds_hash.proofs.map.hash_trie_map.HashTrieMap.settle_key.Goals as goal

pub returns-in_ok-clone-in-Some-clause-settled : goal.returns-in_ok-clone-in-Some-clause-settled
returns-in_ok-clone-in-Some-clause-settled g c =
    let eq = g.K.PartialEq.eq in
    let law = g.met.K.Eq.laws in
    let key = c.args.key.now in
    let base = c.args.base.now.entries in
    let was = c.args.self.now.entries in
    let theirs = c.args.theirs.now.entries in
    let says : IsResolved eq g.F.Fn c.args.resolve.now key (value_of eq key base) (value_of eq key was) (value_of eq key theirs) (Some c.in-Some.value) =
    resolved law g.V.PartialEq.eq base was theirs g.F.Fn c.args.resolve.now key c.args.key c.get-before.result c.get-our.result c.get-their.result
    (value_of eq key base) (value_of eq key was) (value_of eq key theirs) c.in_ok-value.field-0 (Some c.in-Some.value) c.get-before.ensures c.get-our.ensures
    c.get-their.ensures c.in_ok-value.ensures c.in-Some.is in
    let same = c.requires.clone_keys key c.in_ok-clone-in-Some.field-0 c.in_ok-clone-in-Some.ensures.cases in
    on_ok_weaker c.insert_mut.result (λ put. (
      Some c.in-Some.value,
      says,
      settled_in law g.V.PartialEq.eq base was theirs g.F.Fn c.args.resolve.now key c.in-Some.value c.insert_mut.new.self.entries
          (λ k. put k ∙ ap (λ j. find eq k ((j, c.in-Some.value) ∷ was)) same),
    )) c.insert_mut.ensures.found

pub returns-in_ok-remove_mut-in-None-clause-settled : goal.returns-in_ok-remove_mut-in-None-clause-settled
returns-in_ok-remove_mut-in-None-clause-settled g c =
    let eq = g.K.PartialEq.eq in
    let law = g.met.K.Eq.laws in
    let key = c.args.key.now in
    let base = c.args.base.now.entries in
    let was = c.args.self.now.entries in
    let theirs = c.args.theirs.now.entries in
    let says : IsResolved eq g.F.Fn c.args.resolve.now key (value_of eq key base) (value_of eq key was) (value_of eq key theirs) None =
    resolved law g.V.PartialEq.eq base was theirs g.F.Fn c.args.resolve.now key c.args.key c.get-before.result c.get-our.result c.get-their.result
    (value_of eq key base) (value_of eq key was) (value_of eq key theirs) c.in_ok-value.field-0 None c.get-before.ensures c.get-our.ensures
    c.get-their.ensures c.in_ok-value.ensures c.in-None.is in
    (None, says, λ k. rw c.in_ok-remove_mut-in-None.ensures.ok (settled_out law g.V.PartialEq.eq base was theirs g.F.Fn c.args.resolve.now key k))
