use Rattle.std.proofs.lemmas.Result.{on_ok_weaker}
use Rattle.rpds_hash.proofs.Words.{◌≡◌, ◌∙◌, false, sym, true}
use Rattle.rpds_hash.proofs.MergeSteps.{changed_alike, changed_alone, changed_apart, given_found, kept, resolved_at, taken, unchanged}
use Rattle.rpds_hash.specs.HashMerges.{differ, value_of}
use Rattle.rpds_hash.proofs.map.hash_trie_map.HashTrieMap.merge_key.Goals as goal

pub returns-then-not-is_other-clause-merged : goal.returns-then-not-is_other-clause-merged
returns-then-not-is_other-clause-merged g c =
    let same = g.V.PartialEq.eq in
    let base = c.args.base.now.entries in
    let was = c.args.self.now.entries in
    let theirs = c.args.theirs.now.entries in
    let v = value_of g.K.PartialEq.eq c.args.key.now in
    let before = c.get-before.ensures in
    let their = c.get-their.ensures in
    let stays : differ same (v base) (v theirs) ≡ false = sym (λ i. differ same (before i) (their i)) ∙ sym c.if-not-is_other.ensures in
    let is = unchanged same (v base) (v was) (v theirs) stays in
    kept g.met.K.Eq.laws same base was theirs g.F.Fn c.args.resolve.now c.args.key.now is.0 is.1

pub returns-then-not-is_other-2-clause-merged : goal.returns-then-not-is_other-2-clause-merged
returns-then-not-is_other-2-clause-merged g c =
    let same = g.V.PartialEq.eq in
    let base = c.args.base.now.entries in
    let was = c.args.self.now.entries in
    let theirs = c.args.theirs.now.entries in
    let v = value_of g.K.PartialEq.eq c.args.key.now in
    let before = c.get-before.ensures in
    let their = c.get-their.ensures in
    let our = c.get-our.ensures in
    let changed : differ same (v base) (v theirs) ≡ true = sym (λ i. differ same (before i) (their i)) ∙ sym c.if-not-is_other.ensures in
    let stays : differ same (v base) (v was) ≡ false = sym (λ i. differ same (before i) (our i)) ∙ sym c.if-not-is_other-2.ensures in
    let is = changed_alone same (v base) (v was) (v theirs) changed stays in
    on_ok_weaker c.copy_from_mut.result (λ given. taken g.met.K.Eq.laws same base was theirs g.F.Fn c.args.resolve.now c.args.key.now is.0 is.1
    c.copy_from_mut.new.self.entries (given_found g.met.K.Eq.laws c.args.key.now theirs c.args.self.now c.copy_from_mut.new.self given)) c.copy_from_mut.ensures.ok

pub returns-then-not-is_other-3-clause-merged : goal.returns-then-not-is_other-3-clause-merged
returns-then-not-is_other-3-clause-merged g c =
    let same = g.V.PartialEq.eq in
    let base = c.args.base.now.entries in
    let was = c.args.self.now.entries in
    let theirs = c.args.theirs.now.entries in
    let v = value_of g.K.PartialEq.eq c.args.key.now in
    let before = c.get-before.ensures in
    let their = c.get-their.ensures in
    let our = c.get-our.ensures in
    let changed : differ same (v base) (v was) ≡ true = sym (λ i. differ same (before i) (our i)) ∙ sym c.if-not-is_other-2.ensures in
    let alike : differ same (v was) (v theirs) ≡ false = sym (λ i. differ same (our i) (their i)) ∙ sym c.if-not-is_other-3.ensures in
    let is = changed_alike same (v base) (v was) (v theirs) changed alike in
    kept g.met.K.Eq.laws same base was theirs g.F.Fn c.args.resolve.now c.args.key.now is.0 is.1

pub returns-clause-merged : goal.returns-clause-merged
returns-clause-merged g c =
    let same = g.V.PartialEq.eq in
    let base = c.args.base.now.entries in
    let was = c.args.self.now.entries in
    let theirs = c.args.theirs.now.entries in
    let v = value_of g.K.PartialEq.eq c.args.key.now in
    let before = c.get-before.ensures in
    let their = c.get-their.ensures in
    let our = c.get-our.ensures in
    let theirs_changed : differ same (v base) (v theirs) ≡ true = sym (λ i. differ same (before i) (their i)) ∙ sym c.if-not-is_other.ensures in
    let ours_changed : differ same (v base) (v was) ≡ true = sym (λ i. differ same (before i) (our i)) ∙ sym c.if-not-is_other-2.ensures in
    let apart : differ same (v was) (v theirs) ≡ true = sym (λ i. differ same (our i) (their i)) ∙ sym c.if-not-is_other-3.ensures in
    let both = changed_apart same (v base) (v was) (v theirs) theirs_changed ours_changed apart in
    on_ok_weaker c.settle_key.result (λ settled. resolved_at g.met.K.Eq.laws same base was theirs g.F.Fn c.args.resolve.now c.args.key.now both
    c.settle_key.new.self.entries settled.0 settled.1 settled.2) c.settle_key.ensures.settled
