use Rattle.rpds_hash.proofs.Words.{◌≡◌, ◌∙◌, Bool, ap, find, is_some, keys_of, refl, subst, sym}
use Rattle.std.proofs.Common.{rules}
use Rattle.std.specs.List.{IsDistinct}
use Rattle.std.proofs.lemmas.Map.Keys.{IsDistinct-tail}
use Rattle.rpds_hash.proofs.MergeSteps.{IsMergedSoFar, first_left, merged_all, merged_start, merged_step, others_left}
use Rattle.rpds_hash.proofs.PairsKept.{still_map}
use Rattle.rpds_hash_trie.proofs.KeyLaws.{find_same}
use Rattle.rpds_hash.proofs.map.hash_trie_map.HashTrieMap.merge_stored.Goals as goal

pub loop-key-init : goal.loop-key-init
loop-key-init g c =
    let eq = g.K.PartialEq.eq in
    let base = c.args.base.now.entries in
    let start : c.into_iter-key-iterator.result ≡ base = search rules in
    record {
      distinct = subst (λ l. IsDistinct eq (keys_of l)) (sym start) c.iter-key-items.ensures.hashed.distinct;
      inside = λ k there. ap (λ l. is_some (find eq k l)) (sym start) ∙ there;
      callable = c.requires.callable;
      merged = λ k. merged_start g.met.K.Eq.laws g.V.PartialEq.eq base c.args.self.now.entries c.args.theirs.now.entries g.F.Fn c.args.resolve.now
          (λ j. is_some (find eq j base)) c.into_iter-key-iterator.result (λ j there. ap (λ l. is_some (find eq j l)) start ∙ there) k;
      same = refl;
    }

pub loop-key-preserved : goal.loop-key-preserved
loop-key-preserved g c =
    let eq = g.K.PartialEq.eq in
    let law = g.met.K.Eq.laws in
    let same = g.V.PartialEq.eq in
    let base = c.args.base.now.entries in
    let ours = c.args.self.now.entries in
    let theirs = c.args.theirs.now.entries in
    let was = c.loop-key.self.entries in
    let inv = c.loop-key.invariant in
    let test : g.row.K.Denot → Bool = λ j. is_some (find eq j base) in
    let x : g.row.K.Denot × g.row.V.Denot = (c.in-Some.key.now, c.in-Some.field-0-1.now) in
    let steps = c.in-Some.ensures.steps in
    let distinct = subst (λ l. IsDistinct eq (keys_of l)) steps inv.distinct in
    record {
      distinct = IsDistinct-tail eq x.0 (keys_of c.next.new.self) distinct;
      inside = λ k there. inv.inside k (ap (λ l. is_some (find eq k l)) steps ∙ others_left law x c.next.new.self k there);
      callable = inv.callable;
      merged = λ k. merged_step law same base ours theirs g.F.Fn c.args.resolve.now test (λ i j e. ap is_some (find_same law i j base e)) x c.next.new.self was k
          c.merge_key.new.self.entries distinct (inv.inside x.0 (ap (λ l. is_some (find eq x.0 l)) steps ∙ first_left law x c.next.new.self))
          (subst (λ l. IsMergedSoFar eq same base ours theirs g.F.Fn c.args.resolve.now test l k (find eq k was)) steps (inv.merged k))
          (c.in_ok-merge_key.ensures.merged k);
      same = still_map c.args.self.now c.loop-key.self c.merge_key.new.self _ inv.same c.in_ok-merge_key.ensures.same;
    }

pub returns-clause-merged : goal.returns-clause-merged
returns-clause-merged g c = λ k.
    let eq = g.K.PartialEq.eq in
    let same = g.V.PartialEq.eq in
    let base = c.args.base.now.entries in
    let ours = c.args.self.now.entries in
    let theirs = c.args.theirs.now.entries in
    let was = c.loop-key.self.entries in
    let test : g.row.K.Denot → Bool = λ j. is_some (find eq j base) in
    merged_all g.met.K.Eq.laws same base ours theirs g.F.Fn c.args.resolve.now test was k
    (subst (λ l. IsMergedSoFar eq same base ours theirs g.F.Fn c.args.resolve.now test l k (find eq k was)) c.in-None.ensures.steps.0
    (c.loop-key.invariant.merged k))
