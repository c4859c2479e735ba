use Rattle.rpds_hash.proofs.Words.{◌≡◌, ◌&&◌, ◌∙◌, Bool, ap, false, find, is_some, keys_of, refl, subst, sym, true}
use Rattle.std.proofs.Common.{is_none, rules}
use Rattle.std.specs.List.{IsDistinct}
use Rattle.std.proofs.lemmas.Map.Keys.{IsDistinct-tail}
use Rattle.rpds_hash.proofs.MergeSteps.{IsMergedSoFar, first_left, is_added, is_stored, merged_all, merged_skip, merged_start, merged_step, of_both, others_left}
use Rattle.rpds_hash.proofs.PairsKept.{still_map}
use Rattle.rpds_hash_trie.proofs.KeyLaws.{find_same}
use Rattle.rpds_hash.proofs.map.hash_trie_map.HashTrieMap.merge_added.Goals as goal

pub loop-key-init : goal.loop-key-init
loop-key-init g c =
    let eq = g.K.PartialEq.eq in
    let base = c.args.base.now.entries in
    let theirs = c.args.theirs.now.entries in
    let start : c.into_iter-key-iterator.result ≡ theirs = search rules in
    record {
      distinct = subst (λ l. IsDistinct eq (keys_of l)) (sym start) c.iter-key-items.ensures.hashed.distinct;
      inside = λ k there. ap (λ l. is_some (find eq k l)) (sym start) ∙ there;
      callable = c.requires.callable;
      merged = λ k. merged_start g.met.K.Eq.laws g.V.PartialEq.eq base c.args.self.now.entries theirs g.F.Fn c.args.resolve.now
          (λ j. is_none (find eq j base) && is_some (find eq j theirs)) c.into_iter-key-iterator.result
          (λ j there. ap (λ l. is_some (find eq j l)) start ∙ of_both (find eq j base) (find eq j theirs) there) k;
      same = refl;
    }

pub loop-key-preserved-in-Continue-1 : goal.loop-key-preserved-in-Continue-1
loop-key-preserved-in-Continue-1 g c =
    let eq = g.K.PartialEq.eq in
    let law = g.met.K.Eq.laws in
    let same = g.V.PartialEq.eq in
    let base = c.args.base.now.entries in
    let ours = c.args.self.now.entries in
    let theirs = c.args.theirs.now.entries in
    let was = c.loop-key.self.entries in
    let inv = c.loop-key.invariant in
    let x : g.row.K.Denot × g.row.V.Denot = (c.in-Some.key.now, c.in-Some.field-0-1.now) in
    let steps = c.in-Some.ensures.steps in
    let test : g.row.K.Denot → Bool = λ j. is_none (find eq j base) && is_some (find eq j theirs) in
    let there = inv.inside x.0 (ap (λ l. is_some (find eq x.0 l)) steps ∙ first_left law x c.next.new.self) in
    let passes : test x.0 ≡ true = is_added (find eq x.0 base) (find eq x.0 theirs) (sym c.contains_key.ensures ∙ c.if-not-contains_key.true) there in
    let distinct = subst (λ l. IsDistinct eq (keys_of l)) steps inv.distinct in
    record {
      distinct = IsDistinct-tail eq x.0 (keys_of c.next.new.self) distinct;
      inside = λ k there. inv.inside k (ap (λ l. is_some (find eq k l)) steps ∙ others_left law x c.next.new.self k there);
      callable = inv.callable;
      merged = λ k. merged_step law same base ours theirs g.F.Fn c.args.resolve.now test
          (λ i j e k. is_none (find_same law i j base e k) && is_some (find_same law i j theirs e k)) x c.next.new.self was k c.merge_key.new.self.entries distinct passes
          (subst (λ l. IsMergedSoFar eq same base ours theirs g.F.Fn c.args.resolve.now test l k (find eq k was)) steps (inv.merged k))
          (c.in_ok-merge_key.ensures.merged k);
      same = still_map c.args.self.now c.loop-key.self c.merge_key.new.self _ inv.same c.in_ok-merge_key.ensures.same;
    }

pub loop-key-preserved : goal.loop-key-preserved
loop-key-preserved g c =
    let eq = g.K.PartialEq.eq in
    let law = g.met.K.Eq.laws in
    let same = g.V.PartialEq.eq in
    let base = c.args.base.now.entries in
    let ours = c.args.self.now.entries in
    let theirs = c.args.theirs.now.entries in
    let was = c.loop-key.self.entries in
    let inv = c.loop-key.invariant in
    let x : g.row.K.Denot × g.row.V.Denot = (c.in-Some.key.now, c.in-Some.field-0-1.now) in
    let steps = c.in-Some.ensures.steps in
    let test : g.row.K.Denot → Bool = λ j. is_none (find eq j base) && is_some (find eq j theirs) in
    let fails : test x.0 ≡ false = is_stored (find eq x.0 base) (find eq x.0 theirs) (sym c.contains_key.ensures ∙ c.if-not-contains_key.false) in
    let distinct = subst (λ l. IsDistinct eq (keys_of l)) steps inv.distinct in
    record {
      distinct = IsDistinct-tail eq x.0 (keys_of c.next.new.self) distinct;
      inside = λ k there. inv.inside k (ap (λ l. is_some (find eq k l)) steps ∙ others_left law x c.next.new.self k there);
      callable = inv.callable;
      merged = λ k. merged_skip law same base ours theirs g.F.Fn c.args.resolve.now test
          (λ i j e k. is_none (find_same law i j base e k) && is_some (find_same law i j theirs e k)) x c.next.new.self was k fails
          (subst (λ l. IsMergedSoFar eq same base ours theirs g.F.Fn c.args.resolve.now test l k (find eq k was)) steps (inv.merged k));
      same = inv.same;
    }

pub returns-clause-merged : goal.returns-clause-merged
returns-clause-merged g c = λ k.
    let eq = g.K.PartialEq.eq in
    let same = g.V.PartialEq.eq in
    let base = c.args.base.now.entries in
    let ours = c.args.self.now.entries in
    let theirs = c.args.theirs.now.entries in
    let was = c.loop-key.self.entries in
    let test : g.row.K.Denot → Bool = λ j. is_none (find eq j base) && is_some (find eq j theirs) in
    merged_all g.met.K.Eq.laws same base ours theirs g.F.Fn c.args.resolve.now test was k
    (subst (λ l. IsMergedSoFar eq same base ours theirs g.F.Fn c.args.resolve.now test l k (find eq k was)) c.in-None.ensures.steps.0
    (c.loop-key.invariant.merged k))
