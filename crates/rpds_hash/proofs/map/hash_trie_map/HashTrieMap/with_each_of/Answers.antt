use Rattle.rpds_hash.proofs.Words.{◌≡◌, ◌∙◌, find, keys_of, subst, sym}
use Rattle.std.proofs.Common.{rules}
use Rattle.std.specs.List.{IsDistinct}
use Rattle.std.proofs.lemmas.Map.Keys.{IsDistinct-tail}
use Rattle.rpds_hash.proofs.MergeSteps.{given_found}
use Rattle.rpds_hash.proofs.PairsKept.{given_map, still_map}
use Rattle.rpds_hash.proofs.Unions.{IsEitherSoFar, either_added, either_start, either_stored}
use Rattle.rpds_hash.proofs.map.hash_trie_map.HashTrieMap.with_each_of.Goals as goal

pub loop-key-init : goal.loop-key-init
loop-key-init g c =
    let eq = g.K.PartialEq.eq in
    let ours = c.args.self.now.entries in
    let theirs = c.args.other.now.entries in
    let start : c.into_iter-key-iterator.result ≡ theirs = search rules in
    let same = c.in_ok-both.ensures in
    record {
      distinct = subst (λ l. IsDistinct eq (keys_of l)) (sym start) c.iter-key-items.ensures.hashed.distinct;
      found = λ k. (λ i. find eq k (same i).entries)
          ∙ subst (λ l. IsEitherSoFar eq ours theirs l k (find eq k ours)) (sym start) (either_start eq ours theirs k);
      same = λ i. record (same i) { entries = c.in_ok-both.both.entries };
    }

pub loop-key-preserved-in-Continue-branch-2 : goal.loop-key-preserved-in-Continue-branch-2
loop-key-preserved-in-Continue-branch-2 g c =
    let eq = g.K.PartialEq.eq in
    let law = g.met.K.Eq.laws in
    let ours = c.args.self.now.entries in
    let theirs = c.args.other.now.entries in
    let was = c.loop-key.both in
    let new = c.copy_from_mut.new.self in
    let inv = c.loop-key.invariant in
    let x : g.row.K.Denot × g.row.V.Denot = (c.in-Some.key.now, c.in-Some.field-0-1.now) in
    let rest = c.next.new.self in
    let steps = c.in-Some.ensures.steps in
    let distinct = subst (λ l. IsDistinct eq (keys_of l)) steps inv.distinct in
    let given = c.in_ok-copy_from_mut.ensures.ok in
    record {
      distinct = IsDistinct-tail eq x.0 (keys_of rest) distinct;
      found = λ k. either_added law ours theirs x rest was.entries k distinct new.entries (sym c.contains_key.ensures ∙ c.if-not-contains_key.true)
          (subst (λ l. IsEitherSoFar eq ours theirs l k (find eq k was.entries)) steps (inv.found k)) (given_found law x.0 theirs was new given k);
      same = still_map c.args.self.now was new _ inv.same (given_map eq eq x.0 (find eq x.0 theirs) was new given);
    }

pub loop-key-preserved : goal.loop-key-preserved
loop-key-preserved g c =
    let eq = g.K.PartialEq.eq in
    let ours = c.args.self.now.entries in
    let theirs = c.args.other.now.entries in
    let was = c.loop-key.both.entries in
    let inv = c.loop-key.invariant in
    let x : g.row.K.Denot × g.row.V.Denot = (c.in-Some.key.now, c.in-Some.field-0-1.now) in
    let rest = c.next.new.self in
    let steps = c.in-Some.ensures.steps in
    let distinct = subst (λ l. IsDistinct eq (keys_of l)) steps inv.distinct in
    record {
      distinct = IsDistinct-tail eq x.0 (keys_of rest) distinct;
      found = λ k. either_stored g.met.K.Eq.laws ours theirs x rest was k distinct (sym c.contains_key.ensures ∙ c.if-not-contains_key.false)
          (subst (λ l. IsEitherSoFar eq ours theirs l k (find eq k was)) steps (inv.found k));
      same = inv.same;
    }

pub returns-clause-found : goal.returns-clause-found
returns-clause-found g c = λ k.
    let eq = g.K.PartialEq.eq in
    subst (λ l. IsEitherSoFar eq c.args.self.now.entries c.args.other.now.entries l k (find eq k c.loop-key.both.entries)) c.in-None.ensures.steps.0
    (c.loop-key.invariant.found k)
