use Rattle.rpds_hash.proofs.Words.{◌≡◌, ap, subst, sym, ◌∙◌, find, keys_of}
use Rattle.std.proofs.Common.{rules}
use Rattle.std.specs.List.{IsDistinct}
use Rattle.std.proofs.lemmas.Map.Keys.{IsDistinct-tail}
use Rattle.rpds_hash.proofs.PairsKept.{still_map}
use Rattle.rpds_hash.proofs.UnitedWith.{IsUnitedSoFar, found_by, still_either, united_start, united_step}
use Rattle.rpds_hash.proofs.map.hash_trie_map.HashTrieMap.union_with.Goals as goal

pub loop-key-init : goal.loop-key-init
loop-key-init g c =
    let eq = g.K.PartialEq.eq in
    let start : c.into_iter-key-iterator.result ≡ c.smaller.result.now.entries = search rules in
    record {
      distinct = subst (λ l. IsDistinct eq (keys_of l)) (sym start) c.iter-key-items.ensures.hashed.distinct;
      callable = c.requires.callable;
      pairs = λ k. united_start g.met.K.Eq.laws g.F.Fn c.args.combine c.args.self.now.entries c.args.other.now.entries c.into_iter-key-iterator.result
          c.in_ok-map.map.entries (λ j none. c.smaller.ensures j (ap (find eq j) (sym start) ∙ none)) c.in_ok-map.ensures.found k;
      same = c.in_ok-map.ensures.same;
    }

pub put_combined-requires-clause-united : goal.put_combined-requires-clause-united
put_combined-requires-clause-united g c =
    let ours = c.args.self.now.entries in
    let theirs = c.args.other.now.entries in
    let was = c.loop-key.map.entries in
    let x : g.row.K.Denot × g.row.V.Denot = (c.in-Some.key.now, c.in-Some.field-0-1.now) in
    still_either g.met.K.Eq.laws g.F.Fn c.args.combine ours theirs x c.next.new.self was
    (subst (λ l. IsUnitedSoFar g.met.K.Eq.laws g.F.Fn c.args.combine ours theirs l x.0 (find g.K.PartialEq.eq x.0 was)) c.in-Some.ensures.steps
    (c.loop-key.invariant.pairs x.0))

pub loop-key-preserved : goal.loop-key-preserved
loop-key-preserved g c =
    let eq = g.K.PartialEq.eq in
    let law = g.met.K.Eq.laws in
    let ours = c.args.self.now.entries in
    let theirs = c.args.other.now.entries in
    let was = c.loop-key.map.entries in
    let inv = c.loop-key.invariant in
    let x : g.row.K.Denot × g.row.V.Denot = (c.in-Some.key.now, c.in-Some.field-0-1.now) in
    let steps = c.in-Some.ensures.steps in
    let distinct = subst (λ l. IsDistinct eq (keys_of l)) steps inv.distinct in
    record {
      distinct = IsDistinct-tail eq x.0 (keys_of c.next.new.self) distinct;
      callable = inv.callable;
      pairs = λ k. united_step law g.F.Fn c.args.combine ours theirs x c.next.new.self was c.put_combined.new.self.entries k distinct
          (subst (λ l. IsUnitedSoFar law g.F.Fn c.args.combine ours theirs l k (find eq k was)) steps (inv.pairs k)) (c.in_ok-put_combined.ensures.united k);
      same = still_map c.args.self.now c.loop-key.map c.put_combined.new.self _ inv.same c.in_ok-put_combined.ensures.same;
    }

pub returns-clause-found : goal.returns-clause-found
returns-clause-found g c = λ h calls k.
    let eq = g.K.PartialEq.eq in
    let ours = c.args.self.now.entries in
    let theirs = c.args.other.now.entries in
    found_by g.met.K.Eq.laws g.F.Fn c.args.combine ours theirs h calls (find eq k ours) (find eq k theirs) (find eq k c.loop-key.map.entries)
    (subst (λ l. IsUnitedSoFar g.met.K.Eq.laws g.F.Fn c.args.combine ours theirs l k (find eq k c.loop-key.map.entries)) c.in-None.ensures.steps.0
    (c.loop-key.invariant.pairs k))
