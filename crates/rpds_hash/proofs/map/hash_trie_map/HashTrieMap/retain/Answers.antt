use Rattle.std.proofs.Common.{refl, subst, of_calls}
use Rattle.rpds_core.specs.Calls.{CalledAtEntry}
use Rattle.rpds_core.proofs.Calls.{called_entry}
use Rattle.rpds_core.proofs.EntriesTested.{entry_tested}
use Rattle.rpds_hash.proofs.PairsKept.{hashed_pair, still_map}
use Rattle.rpds_hash.proofs.Kept.{Keeping, keeping_true, keeping_false, keeping_all}
use Rattle.rpds_hash.proofs.map.hash_trie_map.HashTrieMap.retain.Goals as goal

pub loop-key-preserved-in_ok-remove_mut : goal.loop-key-preserved-in_ok-remove_mut
loop-key-preserved-in_ok-remove_mut g c =
    let inv = c.loop-key.invariant in
    let x : g.row.K.Denot × g.row.V.Denot = (c.in-Some.key.now, c.in-Some.value.now) in
    let less = hashed_pair g.met.K.Eq.laws c.loop-key.left c.remove_mut.new.self c.next.new.self x c.size-size.ensures.hashed.distinct
    c.in_ok-remove_mut.ensures.ok in (
      search of_calls,
      still_map c.args.self.now c.loop-key.left c.remove_mut.new.self _ inv.1 c.in_ok-remove_mut.ensures.ok,
      keeping_false (CalledAtEntry g.F.FnMut) c.args.keep c.args.self.now.entries c.loop-key.keep c.keep-stays.new.self x c.loop-key.left.entries
          c.remove_mut.new.self.entries c.loop-key.key-iterator c.next.new.self (called_entry g.F.FnMut c.keep-stays.ensures c.if-not-stays.true)
          c.in-Some.ensures.steps less inv.2,
    )

pub loop-key-preserved : goal.loop-key-preserved
loop-key-preserved g c =
    let inv = c.loop-key.invariant in
    let x : g.row.K.Denot × g.row.V.Denot = (c.in-Some.key.now, c.in-Some.value.now) in (
      search of_calls,
      inv.1,
      keeping_true (CalledAtEntry g.F.FnMut) c.args.keep c.args.self.now.entries c.loop-key.keep c.keep-stays.new.self x c.loop-key.left.entries
          c.loop-key.key-iterator c.next.new.self (called_entry g.F.FnMut c.keep-stays.ensures c.if-not-stays.false) c.in-Some.ensures.steps inv.2,
    )

pub returns-clause-ok : goal.returns-clause-ok
returns-clause-ok g c =
    let R = CalledAtEntry g.F.FnMut in
    keeping_all R c.args.keep c.args.self.now.entries c.loop-key.keep c.loop-key.left.entries (subst (λ l. Keeping R c.args.keep c.args.self.now.entries
    c.loop-key.keep c.loop-key.left.entries l) c.in-None.ensures.steps.0 c.loop-key.invariant.2)

pub returns-clause-found : goal.returns-clause-found
returns-clause-found g c = λ test acts k.
    entry_tested g.F.FnMut c.args.keep test acts g.met.K.Eq.laws c.args.self.now.entries c.loop-key.left.entries c.iter-key-items.ensures.hashed.distinct
    (returns-clause-ok g c) k (λ p. g.K.PartialEq.eq p.0 k) (λ p. refl)
