use Rattle.std.proofs.Common.{refl, subst, of_calls}
use Rattle.std.specs.Fn.{CalledAt}
use Rattle.std.proofs.lemmas.Fn.{called_at}
use Rattle.rpds_hash.proofs.Kept.{Keeping, keeping_true, keeping_false, keeping_all}
use Rattle.rpds_hash.proofs.MembersKept.{hashed_member, still_set}
use Rattle.rpds_core.proofs.Tested.{member_tested}
use Rattle.rpds_hash.proofs.set.hash_trie_set.HashTrieSet.retain.Goals as goal

pub loop-member-preserved-in_ok-remove_mut : goal.loop-member-preserved-in_ok-remove_mut
loop-member-preserved-in_ok-remove_mut g c =
    let inv = c.loop-member.invariant in
    let x = c.in-Some.member.now in
    let less = hashed_member g.met.T.Eq.laws c.loop-member.left c.remove_mut.new.self c.next.new.self x c.size-size.ensures.hashed.distinct
    c.in_ok-remove_mut.ensures.ok in (
      search of_calls,
      still_set c.args.self.now c.loop-member.left c.remove_mut.new.self _ inv.1 c.in_ok-remove_mut.ensures.ok,
      keeping_false (CalledAt g.F.FnMut) c.args.keep c.args.self.now.members c.loop-member.keep c.keep-stays.new.self x c.loop-member.left.members
          c.remove_mut.new.self.members c.loop-member.member-iterator c.next.new.self (called_at g.F.FnMut c.keep-stays.ensures c.if-not-stays.true)
          c.in-Some.ensures.steps less inv.2,
    )

pub loop-member-preserved : goal.loop-member-preserved
loop-member-preserved g c =
    let inv = c.loop-member.invariant in
    let x = c.in-Some.member.now in (
      search of_calls,
      inv.1,
      keeping_true (CalledAt g.F.FnMut) c.args.keep c.args.self.now.members c.loop-member.keep c.keep-stays.new.self x c.loop-member.left.members
          c.loop-member.member-iterator c.next.new.self (called_at g.F.FnMut c.keep-stays.ensures c.if-not-stays.false) c.in-Some.ensures.steps inv.2,
    )

pub returns-clause-ok : goal.returns-clause-ok
returns-clause-ok g c =
    let R = CalledAt g.F.FnMut in
    keeping_all R c.args.keep c.args.self.now.members c.loop-member.keep c.loop-member.left.members (subst (λ l. Keeping R c.args.keep
    c.args.self.now.members c.loop-member.keep c.loop-member.left.members l) c.in-None.ensures.steps.0 c.loop-member.invariant.2)

pub returns-clause-found : goal.returns-clause-found
returns-clause-found g c = λ test acts x.
    let eq = g.T.PartialEq.eq in
    member_tested g.F.FnMut c.args.keep g.met.T.Eq.laws c.args.self.now.members c.loop-member.left.members c.iter-member-items.ensures.hashed.distinct
    (returns-clause-ok g c) test acts x (λ m. eq m x) (λ m. refl)
