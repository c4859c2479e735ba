use Rattle.rpds_hash_trie.proofs.Words.{◌≡◌, None, arith, subst, found, matches, stored, Entry, IsLeft}
use Rattle.rpds_hash_trie.specs.declared.remove.Removal.TheVariants.{Left}
use Rattle.rpds_hash_trie.proofs.Sifted.{without_none, without_some}
use Rattle.rpds_hash_trie.proofs.UnitedChildren.{agree_with}
use Rattle.rpds_hash_trie.proofs.node.Node.left_without.Goals as goal

pub remove-requires-clause-hash_left : goal.remove-requires-clause-hash_left
remove-requires-clause-hash_left g c = c.hash_left-left.ensures

pub remove-requires-clause-alike : goal.remove-requires-clause-alike
remove-requires-clause-alike g c =
    let v = c.args.self.now in
    agree_with v.bits v.depth c.requires.with_root c.args.entry.now.key_hash v.entries c.requires.alike c.requires.alike_others.0

pub remove-requires-clause-once : goal.remove-requires-clause-once
remove-requires-clause-once g c = c.requires.once c.deref.result.now.key c.args.entry.now.key_hash

pub overflow_add-common : goal.overflow_add-common
overflow_add-common g c = let room = c.requires.room in omega (arith, room)

pub overflow_add-common-in-Left : goal.overflow_add-common-in-Left
overflow_add-common-in-Left g c = let room = c.requires.room in omega (arith, room)

pub returns-in-Absent : goal.returns-in-Absent
returns-in-Absent g c =
    let v = c.args.self.now in
    without_none g.met.K.Eq.laws (stored c.args.entry.now) v c.args.common.now c.requires.once
    (subst (λ (x : Entry g.row.K.Denot g.row.V.Denot). found (matches g.K.PartialEq.eq x.key c.args.entry.now.key_hash) v.entries ≡ None) c.deref.ensures
    (rw c.in-Absent.is at c.in_ok-remove.ensures.ok))

pub returns-in-Left : goal.returns-in-Left
returns-in-Left g c =
    let v = c.args.self.now in
    let is = subst (λ (x : Entry g.row.K.Denot g.row.V.Denot). IsLeft (matches g.K.PartialEq.eq x.key c.args.entry.now.key_hash) v c.in-Left.fewer.value) c.deref.ensures
    (rw c.in-Left.is at c.in_ok-remove.ensures.ok) in
    without_some g.met.K.Eq.laws (stored c.args.entry.now) v c.args.common.now c.requires.once (Left c.in-Left.fewer) is is.there
