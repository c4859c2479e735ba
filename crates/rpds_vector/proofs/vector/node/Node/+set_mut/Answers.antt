use Rattle.rpds_vector.proofs.Words.{ℕ, refl, arith, with_item, trie_of, IsNode}
use Rattle.rpds_vector.proofs.OpenNodes.{open_branch}
use Rattle.rpds_vector.proofs.Places.{place_of, in_branch, in_leaf, child_inside, child_there, in_child}
use Rattle.rpds_vector.proofs.InPlace.{IsChanged, refused, stays, carries_item, changed}
use Rattle.rpds_vector.proofs.Descent.{item_inside, item_written}
use Rattle.rpds_vector.proofs.vector.node.Node.+set_mut.Given.{Over}
use Rattle.rpds_vector.proofs.vector.node.Node.+set_mut.Goals as goal
use Rattle.rpds_vector.proofs.vector.node.Node.+set_mut.Goals.{Joined-self, in-Branch+in_ok-self-inside-in-Branch, in-Leaf}

pub index_mut-requires : goal.index_mut-requires
index_mut-requires g t c =
    let a = in_branch c.args.index c.args.height c.self.view_is c.in-Branch.is c.self.invariant c.requires.level c.bucket-place.ensures in
    omega (arith, child_inside a c.requires.there, c.in-Branch.children.ok.0)

pub invariant_of-self : goal.invariant_of-self
invariant_of-self g t c =
    let o = open_branch c.self.view_is c.in-Branch.is c.self.invariant in
    (stays c.in-Branch.children.items c.bucket-place.result o c.index_mut.ensures.value c.make_unique.follows.lender-at-none (rw c.in_err-self-inside-in-Branch.was at c.make_unique.follows.holds-at-none)).sound

pub returns-in_err-self-inside-in-Branch : goal.returns-in_err-self-inside-in-Branch
returns-in_err-self-inside-in-Branch g t c =
    let o = open_branch c.self.view_is c.in-Branch.is c.self.invariant in
    refused _ _ c.from_residual.result c.from_residual.ensures.1 (stays c.in-Branch.children.items c.bucket-place.result o c.index_mut.ensures.value c.make_unique.follows.lender-at-none (rw c.in_err-self-inside-in-Branch.was at c.make_unique.follows.holds-at-none)).is

pub set_mut-requires : goal.set_mut-requires
set_mut-requires g t c κs within =
    let a = in_branch c.args.index c.args.height c.self.view_is c.in-Branch.is c.self.invariant c.requires.level c.bucket-place.ensures in
    let k = child_there a c.requires.there c.index_mut.ensures.value in
    rw c.in_ok-self-inside-in-Branch.ensures.value (omega (arith, k.falls, c.decreases), (within.0, (within.1, in_child a c.requires.there c.index_mut.ensures.value c.requires.shift)))

pub index_mut-requires-in-Leaf : goal.index_mut-requires-in-Leaf
index_mut-requires-in-Leaf g t c =
    let a = in_leaf c.args.index c.args.height c.self.view_is c.in-Leaf.is c.self.invariant c.requires.level c.requires.there c.bucket-place-in-Leaf.ensures in
    omega (arith, item_inside a, c.in-Leaf.items.ok.0)

-- what the change leaves, done or refused
ended : (g : Over) (t : ℕ) (c : Joined-self g t) → IsChanged (IsNode c.match-self.self-inside.bits c.match-self.self-inside.kind) (trie_of c.match-self.self-inside.bits c.match-self.self-inside.kind) c.match-self.result c.args.self.now (with_item c.args.self.now (place_of c.args.index c.args.height) c.args.item.value)
ended g t c =
    elim c.match-self.branch [
      | in-Branch+in_ok-self-inside-in-Branch w ↦
          let a = in_branch c.args.index c.args.height c.self.view_is w.in-Branch.is c.self.invariant c.requires.level w.bucket-place.ensures in
          let holds = w.make_unique.follows.holds w.set_mut.new.self (rw w.in_ok-self-inside-in-Branch.was refl) in
          rw (w.result-is, w.self-inside-is) (changed (carries_item a c.requires.there w.index_mut.ensures.value c.args.item.value) _ w.in_ok-self-inside-in-Branch.ensures.value (w.make_unique.follows.lender w.set_mut.new.self) w.set_mut.new.self holds w.set_mut.result w.set_mut.ensures)
      | in-Leaf w ↦
          let a = in_leaf c.args.index c.args.height c.self.view_is w.in-Leaf.is c.self.invariant c.requires.level c.requires.there w.bucket-place-in-Leaf.ensures in
          let new = item_written a c.args.item.value c.args.item refl in
          rw (w.result-is, w.self-inside-is) record { sound = new.sound; is = new.is }
    ]

pub invariant_of-self-2 : goal.invariant_of-self-2
invariant_of-self-2 g t c = (ended g t (goal.at.invariant_of-self-2 g t c).Joined-self).sound

pub returns : goal.returns
returns g t c = (ended g t (goal.at.returns g t c).Joined-self).is
