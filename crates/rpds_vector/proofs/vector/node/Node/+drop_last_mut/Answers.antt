use Rattle.rpds_vector.proofs.Words.{ℕ, ◌-◌, refl, arith, behind_take, trie_of, IsNode}
use Rattle.rpds_vector.proofs.OpenNodes.{open_leaf}
use Rattle.rpds_vector.proofs.Changes.{last_behind, last_height}
use Rattle.rpds_vector.proofs.DropLast.{last_level, last_place, last_shift, left_more, gone}
use Rattle.rpds_vector.proofs.InPlace.{IsChanged, refused, stays, carries_less, changed, leaf_popped, without_last}
use Rattle.rpds_vector.proofs.vector.node.Node.+drop_last_mut.Given.{Over}
use Rattle.rpds_vector.proofs.vector.node.Node.+drop_last_mut.Goals as goal
use Rattle.rpds_vector.proofs.vector.node.Node.+drop_last_mut.Goals.{Joined-self, in-Branch+else-left_below-eq0+in_ok-child-in-Branch, in-Leaf}

pub invariant_of-self : goal.invariant_of-self
invariant_of-self g t c =
    let l = last_behind c.self.view_is c.in-Branch.is c.self.invariant c.len-last.ensures c.index-last.ensures in
    rw (c.pop.ensures.rest, ← c.len-last.ensures, behind_take (c.len-last.result - 1) c.in-Branch.children.items) (gone l c.args.index c.args.height c.requires.level c.requires.last c.left_below.ensures c.if-left_below-eq0.true c.requires.more).sound

pub returns-then-left_below-eq0 : goal.returns-then-left_below-eq0
returns-then-left_below-eq0 g t c =
    let l = last_behind c.self.view_is c.in-Branch.is c.self.invariant c.len-last.ensures c.index-last.ensures in
    rw (c.pop.ensures.rest, ← c.len-last.ensures, behind_take (c.len-last.result - 1) c.in-Branch.children.items) (gone l c.args.index c.args.height c.requires.level c.requires.last c.left_below.ensures c.if-left_below-eq0.true c.requires.more).is

pub invariant_of-self-in_err-child-in-Branch : goal.invariant_of-self-in_err-child-in-Branch
invariant_of-self-in_err-child-in-Branch g t c =
    let l = last_behind c.self.view_is c.in-Branch.is c.self.invariant c.len-last.ensures c.index_mut.ensures.value in
    (stays c.in-Branch.children.items (c.len-last.result - 1) l.o l.read c.make_unique.follows.lender-at-none (rw c.in_err-child-in-Branch.was at c.make_unique.follows.holds-at-none)).sound

pub returns-in_err-child-in-Branch : goal.returns-in_err-child-in-Branch
returns-in_err-child-in-Branch g t c =
    let l = last_behind c.self.view_is c.in-Branch.is c.self.invariant c.len-last.ensures c.index_mut.ensures.value in
    refused _ _ c.from_residual.result c.from_residual.ensures.1 (stays c.in-Branch.children.items (c.len-last.result - 1) l.o l.read c.make_unique.follows.lender-at-none (rw c.in_err-child-in-Branch.was at c.make_unique.follows.holds-at-none)).is

pub drop_last_mut-requires : goal.drop_last_mut-requires
drop_last_mut-requires g t c κs within =
    let l = last_behind c.self.view_is c.in-Branch.is c.self.invariant c.len-last.ensures c.index_mut.ensures.value in
    let more = left_more l c.args.index c.args.height c.requires.level c.requires.last c.left_below.ensures (omega (arith, c.if-left_below-eq0.false)) in
    rw c.in_ok-child-in-Branch.ensures.value (omega (arith, last_height l, c.decreases), (within.0, (within.1, (last_level l c.args.index c.args.height c.requires.level c.requires.last, (last_shift l c.args.index c.args.height c.requires.level c.requires.last c.requires.shift, (last_place l c.args.index c.args.height c.requires.level c.requires.last, more))))))

-- what the change leaves, done or refused
ended : (g : Over) (t : ℕ) (c : Joined-self g t) → IsChanged (IsNode c.match-self.self-inside.bits c.match-self.self-inside.kind) (trie_of c.match-self.self-inside.bits c.match-self.self-inside.kind) c.match-self.result c.args.self.now (without_last c.args.self.now)
ended g t c =
    elim c.match-self.branch [
      | in-Branch+else-left_below-eq0+in_ok-child-in-Branch w ↦
          let l = last_behind c.self.view_is w.in-Branch.is c.self.invariant w.len-last.ensures w.index_mut.ensures.value in
          let holds = w.make_unique.follows.holds w.drop_last_mut.new.self (rw w.in_ok-child-in-Branch.was refl) in
          rw (w.result-is, w.self-inside-is) (changed (carries_less l (left_more l c.args.index c.args.height c.requires.level c.requires.last w.left_below.ensures (omega (arith, w.if-left_below-eq0.false)))) _ w.in_ok-child-in-Branch.ensures.value (w.make_unique.follows.lender w.drop_last_mut.new.self) w.drop_last_mut.new.self holds w.drop_last_mut.result w.drop_last_mut.ensures)
      | in-Leaf w ↦
          let new = leaf_popped w.in-Leaf.items (open_leaf c.self.view_is w.in-Leaf.is c.self.invariant) c.requires.more in
          rw (w.result-is, w.self-inside-is, w.pop-in-Leaf.ensures.rest) record { sound = new.sound; is = new.is }
    ]

pub invariant_of-self-2 : goal.invariant_of-self-2
invariant_of-self-2 g t c = (ended g t (goal.at.invariant_of-self-2 g t c).Joined-self).sound

pub returns : goal.returns
returns g t c = (ended g t (goal.at.returns g t c).Joined-self).is
