use Rattle.rpds_vector.proofs.Words.{ℕ, ◌-◌, length, refl, arith, common_steps, behind, behind_append, trie_of, IsNode}
use Rattle.rpds_vector.proofs.OpenNodes.{open_leaf}
use Rattle.rpds_vector.proofs.Changes.{last_behind, last_height, last_part, last_fits, leaf_longer}
use Rattle.rpds_vector.proofs.InPlace.{IsChanged, refused, stays, carries_part, changed, with_more}
use Rattle.rpds_vector.proofs.vector.node.Node.+push_row.Given.{Over}
use Rattle.rpds_vector.proofs.vector.node.Node.+push_row.Goals as goal
use Rattle.rpds_vector.proofs.vector.node.Node.+push_row.Goals.{Joined-self, in-Branch+in_ok-self-inside-in-Branch, in-Leaf+in_ok-append-in-Leaf}

pub invariant_of-self : goal.invariant_of-self
invariant_of-self g t c =
    let l = last_behind c.self.view_is c.in-Branch.is c.self.invariant c.len-last.ensures c.index_mut.ensures.value in
    (stays c.in-Branch.children.items (c.len-last.result - 1) l.o l.read c.make_unique.follows.lender-at-none (rw c.in_err-self-inside-in-Branch.was at c.make_unique.follows.holds-at-none)).sound

pub returns-in_err-self-inside-in-Branch : goal.returns-in_err-self-inside-in-Branch
returns-in_err-self-inside-in-Branch g t c =
    let l = last_behind c.self.view_is c.in-Branch.is c.self.invariant c.len-last.ensures c.index_mut.ensures.value in
    refused _ _ c.from_residual.result c.from_residual.ensures.1 (stays c.in-Branch.children.items (c.len-last.result - 1) l.o l.read c.make_unique.follows.lender-at-none (rw c.in_err-self-inside-in-Branch.was at c.make_unique.follows.holds-at-none)).is

pub push_row-requires : goal.push_row-requires
push_row-requires g t c κs within =
    let l = last_behind c.self.view_is c.in-Branch.is c.self.invariant c.len-last.ensures c.index_mut.ensures.value in
    rw c.in_ok-self-inside-in-Branch.ensures.value (omega (arith, last_height l, c.decreases), (within.0, (within.1, (rw (last_part l) at c.requires.part, last_fits l (length (behind c.args.row.items)) c.requires.room))))

-- what the change leaves, done or refused
ended : (g : Over) (t : ℕ) (c : Joined-self g t) → IsChanged (IsNode c.match-self.self-inside.bits c.match-self.self-inside.kind) (trie_of c.match-self.self-inside.bits c.match-self.self-inside.kind) c.match-self.result c.args.self.now (with_more (behind c.args.row.items) c.args.self.now)
ended g t c =
    elim c.match-self.branch [
      | in-Branch+in_ok-self-inside-in-Branch w ↦
          let l = last_behind c.self.view_is w.in-Branch.is c.self.invariant w.len-last.ensures w.index_mut.ensures.value in
          let holds = w.make_unique.follows.holds w.push_row.new.self (rw w.in_ok-self-inside-in-Branch.was refl) in
          rw (w.result-is, w.self-inside-is) (changed (carries_part l c.requires.part (behind c.args.row.items) c.requires.room) _ w.in_ok-self-inside-in-Branch.ensures.value (w.make_unique.follows.lender w.push_row.new.self) w.push_row.new.self holds w.push_row.result w.push_row.ensures)
      | in-Leaf+in_ok-append-in-Leaf w ↦
          let new = leaf_longer (open_leaf c.self.view_is w.in-Leaf.is c.self.invariant) (behind c.args.row.items) c.requires.part c.requires.room in
          rw (w.result-is, w.self-inside-is, w.in_ok-append-in-Leaf.ensures.items, behind_append w.in-Leaf.items.items c.args.row.items) record { sound = new.sound; is = new.is }
    ]

pub invariant_of-self-2 : goal.invariant_of-self-2
invariant_of-self-2 g t c = (ended g t (goal.at.invariant_of-self-2 g t c).Joined-self).sound

pub returns : goal.returns
returns g t c = (ended g t (goal.at.returns g t c).Joined-self).is

pub invariant_of-self-in_err-append-in-Leaf : goal.invariant_of-self-in_err-append-in-Leaf
invariant_of-self-in_err-append-in-Leaf g t c = grind (arith, common_steps)
