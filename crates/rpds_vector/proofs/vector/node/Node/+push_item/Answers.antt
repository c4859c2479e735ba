use Rattle.rpds_vector.proofs.Words.{ℕ, ◌-◌, [], ◌∷◌, length, refl, arith, common_steps, behind_append, trie_of, IsNode}
use Rattle.rpds_vector.proofs.OpenNodes.{open_leaf}
use Rattle.rpds_vector.proofs.Changes.{last_behind, last_height, last_part, leaf_longer}
use Rattle.rpds_vector.proofs.InPlace.{IsChanged, refused, stays, carries_part, changed, with_more}
use Rattle.rpds_vector.proofs.Spans.{one_fits}
use Rattle.rpds_vector.proofs.vector.node.Node.+push_item.Given.{Over}
use Rattle.rpds_vector.proofs.vector.node.Node.+push_item.Goals as goal
use Rattle.rpds_vector.proofs.vector.node.Node.+push_item.Goals.{Joined-self, in-Branch+in_ok-self-inside-in-Branch, in-Leaf+in_ok-push-in-Leaf}

pub invariant_of-self : goal.invariant_of-self
invariant_of-self g t c =
    let l = last_behind c.self.view_is c.in-Branch.is c.self.invariant c.len-last.ensures c.index_mut.ensures.value in
    (stays c.in-Branch.children.items (c.len-last.result - 1) l.o l.read c.make_unique.follows.lender-at-none (rw c.in_err-self-inside-in-Branch.was at c.make_unique.follows.holds-at-none)).sound

pub returns-in_err-self-inside-in-Branch : goal.returns-in_err-self-inside-in-Branch
returns-in_err-self-inside-in-Branch g t c =
    let l = last_behind c.self.view_is c.in-Branch.is c.self.invariant c.len-last.ensures c.index_mut.ensures.value in
    refused _ _ c.from_residual.result c.from_residual.ensures.1 (stays c.in-Branch.children.items (c.len-last.result - 1) l.o l.read c.make_unique.follows.lender-at-none (rw c.in_err-self-inside-in-Branch.was at c.make_unique.follows.holds-at-none)).is

pub push_item-requires : goal.push_item-requires
push_item-requires g t c κs within =
    let l = last_behind c.self.view_is c.in-Branch.is c.self.invariant c.len-last.ensures c.index_mut.ensures.value in
    rw c.in_ok-self-inside-in-Branch.ensures.value (omega (arith, last_height l, c.decreases), (within.0, (within.1, rw (last_part l) at c.requires.room)))

-- what the change leaves, done or refused
ended : (g : Over) (t : ℕ) (c : Joined-self g t) → IsChanged (IsNode c.match-self.self-inside.bits c.match-self.self-inside.kind) (trie_of c.match-self.self-inside.bits c.match-self.self-inside.kind) c.match-self.result c.args.self.now (with_more (c.args.item.value ∷ []) c.args.self.now)
ended g t c =
    elim c.match-self.branch [
      | in-Branch+in_ok-self-inside-in-Branch w ↦
          let l = last_behind c.self.view_is w.in-Branch.is c.self.invariant w.len-last.ensures w.index_mut.ensures.value in
          let holds = w.make_unique.follows.holds w.push_item.new.self (rw w.in_ok-self-inside-in-Branch.was refl) in
          rw (w.result-is, w.self-inside-is) (changed (carries_part l c.requires.room (c.args.item.value ∷ []) (one_fits c.args.self.now.bits (length c.args.self.now.items))) _ w.in_ok-self-inside-in-Branch.ensures.value (w.make_unique.follows.lender w.push_item.new.self) w.push_item.new.self holds w.push_item.result w.push_item.ensures)
      | in-Leaf+in_ok-push-in-Leaf w ↦
          let new = leaf_longer (open_leaf c.self.view_is w.in-Leaf.is c.self.invariant) (c.args.item.value ∷ []) c.requires.room (one_fits c.args.self.now.bits (length c.args.self.now.items)) in
          rw (w.result-is, w.self-inside-is, w.in_ok-push-in-Leaf.ensures.items, behind_append w.in-Leaf.items.items (c.args.item ∷ [])) record { sound = new.sound; is = new.is }
    ]

pub invariant_of-self-2 : goal.invariant_of-self-2
invariant_of-self-2 g t c = (ended g t (goal.at.invariant_of-self-2 g t c).Joined-self).sound

pub returns : goal.returns
returns g t c = (ended g t (goal.at.returns g t c).Joined-self).is

pub invariant_of-self-in_err-push-in-Leaf : goal.invariant_of-self-in_err-push-in-Leaf
invariant_of-self-in_err-push-in-Leaf g t c = grind (arith, common_steps)
