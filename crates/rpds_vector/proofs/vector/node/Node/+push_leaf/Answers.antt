use Rattle.rpds_vector.proofs.Words.{ℕ, [], ◌∷◌, refl, arith, common_steps, behind_append, trie_of, IsNode}
use Rattle.rpds_vector.proofs.OpenNodes.{open_leaf}
use Rattle.rpds_vector.proofs.Places.{in_branch}
use Rattle.rpds_vector.proofs.Changes.{last_at_end, last_child, end_below, branch_more}
use Rattle.rpds_vector.proofs.InPlace.{IsChanged, refused, stays, carries_leaf, changed, no_leaf, with_more}
use Rattle.rpds_vector.proofs.vector.node.Node.+push_leaf.Given.{Over}
use Rattle.rpds_vector.proofs.vector.node.Node.+push_leaf.Goals as goal
use Rattle.rpds_vector.proofs.vector.node.Node.+push_leaf.Goals.{Joined-self, in-Branch+else-place-len+in_ok-path-in-Branch+in_ok-push-in-Branch, in-Leaf}

pub invariant_of-self : goal.invariant_of-self
invariant_of-self g t c =
    let a = in_branch c.args.index c.args.height c.self.view_is c.in-Branch.is c.self.invariant c.requires.level c.bucket-place.ensures in
    (stays c.in-Branch.children.items c.bucket-place.result a.o c.index_mut.ensures.value c.make_unique.follows.lender-at-none (rw c.in_err-child-in-Branch.was at c.make_unique.follows.holds-at-none)).sound

pub returns-in_err-child-in-Branch : goal.returns-in_err-child-in-Branch
returns-in_err-child-in-Branch g t c =
    let a = in_branch c.args.index c.args.height c.self.view_is c.in-Branch.is c.self.invariant c.requires.level c.bucket-place.ensures in
    refused _ _ c.from_residual.result c.from_residual.ensures.1 (stays c.in-Branch.children.items c.bucket-place.result a.o c.index_mut.ensures.value c.make_unique.follows.lender-at-none (rw c.in_err-child-in-Branch.was at c.make_unique.follows.holds-at-none)).is

pub push_leaf-requires : goal.push_leaf-requires
push_leaf-requires g t c κs within =
    let a = in_branch c.args.index c.args.height c.self.view_is c.in-Branch.is c.self.invariant c.requires.level c.bucket-place.ensures in
    let l = last_at_end a c.requires.end (omega (arith, c.if-place-len.true, c.len.ensures, c.in-Branch.children.ok.0)) c.index_mut.ensures.value in
    let k = last_child l a in
    rw c.in_ok-child-in-Branch.ensures.value (omega (arith, k.falls, c.decreases), (within.0, (within.1, (k.level, (k.shift 64 c.requires.shift, (end_below l a c.requires.end, (rw k.bits c.requires.whole, (rw k.bits c.requires.same_bits, c.requires.is_leaf))))))))

pub invariant_of-self-then-place-len : goal.invariant_of-self-then-place-len
invariant_of-self-then-place-len g t c =
    let a = in_branch c.args.index c.args.height c.self.view_is c.in-Branch.is c.self.invariant c.requires.level c.bucket-place.ensures in
    let l = last_at_end a c.requires.end (omega (arith, c.if-place-len.true, c.len.ensures, c.in-Branch.children.ok.0)) c.index_mut.ensures.value in
    let leaf = carries_leaf l a c.requires.end c.requires.whole (rw c.deref.ensures at c.prove_sound.ensures) c.requires.same_bits c.requires.is_leaf in
    (changed leaf _ c.in_ok-child-in-Branch.ensures.value (c.make_unique.follows.lender c.push_leaf.new.self) c.push_leaf.new.self (c.make_unique.follows.holds c.push_leaf.new.self (rw c.in_ok-child-in-Branch.was refl)) c.push_leaf.result c.push_leaf.ensures).sound

pub returns-then-place-len : goal.returns-then-place-len
returns-then-place-len g t c =
    let a = in_branch c.args.index c.args.height c.self.view_is c.in-Branch.is c.self.invariant c.requires.level c.bucket-place.ensures in
    let l = last_at_end a c.requires.end (omega (arith, c.if-place-len.true, c.len.ensures, c.in-Branch.children.ok.0)) c.index_mut.ensures.value in
    let leaf = carries_leaf l a c.requires.end c.requires.whole (rw c.deref.ensures at c.prove_sound.ensures) c.requires.same_bits c.requires.is_leaf in
    (changed leaf _ c.in_ok-child-in-Branch.ensures.value (c.make_unique.follows.lender c.push_leaf.new.self) c.push_leaf.new.self (c.make_unique.follows.holds c.push_leaf.new.self (rw c.in_ok-child-in-Branch.was refl)) c.push_leaf.result c.push_leaf.ensures).is

-- what the change leaves, done or refused
ended : (g : Over) (t : ℕ) (c : Joined-self g t) → IsChanged (IsNode c.match-self.self-inside.bits c.match-self.self-inside.kind) (trie_of c.match-self.self-inside.bits c.match-self.self-inside.kind) c.match-self.result c.args.self.now (with_more c.args.leaf.value.items c.args.self.now)
ended g t c =
    elim c.match-self.branch [
      | in-Branch+else-place-len+in_ok-path-in-Branch+in_ok-push-in-Branch w ↦
          let a = in_branch c.args.index c.args.height c.self.view_is w.in-Branch.is c.self.invariant c.requires.level w.bucket-place.ensures in
          let sound = rw w.deref-in-Branch.ensures at w.prove_sound-in-Branch.ensures in
          let new = branch_more a c.requires.end (omega (arith, w.if-place-len.false, w.len.ensures, w.in-Branch.children.ok.0)) sound c.requires.same_bits w.in_ok-path-in-Branch.ensures.ok in
          rw (w.result-is, w.self-inside-is, w.in_ok-push-in-Branch.ensures.items, behind_append w.in-Branch.children.items (w.in_ok-path-in-Branch.path ∷ [])) record { sound = new.sound; is = new.is }
      | in-Leaf w ↦ absurd (no_leaf c.args.index c.args.height (open_leaf c.self.view_is w.in-Leaf.is c.self.invariant) c.requires.level c.requires.end c.requires.whole)
    ]

pub invariant_of-self-2 : goal.invariant_of-self-2
invariant_of-self-2 g t c = (ended g t (goal.at.invariant_of-self-2 g t c).Joined-self).sound

pub returns : goal.returns
returns g t c = (ended g t (goal.at.returns g t c).Joined-self).is

pub invariant_of-self-in_err-path-in-Branch : goal.invariant_of-self-in_err-path-in-Branch
invariant_of-self-in_err-path-in-Branch g t c = grind (arith, common_steps)

pub invariant_of-self-in_err-push-in-Branch : goal.invariant_of-self-in_err-push-in-Branch
invariant_of-self-in_err-push-in-Branch g t c = grind (arith, common_steps)
