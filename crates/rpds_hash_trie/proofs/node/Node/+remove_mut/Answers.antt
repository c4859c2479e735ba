use Rattle.rpds_hash_trie.proofs.Words.{ℕ, ◌≤◌, Trie, sym, ap, subst, ◌∙◌, ◌≡◌, [], ◌∷◌, refl, arith, length, matches, stored, either_same}
use Rattle.rpds_hash_trie.proofs.OpenNodes.{open_branch, open_collision}
use Rattle.rpds_hash_trie.proofs.Child.{HasChild, look_none, look_child, child_is, child_hash_left, child_levels}
use Rattle.rpds_hash_trie.proofs.NodeValueMut.{child_stays, child_kept}
use Rattle.rpds_hash_trie.proofs.Collisions.{colliding_sound, colliding_removed, colliding_err}
use Rattle.rpds_hash_trie.proofs.NodeInsertMut.{on_err}
use Rattle.rpds_hash_trie.proofs.NodeRemoveMut.{HasRemoved, none_removed, item_put, done_below, leaf_below, not_found_below, one_left_below, leaf_not_found, leaf_loose, leaf_gone}
use Rattle.rpds_hash_trie.proofs.node.Node.+remove_mut.Given.{Over}
use Rattle.rpds_hash_trie.proofs.node.Node.+remove_mut.Goals as goal
use Rattle.rpds_hash_trie.proofs.node.Node.+remove_mut.Goals.{In-Some, In-Some-only_entry, In_err-child-in-Branch, In_ok-child-in-Branch, Joined-self, in-Branch+in-Some+in_default-only_entry+in_ok-child-in-Branch+in_ok-remove_mut-in-Branch+in-NotFound, in-Branch+in-Some+in_default-only_entry+in_ok-child-in-Branch+in_ok-remove_mut-in-Branch+in-OneLeft+else-alone, in-Branch+in-Some+in_default-only_entry+in_ok-child-in-Branch+in_ok-remove_mut-in-Branch+in-Done, in-Collision}

below : (g : Over) (t : ℕ) (c : In-Some g t) → HasChild g.Q.HashKey.same (g.Q.HashKey.seen c.args.key) c.args.hash c.self.inside.bits c.self.inside.depth c.place_of-place.result c.args.self.now c.in-Branch.children c.in-Some.child.now
below g t c = look_child g.Q.HashKey.same (g.Q.HashKey.seen c.args.key) c.args.hash (open_branch c.in-Branch.children c.self.view_is c.in-Branch.is c.self.invariant) c.requires.hash_left c.place_of-place.ensures.value (sym c.in-Some.ensures.found)

-- a child that is a leaf
leaf : (g : Over) (t : ℕ) (c : In-Some-only_entry g t) → c.in-Some.child.now.value.entries ≡ stored c.in-Some-only_entry.only.now ∷ []
leaf g t c = sym (ap (λ (x : Trie g.row.K.Denot g.row.V.Denot). x.entries) c.deref-held.ensures) ∙ c.in-Some-only_entry.ensures

-- where the child can't be made the node's own, it stays
stays : (g : Over) (t : ℕ) (c : In_err-child-in-Branch g t) → c.own.follows.lender-at-none.value ≡ c.in-Some.child.now.value
stays g t c = either_same (λ x. x) (rw c.in_err-child-in-Branch.was at c.own.follows.holds-at-none)

-- else it is the same, and ends as the change leaves it
own_child : (g : Over) (t : ℕ) (c : In_ok-child-in-Branch g t) → c.in_ok-child-in-Branch.child.now ≡ c.in-Some.child.now.value
own_child g t c = either_same (λ x. x) c.in_ok-child-in-Branch.ensures.value

own_ends : (g : Over) (t : ℕ) (c : In_ok-child-in-Branch g t) (x : Trie g.row.K.Denot g.row.V.Denot) → (c.own.follows.lender x).value ≡ x
own_ends g t c x = c.own.follows.holds x (rw c.in_ok-child-in-Branch.was refl)

pub returns-in_default-clause-ok : goal.returns-in_default-clause-ok
returns-in_default-clause-ok g t c =
    let o = open_branch c.in-Branch.children c.self.view_is c.in-Branch.is c.self.invariant in
    none_removed (look_none g.Q.HashKey.same (g.Q.HashKey.seen c.args.key) c.args.hash o c.requires.hash_left c.place_of-place.ensures.value (sym c.in_default.ensures.found)) (sym o.is)

pub invariant_of-self-in_err-child-in-Branch : goal.invariant_of-self-in_err-child-in-Branch
invariant_of-self-in_err-child-in-Branch g t c =
    let at = goal.at.invariant_of-self-in_err-child-in-Branch g t c in
    (child_stays (below g t at.In-Some) c.own.follows.lender-at-none (stays g t at.In_err-child-in-Branch)).sound

pub returns-in_err-child-in-Branch-clause-err : goal.returns-in_err-child-in-Branch-clause-err
returns-in_err-child-in-Branch-clause-err g t c =
    let at = goal.at.returns-in_err-child-in-Branch-clause-err g t c in
    on_err c.from_residual.result (child_stays (below g t at.In-Some) c.own.follows.lender-at-none (stays g t at.In_err-child-in-Branch)).is

pub remove_mut-requires : goal.remove_mut-requires
remove_mut-requires g t c κs within =
    let at = goal.at.remove_mut-requires g t c in
    let same = own_child g t at.In_ok-child-in-Branch in
    let a = below g t at.In-Some in
    let several = subst (λ (x : Trie g.row.K.Denot g.row.V.Denot). 2 ≤ length x.entries) (c.deref-held.ensures ∙ sym same) c.in_default-only_entry.ensures in
    (omega (arith, c.decreases, child_levels a same), (within.0, (within.1.0, (within.1.1.0, (within.1.1.1, (child_hash_left a same c.requires.hash_left, (several, (child_is a same).once c.requires.once)))))))

pub invariant_of-self-in_err-remove_mut-in-Branch : goal.invariant_of-self-in_err-remove_mut-in-Branch
invariant_of-self-in_err-remove_mut-in-Branch g t c =
    let at = goal.at.invariant_of-self-in_err-remove_mut-in-Branch g t c in
    let same = own_child g t at.In_ok-child-in-Branch in
    let holds = own_ends g t at.In_ok-child-in-Branch c.remove_mut.new.self in
    (child_kept (below g t at.In-Some) same (c.own.follows.lender c.remove_mut.new.self) holds c.in_err-remove_mut-in-Branch.ensures.err).sound

pub returns-in_err-remove_mut-in-Branch-clause-err : goal.returns-in_err-remove_mut-in-Branch-clause-err
returns-in_err-remove_mut-in-Branch-clause-err g t c =
    let at = goal.at.returns-in_err-remove_mut-in-Branch-clause-err g t c in
    let same = own_child g t at.In_ok-child-in-Branch in
    let holds = own_ends g t at.In_ok-child-in-Branch c.remove_mut.new.self in
    let kept = child_kept (below g t at.In-Some) same (c.own.follows.lender c.remove_mut.new.self) holds c.in_err-remove_mut-in-Branch.ensures.err in
    on_err c.from_residual-in_err-remove_mut-in-Branch.result kept.is

pub remove_child-requires-clause-there : goal.remove_child-requires-clause-there
remove_child-requires-clause-there g t c = item_put c.place_of-place.result c.in-Some.child.now c.in-Branch.children

pub remove_child-requires-clause-loose : goal.remove_child-requires-clause-loose
remove_child-requires-clause-loose g t c =
    let at = goal.at.remove_child-requires-clause-loose g t c in
    leaf_loose (below g t at.In-Some) c.requires.once c.in-Some-only_entry.only.now (leaf g t at.In-Some-only_entry) (sym c.matches.ensures ∙ c.if-matches.true)

pub invariant_of-self-then-matches : goal.invariant_of-self-then-matches
invariant_of-self-then-matches g t c =
    let at = goal.at.invariant_of-self-then-matches g t c in
    (leaf_gone (below g t at.In-Some) c.requires.once c.in-Some-only_entry.only.now (leaf g t at.In-Some-only_entry) (sym c.matches.ensures ∙ c.if-matches.true) c.remove_child.new.children c.remove_child.result c.remove_child.ensures.ok c.remove_child.ensures.err).sound

pub returns-then-matches-clause-ok : goal.returns-then-matches-clause-ok
returns-then-matches-clause-ok g t c =
    let at = goal.at.returns-then-matches-clause-ok g t c in
    (leaf_gone (below g t at.In-Some) c.requires.once c.in-Some-only_entry.only.now (leaf g t at.In-Some-only_entry) (sym c.matches.ensures ∙ c.if-matches.true) c.remove_child.new.children c.remove_child.result c.remove_child.ensures.ok c.remove_child.ensures.err).ok

pub returns-then-matches-clause-err : goal.returns-then-matches-clause-err
returns-then-matches-clause-err g t c =
    let at = goal.at.returns-then-matches-clause-err g t c in
    (leaf_gone (below g t at.In-Some) c.requires.once c.in-Some-only_entry.only.now (leaf g t at.In-Some-only_entry) (sym c.matches.ensures ∙ c.if-matches.true) c.remove_child.new.children c.remove_child.result c.remove_child.ensures.ok c.remove_child.ensures.err).err

pub invariant_of-self-in-Some-only_entry : goal.invariant_of-self-in-Some-only_entry
invariant_of-self-in-Some-only_entry g t c =
    let at = goal.at.invariant_of-self-in-Some-only_entry g t c in
    (leaf_not_found (below g t at.In-Some) c.requires.once c.in-Some-only_entry.only.now (leaf g t at.In-Some-only_entry) (sym c.matches.ensures ∙ c.if-matches.false)).sound

pub returns-in-Some-only_entry-clause-ok : goal.returns-in-Some-only_entry-clause-ok
returns-in-Some-only_entry-clause-ok g t c =
    let at = goal.at.returns-in-Some-only_entry-clause-ok g t c in
    (leaf_not_found (below g t at.In-Some) c.requires.once c.in-Some-only_entry.only.now (leaf g t at.In-Some-only_entry) (sym c.matches.ensures ∙ c.if-matches.false)).ok

pub invariant_of-self-then-alone : goal.invariant_of-self-then-alone
invariant_of-self-then-alone g t c =
    let at = goal.at.invariant_of-self-then-alone g t c in
    let same = own_child g t at.In_ok-child-in-Branch in
    let holds = own_ends g t at.In_ok-child-in-Branch c.remove_mut.new.self in
    (one_left_below (below g t at.In-Some) c.requires.once same (c.own.follows.lender c.remove_mut.new.self) holds (rw c.in-OneLeft.is at c.in_ok-remove_mut-in-Branch.ensures.ok) (sym c.size-alone.ensures ∙ c.if-alone.true)).sound

pub returns-then-alone-clause-ok : goal.returns-then-alone-clause-ok
returns-then-alone-clause-ok g t c =
    let at = goal.at.returns-then-alone-clause-ok g t c in
    let same = own_child g t at.In_ok-child-in-Branch in
    let holds = own_ends g t at.In_ok-child-in-Branch c.remove_mut.new.self in
    (one_left_below (below g t at.In-Some) c.requires.once same (c.own.follows.lender c.remove_mut.new.self) holds (rw c.in-OneLeft.is at c.in_ok-remove_mut-in-Branch.ensures.ok) (sym c.size-alone.ensures ∙ c.if-alone.true)).ok

-- where no return came earlier
ended : (g : Over) (t : ℕ) (c : Joined-self g t) → HasRemoved (matches g.Q.HashKey.same (g.Q.HashKey.seen c.args.key) c.args.hash) c.args.self.now c.match-self.self-inside.bits c.match-self.self-inside.depth c.match-self.self-inside.kind c.match-self.result
ended g t c =
    let eq = g.Q.HashKey.same in
    let k = g.Q.HashKey.seen c.args.key in
    let h = c.args.hash in
    elim c.match-self.branch [
      | in-Branch+in-Some+in_default-only_entry+in_ok-child-in-Branch+in_ok-remove_mut-in-Branch+in-NotFound w ↦
          let a = look_child eq k h (open_branch w.in-Branch.children c.self.view_is w.in-Branch.is c.self.invariant) c.requires.hash_left w.place_of-place.ensures.value (sym w.in-Some.ensures.found) in
          let same = either_same (λ x. x) w.in_ok-child-in-Branch.ensures.value in
          let holds = w.own.follows.holds w.remove_mut.new.self (rw w.in_ok-child-in-Branch.was refl) in
          rw (w.result-is, w.self-inside-is) (not_found_below a c.requires.once same _ holds (rw w.in-NotFound.is at w.in_ok-remove_mut-in-Branch.ensures.ok))
      | in-Branch+in-Some+in_default-only_entry+in_ok-child-in-Branch+in_ok-remove_mut-in-Branch+in-OneLeft+else-alone w ↦
          let a = look_child eq k h (open_branch w.in-Branch.children c.self.view_is w.in-Branch.is c.self.invariant) c.requires.hash_left w.place_of-place.ensures.value (sym w.in-Some.ensures.found) in
          let same = either_same (λ x. x) w.in_ok-child-in-Branch.ensures.value in
          let holds = w.own.follows.holds w.become_leaf.new.self (rw w.in_ok-child-in-Branch.was refl) in
          let p = rw w.in-OneLeft.is at w.in_ok-remove_mut-in-Branch.ensures.ok in
          let ne : length w.in-Branch.children ≡ 1 → ⊥ = λ one. w.if-alone.false (w.size-alone.ensures ∙ one) in
          rw (w.result-is, w.self-inside-is) (leaf_below a c.requires.once same _ holds p w.become_leaf.ensures w.prove_sound.ensures ne)
      | in-Branch+in-Some+in_default-only_entry+in_ok-child-in-Branch+in_ok-remove_mut-in-Branch+in-Done w ↦
          let a = look_child eq k h (open_branch w.in-Branch.children c.self.view_is w.in-Branch.is c.self.invariant) c.requires.hash_left w.place_of-place.ensures.value (sym w.in-Some.ensures.found) in
          let same = either_same (λ x. x) w.in_ok-child-in-Branch.ensures.value in
          let holds = w.own.follows.holds w.remove_mut.new.self (rw w.in_ok-child-in-Branch.was refl) in
          rw (w.result-is, w.self-inside-is) (done_below a c.requires.once same _ holds w.prove_sound-in-Done.ensures (rw w.in-Done.is at w.in_ok-remove_mut-in-Branch.ensures.ok))
      | in-Collision w ↦
          let rc = w.in-Collision.collision in
          let o = open_collision rc c.self.view_is w.in-Collision.is c.self.invariant in
          rw (w.result-is, w.self-inside-is) (record {
            sound = colliding_sound c.self.inside.bits c.self.inside.depth c.args.self.now rc.value w.remove_colliding.new.collision.value o (matches eq k h) w.remove_colliding.result w.remove_colliding.ensures.ok w.remove_colliding.ensures.err;
            ok = colliding_removed c.self.inside.bits c.self.inside.depth c.args.self.now rc.value w.remove_colliding.new.collision.value o (matches eq k h) w.remove_colliding.result w.remove_colliding.ensures.ok;
            err = colliding_err c.self.inside.bits c.self.inside.depth c.args.self.now rc.value w.remove_colliding.new.collision.value o w.remove_colliding.result w.remove_colliding.ensures.err;
          })
    ]

pub invariant_of-self-2 : goal.invariant_of-self-2
invariant_of-self-2 g t c = (ended g t (goal.at.invariant_of-self-2 g t c).Joined-self).sound

pub returns-clause-ok : goal.returns-clause-ok
returns-clause-ok g t c = (ended g t (goal.at.returns-clause-ok g t c).Joined-self).ok

pub returns-clause-err : goal.returns-clause-err
returns-clause-err g t c = (ended g t (goal.at.returns-clause-err g t c).Joined-self).err
