use Rattle.rpds_hash_trie.proofs.Words.{◌≡◌, refl, sym, ◌∙◌, inr, arith, false≢true, Trie, seen, branch_of, either_same, told_of}
use Rattle.rpds_hash_trie.proofs.Child.{HasChild, has_child, has_no_child}
use Rattle.rpds_core.proofs.Counts.{within_more, within_same}
use Rattle.rpds_core.proofs.ValueLends.{refusal}
use Rattle.rpds_hash_trie.proofs.NodeValueMut.{child_stays, child_ready, child_lower, child_found, child_lent, child_absent, stays_seen}
use Rattle.rpds_hash_trie.proofs.lend.lend_in_children.Given.{Over}
use Rattle.rpds_hash_trie.proofs.lend.lend_in_children.Goals as goal
use Rattle.rpds_hash_trie.proofs.lend.lend_in_children.Goals.{In-Some, In_ok-child-in-Some}

-- the child at the digit
below : (g : Over) (c : In-Some g) → HasChild g.Q.HashKey.same (g.Q.HashKey.seen c.args.descent.now.key.key) c.args.descent.now.key.hash c.args.bits c.args.depth
    c.digit_at-place.result (branch_of c.args.bits c.args.depth (seen c.args.children.now)) c.args.children.now c.in-Some.child.now
below g c = has_child g.Q.HashKey.same (g.Q.HashKey.seen c.args.descent.now.key.key) c.args.descent.now.key.hash (record { is = refl; sound = c.requires.branch })
    c.digit_at-place.ensures.value (sym c.in-Some.ensures.found)

-- the child, once it is the node's own: it is the same, and ends as the reference to it leaves it
own_child : (g : Over) (c : In_ok-child-in-Some g) → c.in_ok-child-in-Some.child.now ≡ c.in-Some.child.now.value
own_child g c = either_same (λ x. x) c.in_ok-child-in-Some.ensures.value

own_ends : (g : Over) (c : In_ok-child-in-Some g) (x : Trie g.row.K.Denot g.row.V.Denot) → (c.own.follows.lender x).value ≡ x
own_ends g c x = c.own.follows.holds x (rw c.in_ok-child-in-Some.was refl)

pub returns-in-None : goal.returns-in-None
returns-in-None g c =
    let absent = child_absent (has_no_child g.Q.HashKey.same (g.Q.HashKey.seen c.args.descent.now.key.key) c.args.descent.now.key.hash
    (record { is = refl; sound = c.requires.branch }) c.digit_at-place.ensures.value (sym c.in-None.ensures.found)) in
    let stays = stays_seen c.requires.branch in (
      (refl, λ w. (λ ok. absurd (false≢true ok), inr stays), stays),
      record { writes_back = tt; returned = absent; steps = within_same _ _ _ },
    )

pub returns-in_err-child-in-Some : goal.returns-in_err-child-in-Some
returns-in_err-child-in-Some g c =
    let same = either_same (λ x. x) (rw c.in_err-child-in-Some.was at c.own.follows.holds-at-none) in
    let stays = child_stays (below g (goal.at.returns-in_err-child-in-Some g c).In-Some) c.own.follows.lender-at-none same in
    let no = refusal _ c.from_residual.result _ _ c.requires.fresh c.from_residual.ensures.1 in (
      (no.nameless, λ w. (λ ok. absurd (no.not_ok ok), inr (stays_seen c.requires.branch)), stays),
      record { writes_back = tt; returned = no.returned; steps = within_same _ _ _ },
    )

pub lend-requires-clause-ready : goal.lend-requires-clause-ready
lend-requires-clause-ready g c = child_ready (below g (goal.at.lend-requires-clause-ready g c).In-Some)
    (own_child g (goal.at.lend-requires-clause-ready g c).In_ok-child-in-Some) c.requires.ready

pub lend-requires-clause-shallow : goal.lend-requires-clause-shallow
lend-requires-clause-shallow g c =
    let same = own_child g (goal.at.lend-requires-clause-shallow g c).In_ok-child-in-Some in
    omega (arith, child_lower (below g (goal.at.lend-requires-clause-shallow g c).In-Some) same, c.requires.shallow)

pub returns-in_ok-child-in-Some : goal.returns-in_ok-child-in-Some
returns-in_ok-child-in-Some g c =
    let a = below g (goal.at.returns-in_ok-child-in-Some g c).In-Some in
    let same = own_child g (goal.at.returns-in_ok-child-in-Some g c).In_ok-child-in-Some in
    let l = c.lend.follows in
    let holds = own_ends g (goal.at.returns-in_ok-child-in-Some g c).In_ok-child-in-Some in (
      (
        refl,
        λ w. child_lent a same (c.own.follows.lender (l.lender w)) (holds (l.lender w)) w (l.holds w),
        child_stays a
            (c.own.follows.lender l.lender-at-none) (holds l.lender-at-none ∙ l.holds-at-none ∙ same),
      ),
      record {
        writes_back = tt;
        returned = told_of (child_found a same) _ c.lend.ensures.returned;
        steps = within_more c.lend.ensures.steps (omega (arith, child_lower a same)) (omega (arith, child_lower a same));
      },
    )
