use Rattle.rpds_hash_trie.proofs.Words.{refl, sym, ap, ◌∙◌, inr, shown, matches, value_of, Collision, told_of}
use Rattle.rpds_core.proofs.ValueLends.{refusal}
use Rattle.rpds_hash_trie.proofs.NodeValueMut.{shown_of, carried}
use Rattle.rpds_hash_trie.proofs.lend.lend_in_shared.Goals as goal

pub returns-in_err-collision : goal.returns-in_err-collision
returns-in_err-collision g c =
    let no = refusal _ c.from_residual.result _ _ c.requires.fresh c.from_residual.ensures.1 in
    let kept = shown_of _ _ (rw c.in_err-collision.was at c.own.follows.holds-at-none) in (
      (no.nameless, λ w. (λ ok. absurd (no.not_ok ok), inr refl), kept),
      record { writes_back = tt; returned = no.returned },
    )

pub returns : goal.returns
returns g c =
    let t = matches g.Q.HashKey.same (g.Q.HashKey.seen c.args.key) c.args.hash in
    let same = shown_of c.in_ok-collision.collision.now _ c.in_ok-collision.ensures.value in
    let l = c.lend_in_collision.follows in
    let ends = λ (x : Collision g.row.K.Denot g.row.V.Denot g.row.A.Denot). ap shown (c.own.follows.holds x (rw c.in_ok-collision.was refl)) in (
      (refl, λ w. carried t w same (ends (l.lender w)) (l.holds w), ends l.lender-at-none ∙ l.holds-at-none ∙ same),
      record { writes_back = tt; returned = told_of (ap (value_of t) (sym same)) _ c.lend_in_collision.ensures.returned },
    )
