use Rattle.rpds_hash_trie.proofs.Words.{[], ◌∷◌, ap, refl, sym, ◌∙◌, inr, false≢true, stored, matches}
use Rattle.rpds_hash_trie.proofs.NodeValueMut.{told_higher, alone_written, alone_found, alone_absent}
use Rattle.rpds_hash_trie.proofs.lend.lend_in_leaf.Goals as goal

pub returns-then-matches : goal.returns-then-matches
returns-then-matches g c =
    let t = matches g.Q.HashKey.same (g.Q.HashKey.seen c.args.key) c.args.hash in
    let e = stored c.args.held.now in
    let hit = sym c.matches.ensures ∙ c.if-matches.true in
    let l = c.lend_value.follows in (
      (refl, λ w. alone_written t e hit w (stored (l.lender w)) (l.holds w), ap (λ x. x ∷ []) l.holds-at-none),
      record { writes_back = tt; returned = told_higher (alone_found t e hit) _ c.requires.fresh _ c.lend_value.ensures.returned },
    )

pub returns : goal.returns
returns g c =
    let t = matches g.Q.HashKey.same (g.Q.HashKey.seen c.args.key) c.args.hash in
    let miss = sym c.matches.ensures ∙ c.if-matches.false in (
      (refl, λ w. (λ ok. absurd (false≢true ok), inr refl), refl),
      record { writes_back = tt; returned = alone_absent t (stored c.args.held.now) miss },
    )
