use Rattle.rpds_hash_trie.proofs.Words.{◌≡◌, ◌≤◌, length, vec_len, refl, sym, ◌∙◌, inl, inr, rules, cases_lt, false≢true, stored, matches}
use Rattle.rpds_hash_trie.proofs.NodeValueMut.{collision_absent, held_found, held_kept, held_written, told_higher}
use Rattle.rpds_hash_trie.proofs.lend.lend_in_collision.Goals as goal

pub returns-in-None : goal.returns-in-None
returns-in-None g c =
    let xs = c.args.collision.now.others.items in
    let i = c.index_in-at.result in
    let size : vec_len c.args.collision.now.others ≡ length xs = search rules in
    let at = rw c.deref.ensures.value at c.index_in-at.ensures in
    let miss = sym c.matches.ensures ∙ c.if-matches.false in
    let some = rw size at c.in-None.ensures.variant in
    let le : length xs ≤ i = elim (cases_lt i (length xs)) [ inl lt ↦ absurd (false≢true (some.1 lt)) | inr le ↦ le ] in (
      (refl, λ w. (λ ok. absurd (false≢true ok), inr refl), refl),
      record { writes_back = tt; returned = collision_absent (matches g.Q.HashKey.same (g.Q.HashKey.seen c.args.key) c.args.hash) (stored c.args.collision.now.front) xs miss i at le },
    )

pub returns-in-Some : goal.returns-in-Some
returns-in-Some g c =
    let t = matches g.Q.HashKey.same (g.Q.HashKey.seen c.args.key) c.args.hash in
    let f = stored c.args.collision.now.front in
    let xs = c.args.collision.now.others.items in
    let i = c.index_in-at.result in
    let size : vec_len c.args.collision.now.others ≡ length xs = search rules in
    let at = rw c.deref.ensures.value at c.index_in-at.ensures in
    let miss = sym c.matches.ensures ∙ c.if-matches.false in
    let some = rw size at c.in-Some.ensures.variant in
    let lt = some.0 refl in
    let held = c.in-Some.held.now in
    let e = c.in-Some.ensures.value in
    let l = c.lend_value-in-Some.follows in (
      (refl, λ w. held_written t f xs miss i at lt held e w (l.lender w) (l.holds w), held_kept t f xs miss i at lt held e l.lender-at-none l.holds-at-none),
      record { writes_back = tt; returned = told_higher (held_found t f xs miss i at lt held e) _ c.requires.fresh _ c.lend_value-in-Some.ensures.returned },
    )
