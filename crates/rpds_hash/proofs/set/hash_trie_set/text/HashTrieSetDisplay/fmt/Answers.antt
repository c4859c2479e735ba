use Rattle.rpds_hash.proofs.Words.{refl}
use Rattle.rpds_hash.proofs.set.hash_trie_set.text.HashTrieSetDisplay.fmt.Goals as goal

pub returns-clause-writes : goal.returns-clause-writes
returns-clause-writes g c = rw (← c.iter.ensures.rest) (c.write_between.ensures.writes (λ x. x.now) (λ w. w) g.T.Display.output (λ old result new e. e) (λ x. refl))

pub returns-clause-styled : goal.returns-clause-styled
returns-clause-styled g c =
    let text = λ (x : g.row.T.Denot). g.T.Display.styled_output x c.args.f.now.spec in
    rw (← c.iter.ensures.rest) (c.write_between.ensures.styled (λ x. x.now) (λ w. w) text (λ old result new e. e) (λ x. refl))
