use Rattle.rpds_hash_trie.proofs.Words.{◌≤◌, sym, ◌∙◌, subst}
use Rattle.rpds_hash_trie.proofs.Sifted.{empty_as}
use Rattle.rpds_hash_trie.proofs.root.Root.sift_beside_none.Goals as goal

pub new-requires : goal.new-requires
new-requires g c = subst (λ b. (1 ≤ b) × (b ≤ 6)) (sym c.bits.ensures) c.prove_sound.ensures.bits_in

pub returns-then-both : goal.returns-then-both
returns-then-both g c = rw c.if-both.true (c.new.ensures ∙ empty_as c.args.self.now c.bits.result (sym c.bits.ensures) c.prove_sound.ensures.top)
