use Rattle.std.proofs.Common.{◌≡◌, ◌∙◌}
use Rattle.std.proofs.lemmas.Result.{IfOk-weaker}
use Rattle.std.specs.Option.{option_or, option_xor}
use Rattle.rpds_hash.specs.HashedSet.{find_member}
use Rattle.rpds_hash.proofs.Unions.{xor_of}
use Rattle.rpds_hash.proofs.set.hash_trie_set.HashTrieSet.symmetric_difference.Goals as goal

pub returns-clause-found : goal.returns-clause-found
returns-clause-found g c =
    let eq = g.T.PartialEq.eq in
    let mine = c.args.self.now.members in
    let theirs = c.args.other.now.members in
    IfOk-weaker c.union.result
    (λ s. (x : g.row.T.Denot) → find_member eq x s.members ≡ option_or (find_member eq x c.in_ok-left.left.members)
    (find_member eq x c.in_ok-others.others.members))
    (λ s. (x : g.row.T.Denot) → find_member eq x s.members ≡ option_xor (find_member eq x mine) (find_member eq x theirs))
    (λ s found x. found x ∙ (λ i. option_or (c.in_ok-left.ensures.found x i) (c.in_ok-others.ensures.found x i))
    ∙ xor_of (find_member eq x mine) (find_member eq x theirs))
    c.union.ensures.found
