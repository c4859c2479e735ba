use Rattle.std.proofs.Common.{ap, ◌∙◌, filter, is_none}
use Rattle.rpds_hash.specs.HashedSet.{HashedSet, find_member, set_of}
use Rattle.rpds_hash.proofs.MembersTested.{tested_left}
use Rattle.rpds_hash.proofs.Unions.{find_lacking}
use Rattle.rpds_hash.proofs.set.hash_trie_set.HashTrieSet.difference.Goals as goal

pub returns-clause-members : goal.returns-clause-members
returns-clause-members g c =
    let eq = g.T.PartialEq.eq in
    ap set_of c.in_ok-map.ensures.ok
    ∙ (λ i. record (set_of c.self.inside.map) { members = (tested_left eq c.other.inside.map.entries c.self.inside.map.entries) i })
    ∙ (λ i. record (c.self.view_is i) { members = filter (λ m. is_none (find_member eq m (c.other.view_is i).members)) (c.self.view_is i).members })

pub returns-clause-found : goal.returns-clause-found
returns-clause-found g c = λ x.
    let eq = g.T.PartialEq.eq in
    ap (λ (s : HashedSet _ _). find_member eq x s.members) (returns-clause-members g c) ∙ find_lacking (λ m. m) g.met.T.Eq.laws c.args.other.now.members x
    c.args.self.now.members
