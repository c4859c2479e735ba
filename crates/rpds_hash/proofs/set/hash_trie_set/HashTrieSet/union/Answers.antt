use Rattle.rpds_hash.proofs.Words.{◌∙◌, find_member}
use Rattle.std.specs.Option.{option_or}
use Rattle.rpds_hash.proofs.Members.{members_either}
use Rattle.rpds_hash.proofs.set.hash_trie_set.HashTrieSet.union.Goals as goal

pub returns-clause-found : goal.returns-clause-found
returns-clause-found g c =
    let eq = g.T.PartialEq.eq in
    λ x.
    members_either eq c.in_ok-map.map.entries c.self.inside.map.entries c.other.inside.map.entries c.in_ok-map.ensures.found x
    ∙ (λ i. option_or (find_member eq x (c.self.view_is i).members) (find_member eq x (c.other.view_is i).members))
