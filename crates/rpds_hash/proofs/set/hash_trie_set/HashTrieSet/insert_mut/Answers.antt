use Rattle.rpds_hash.proofs.Words.{◌∷◌, ap, ◌∙◌, find_member}
use Rattle.std.proofs.Common.{rules}
use Rattle.std.proofs.lemmas.Result.{on_ok_weaker}
use Rattle.rpds_hash.proofs.Members.{members_found, member_rules}
use Rattle.rpds_hash.proofs.set.hash_trie_set.HashTrieSet.insert_mut.Goals as goal

pub returns-clause-ok : goal.returns-clause-ok
returns-clause-ok g c = search (rules, member_rules)

pub returns-clause-found : goal.returns-clause-found
returns-clause-found g c =
    let eq = g.T.PartialEq.eq in
    on_ok_weaker c.insert_mut.result
    (λ found x. members_found eq c.args.value c.self.inside.map c.insert_mut.new.self found x
    ∙ ap (λ s. find_member eq x (c.args.value ∷ s.members)) c.self.view_is)
    c.insert_mut.ensures.found
