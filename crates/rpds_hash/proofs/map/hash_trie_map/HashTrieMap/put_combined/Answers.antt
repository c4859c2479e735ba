use Rattle.rpds_hash.proofs.Words.{◌∷◌, ap, sym, ◌∙◌, find}
use Rattle.std.proofs.lemmas.Result.{on_ok_weaker}
use Rattle.rpds_hash.proofs.UnitedWith.{combined_at, combines, left_alone, ours_lack, theirs_lack}
use Rattle.rpds_hash.proofs.map.hash_trie_map.HashTrieMap.put_combined.Goals as goal

pub returns-clause-united : goal.returns-clause-united
returns-clause-united g c =
    let eq = g.K.PartialEq.eq in
    let law = g.met.K.Eq.laws in
    let key = c.args.key.now in
    let was = c.args.self.now.entries in
    let ours = c.args.ours.now.entries in
    let theirs = c.args.theirs.now.entries in
    let p : g.row.K.Denot × g.row.V.Denot = (c.in-Some.stored.now, c.in-Some.our.now) in
    let value = c.in_ok-value.value in
    let says = combines law g.F.Fn c.args.combine.now ours theirs c.in-Some.stored c.in-Some.our c.in-Some-get.their value c.in_ok-value.ensures in
    let same = c.requires.clone_keys p.0 c.in_ok-clone.field-0 c.in_ok-clone.ensures.cases in
    on_ok_weaker c.insert_mut.result (λ put. combined_at law g.F.Fn c.args.combine.now ours theirs key p c.in-Some-get.their.now (sym c.in-Some.ensures)
    (sym c.in-Some-get.ensures) value says was c.insert_mut.new.self.entries (λ k. put k ∙ ap (λ j. find eq k ((j, value) ∷ was)) same)) c.insert_mut.ensures.found

pub returns-in_default-clause-united : goal.returns-in_default-clause-united
returns-in_default-clause-united g c =
    let eq = g.K.PartialEq.eq in
    let key = c.args.key.now in
    let ours = c.args.ours.now.entries in
    let theirs = c.args.theirs.now.entries in
    left_alone g.met.K.Eq.laws g.F.Fn c.args.combine.now ours theirs key (ours_lack (find eq key ours) (find eq key theirs) (sym c.in_default.ensures))
    c.args.self.now.entries c.requires.united

pub returns-in_default-get-clause-united : goal.returns-in_default-get-clause-united
returns-in_default-get-clause-united g c =
    let eq = g.K.PartialEq.eq in
    let key = c.args.key.now in
    let ours = c.args.ours.now.entries in
    let theirs = c.args.theirs.now.entries in
    left_alone g.met.K.Eq.laws g.F.Fn c.args.combine.now ours theirs key
    (theirs_lack (λ p. p.1) (find eq key ours) (find eq key theirs) (sym c.in_default-get.ensures)) c.args.self.now.entries c.requires.united
