use Rattle.rpds_hash_trie.proofs.Words.{◌≡◌, None, Some, sym, ap, subst, is_some, Entry, Stored, AllAgree, matches, found, stored, IsPutIn}
use Rattle.rpds_hash_trie.proofs.United.{stays_united, put_united}
use Rattle.rpds_hash_trie.proofs.UnitedChildren.{agree_with}
use Rattle.rpds_hash_trie.proofs.UnitedNodes.{depth_within}
use Rattle.rpds_hash_trie.proofs.node.Node.with_absent.Goals as goal

pub left_at-left-requires-clause-deep : goal.left_at-left-requires-clause-deep
left_at-left-requires-clause-deep g c = depth_within c.self.inside.bits c.self.inside.depth c.self.inside.kind c.self.view_is c.prove_sound.ensures.deep

pub get-requires-clause-alike : goal.get-requires-clause-alike
get-requires-clause-alike g c =
    let can = c.requires.can in
    agree_with c.args.self.now.bits c.args.self.now.depth can.with_root c.args.entry.now.key_hash c.args.self.now.entries can.alike can.alike_others.0

pub insert-requires-clause-alike : goal.insert-requires-clause-alike
insert-requires-clause-alike g c =
    let can = c.requires.can in
    let alike = agree_with c.args.self.now.bits c.args.self.now.depth can.with_root c.args.entry.now.key_hash c.args.self.now.entries can.alike
    can.alike_others.0 in
    subst (λ (s : Stored g.row.K.Denot g.row.V.Denot). AllAgree c.args.self.now.bits c.args.self.now.depth s.0 c.args.self.now.entries)
    (sym c.in_ok-entry-in-None.ensures) alike

pub returns-in-Some : goal.returns-in-Some
returns-in-Some g c =
    let there = subst (λ (e : Entry g.row.K.Denot g.row.V.Denot). Some (stored c.in-Some.field-0.now)
    ≡ found (matches g.K.PartialEq.eq e.key c.args.entry.now.key_hash) c.args.self.now.entries) c.deref.ensures c.in-Some.ensures.found in
    record { ok = stays_united g.met.K.Eq.laws c.args.self.now (stored c.args.entry.now) c.args.common.now c.requires.can.once (ap is_some (sym there)) }

pub returns-in_ok-more-in-None : goal.returns-in_ok-more-in-None
returns-in_ok-more-in-None g c =
    let eq = g.K.PartialEq.eq in
    let absent = subst (λ (e : Entry g.row.K.Denot g.row.V.Denot). None ≡ found (matches eq e.key c.args.entry.now.key_hash) c.args.self.now.entries)
    c.deref.ensures c.in-None.ensures.found in
    let put = subst (λ (s : Stored g.row.K.Denot g.row.V.Denot). IsPutIn (matches eq s.1.0 s.0) s c.args.self.now c.in_ok-more-in-None.more.value
    c.insert.new.fresh) c.in_ok-entry-in-None.ensures c.in_ok-more-in-None.ensures.ok in
    record {
      ok = put_united g.met.K.Eq.laws c.args.self.now c.in_ok-more-in-None.more.value (stored c.args.entry.now) c.args.common.now c.requires.can.once
          (ap is_some (sym absent)) put.bits put.depth put.entries;
    }
