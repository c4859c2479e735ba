use Rattle.rpds_hash_trie.proofs.Words.{◌≡◌, ◌+◌, sym, ◌∙◌, refl, subst, cond, is_some, Stored, AllAgree, matches, found, stored, leaf_of, IsPutIn}
use Rattle.rpds_hash_trie.proofs.United.{front_united, counted_of, not_counted}
use Rattle.rpds_hash_trie.proofs.UnitedChildren.{agree_with}
use Rattle.rpds_hash_trie.proofs.UnitedNodes.{depth_within}
use Rattle.rpds_hash_trie.proofs.node.Node.with_first.Goals as goal
use Rattle.rpds_hash_trie.proofs.node.Node.with_first.Goals.{then-not-fresh, else-not-fresh}

pub left_at-left-requires-clause-deep : goal.left_at-left-requires-clause-deep
left_at-left-requires-clause-deep g c = depth_within c.self.inside.bits c.self.inside.depth c.self.inside.kind c.self.view_is c.prove_sound.ensures.deep

pub insert-requires-clause-alike : goal.insert-requires-clause-alike
insert-requires-clause-alike g c =
    let can = c.requires.can in
    let alike = agree_with c.args.self.now.bits c.args.self.now.depth can.with_root c.args.entry.now.key_hash c.args.self.now.entries can.alike_others
    can.alike.0 in
    subst (λ (s : Stored g.row.K.Denot g.row.V.Denot). AllAgree c.args.self.now.bits c.args.self.now.depth s.0 c.args.self.now.entries)
    (sym c.in_ok-entry.ensures) alike

pub returns : goal.returns
returns g c =
    let eq = g.K.PartialEq.eq in
    let e = stored c.args.entry.now in
    let v = c.args.self.now in
    let put = subst (λ (s : Stored g.row.K.Denot g.row.V.Denot). IsPutIn (matches eq s.1.0 s.0) s v c.in_ok-more.more.value c.insert.new.fresh)
    c.in_ok-entry.ensures c.in_ok-more.ensures.ok in
    let o = found (matches eq e.1.0 e.0) v.entries in
    let counted : c.if-not-fresh.common ≡ c.args.common.now + cond (is_some o) 1 0 =
    elim c.if-not-fresh.branch [
      | then-not-fresh w ↦ w.common-is ∙ counted_of o c.args.common.now c.insert.new.fresh put.fresh w.if-not-fresh.true
      | else-not-fresh w ↦ w.common-is ∙ not_counted o c.args.common.now c.insert.new.fresh put.fresh w.if-not-fresh.false
    ]
    in
    record {
      ok = front_united g.met.K.Eq.laws (leaf_of v.bits v.depth e) v c.in_ok-more.more.value e c.args.common.now c.if-not-fresh.common refl
          c.requires.can.once_others put.bits put.depth put.entries counted;
    }
