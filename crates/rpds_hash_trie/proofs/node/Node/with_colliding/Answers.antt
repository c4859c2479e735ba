use Rattle.rpds_hash_trie.proofs.Words.{◌≡◌, ◌∷◌, ◌++◌, ◌⊎◌, suc, true, false, is_some, [], ap, ◌∙◌, sym, subst, map, take, drop, arith, inl, inr, map_push}
use Rattle.rpds_hash_trie.proofs.Words.{stored, shown, Trie}
use Rattle.std.proofs.lemmas.List.{take_more}
use Rattle.rpds_hash_trie.specs.HashUnion.{CanUnite, IsUnited, node_or}
use Rattle.rpds_hash_trie.proofs.UnitedNodes.{can_more, one_more, cut_at}
use Rattle.rpds_hash_trie.proofs.node.Node.with_colliding.Goals as goal
use Rattle.rpds_hash_trie.proofs.node.Node.with_colliding.Goals.{then-is_some, else-is_some+in-Some-1, else-is_some+in-None-1}

pub with_absent-requires-in-loop-entry : goal.with_absent-requires-in-loop-entry
with_absent-requires-in-loop-entry g c =
    let xs = c.as_slice-others.result.now in
    let i = c.loop-entry.entry-index in
    let x = c.entry-item.result in
    let f = stored c.args.collision.now.front in
    let v = c.args.self.now in
    let is = ap (λ l. f ∷ map stored l) (sym c.as_slice-others.ensures.value) ∙ ap (λ l. f ∷ l) (cut_at stored xs i x (omega arith) c.entry-item.is) in
    record {
      can = subst (λ (w : Trie g.row.K.Denot g.row.V.Denot). CanUnite g.K.PartialEq.eq w (stored x ∷ []) c.loop-entry.common)
          (sym c.node_now.ensures) (can_more g.met.K.Eq.laws v (node_or v c.loop-entry.more) (shown c.args.collision.now) (f ∷ map stored (take i xs))
          (map stored (drop (suc i) xs)) (stored x) c.args.common.now c.loop-entry.common c.requires.can is c.loop-entry.invariant);
    }

pub loop-entry-preserved : goal.loop-entry-preserved
loop-entry-preserved g c =
    let xs = c.as_slice-others.result.now in
    let i = c.loop-entry.entry-index in
    let x = c.entry-item.result in
    let f = stored c.args.collision.now.front in
    let v = c.args.self.now in
    let told : ((is_some c.in_ok-next.next ≡ true) × (c.if-is_some.more ≡ c.in_ok-next.next)) ⊎ ((is_some c.in_ok-next.next ≡ false)
    × (c.if-is_some.more ≡ c.loop-entry.more)) = elim c.if-is_some.branch [
      | then-is_some w ↦ inl (sym c.is_some.ensures ∙ w.if-is_some.true, w.more-is)
      | else-is_some+in-Some-1 w ↦ inr (sym c.is_some.ensures ∙ w.if-is_some.false, w.more-is)
      | else-is_some+in-None-1 w ↦ inr (sym c.is_some.ensures ∙ w.if-is_some.false, w.more-is)
    ] in
    let more = ap (map stored) (take_more xs i x (omega arith) ∙ ap (λ y. take i xs ++ y ∷ []) (sym c.entry-item.is)) ∙ map_push stored (take i xs) x in
    subst (λ l. IsUnited g.K.PartialEq.eq v (f ∷ l) (node_or v c.if-is_some.more) c.args.common.now c.with_absent-in-loop-entry.new.common) (sym more)
    (one_more g.met.K.Eq.laws v c.node_now.result.now c.loop-entry.more c.in_ok-next.next c.if-is_some.more (f ∷ map stored (take i xs)) (stored x)
    c.args.common.now c.loop-entry.common c.with_absent-in-loop-entry.new.common c.node_now.ensures c.loop-entry.invariant c.in_ok-next.ensures.ok told)
