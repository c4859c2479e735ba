use Rattle.std.proofs.lemmas.List.{take_more}
use Rattle.rpds_hash_trie.proofs.Words.{◌∷◌, ◌++◌, [], suc, sym, ap, ◌∙◌, subst, map, take, drop, arith, map_push, length, stored, AllAgree, unmatched}
use Rattle.rpds_hash_trie.specs.HashSift.{goes, AreCounted}
use Rattle.rpds_hash_trie.proofs.Flat.{agree_append, without_append}
use Rattle.rpds_hash_trie.proofs.Sifted.{colliding_hash, colliding_whole, counted_on, whole_taken}
use Rattle.rpds_hash_trie.proofs.UnitedChildren.{agree_with}
use Rattle.rpds_hash_trie.proofs.UnitedNodes.{cut_at}
use Rattle.rpds_hash_trie.proofs.sift.sift_collision.Goals as goal

pub keep_entry-requires-in-loop-entry-clause-alike : goal.keep_entry-requires-in-loop-entry-clause-alike
keep_entry-requires-in-loop-entry-clause-alike g c =
    let xs = c.as_slice-others.result.now in
    let i = c.loop-entry.entry-index in
    let x = c.entry-item.result in
    let can = c.requires.can in
    let o = c.args.other.now in
    let cut = ap (map stored) (sym c.as_slice-others.ensures.value) ∙ cut_at stored xs i x (omega arith) c.entry-item.is in
    let agrees = agree_append o.bits o.depth can.with_root (map stored (take i xs)) (stored x ∷ map stored (drop (suc i) xs))
    (subst (AllAgree o.bits o.depth can.with_root) cut can.alike_others.1) in
    agree_with o.bits o.depth can.with_root x.key_hash o.entries can.alike agrees.1.0

pub loop-entry-preserved : goal.loop-entry-preserved
loop-entry-preserved g c =
    let eq = g.K.PartialEq.eq in
    let xs = c.as_slice-others.result.now in
    let i = c.loop-entry.entry-index in
    let x = c.entry-item.result in
    let ys = c.args.other.now.entries in
    let f = stored c.args.mine.now.front in
    let t = goes eq c.args.both ys in
    let seen = f ∷ map stored (take i xs) in
    let inv = c.loop-entry.invariant in
    let more = ap (map stored) (take_more xs i x (omega arith) ∙ ap (λ y. take i xs ++ y ∷ []) (sym c.entry-item.is)) ∙ map_push stored (take i xs) x in (
      c.in_ok-keep_entry-2.ensures.kept ∙ ap (λ l. l ++ unmatched t (stored x ∷ [])) inv.0 ∙ sym (without_append t seen (stored x ∷ []))
          ∙ ap (λ l. unmatched t (f ∷ l)) (sym more),
      subst (λ l. AreCounted eq (f ∷ l) ys c.args.common.now c.keep_entry-in-loop-entry.new.common) (sym more) (counted_on eq ys seen (stored x ∷ [])
          c.args.common.now c.loop-entry.common c.keep_entry-in-loop-entry.new.common inv.1 c.keep_entry-in-loop-entry.ensures.counted),
    )

pub returns-then-len-others : goal.returns-then-len-others
returns-then-len-others g c =
    let eq = g.K.PartialEq.eq in
    let xs = c.as_slice-others.result.now in
    let ys = c.args.other.now.entries in
    let mine = c.args.mine.now in
    let inv = c.loop-entry.invariant in
    let all = ap (λ l. stored mine.front ∷ map stored l) (whole_taken xs c.loop-entry.entry-index (omega (arith, c.loop-entry-test.false))
    ∙ c.as_slice-others.ensures.value) in
    colliding_whole eq c.args.both c.args.bits c.args.depth mine.front mine.others.items c.loop-entry.kept.items ys c.args.common.now c.loop-entry.common
    (inv.0 ∙ ap (unmatched (goes eq c.args.both ys)) all) (subst (λ l. AreCounted eq l ys c.args.common.now c.loop-entry.common) all inv.1)
    (omega (arith, c.if-len-others.true, c.len.ensures, c.loop-entry.kept.ok.0, ap length c.as_slice-others.ensures.value))

pub left_of-requires : goal.left_of-requires
left_of-requires g c =
    let eq = g.K.PartialEq.eq in
    let xs = c.as_slice-others.result.now in
    let ys = c.args.other.now.entries in
    let mine = c.args.mine.now in
    let inv = c.loop-entry.invariant in
    let sound = c.requires.sound in
    let all = ap (λ l. stored mine.front ∷ map stored l) (whole_taken xs c.loop-entry.entry-index (omega (arith, c.loop-entry-test.false))
    ∙ c.as_slice-others.ensures.value) in (
      mine.front.key_hash,
      colliding_hash eq c.args.both c.args.bits c.args.depth mine.front mine.others.items c.loop-entry.kept.items ys c.args.common.now c.loop-entry.common
          (inv.0 ∙ ap (unmatched (goes eq c.args.both ys)) all) (subst (λ l. AreCounted eq l ys c.args.common.now c.loop-entry.common) all inv.1) sound,
      record { bits_in = sound.bits_in; deep = let full = sound.full in omega (arith, full) },
      sound.full,
    )
