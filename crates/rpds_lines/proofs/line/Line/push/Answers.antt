use Rattle.std.proofs.Common.{◌≡◌, ◌<◌, ℕ, List, [], ◌++◌, Result, Ok, Err, OnOk, is_ok, if◌then◌else◌, length, ap, sym, subst, ◌∙◌, arith, rules}
use Rattle.std.proofs.lemmas.Bool.{false≢true}
use Rattle.std.proofs.lemmas.List.{nil_from_length}
use Rattle.std.proofs.lemmas.Result.{on_ok_weaker}
use Rattle.rpds_lines.specs.Kept.{IsTooLong, StandsFor}
use Rattle.rpds_lines.proofs.Kept.{stands_cut, stands_whole}
use Rattle.rpds_lines.proofs.line.Line.push.Goals as goal

extended : {T E : Type 0} (done : Result T E) (old more new : List ℕ) → new ≡ (if is_ok done then old ++ more else old) → OnOk done (new ≡ old ++ more)
extended (Ok x) old more new is = is
extended (Err e) old more new is = tt

pub returns-then-is_too_long-clause-kept : goal.returns-then-is_too_long-clause-kept
returns-then-is_too_long-clause-kept g c = λ line stands.
    let kept = c.args.self.now in
    let start = c.split_at.result.0.now in
    let items : c.extend_from_slice.new.self.items ≡ kept ++ start = search rules in
    let full : 127 < length kept → start ≡ [] = λ long. nil_from_length start (omega (
      arith,
      long,
      c.split_at.ensures.front_len,
      c.min.ensures,
      c.saturating_sub-free.ensures,
      c.len.ensures,
      ap length c.self.view_is,
      c.self.inside.kept.ok.0,
    )) in
    let long = subst IsTooLong (c.as_slice.ensures.value ∙ items) (c.is_too_long.ensures.0 c.if-is_too_long.true) in
    rw items (stands_cut kept line c.args.bytes.now start c.split_at.result.1.now stands c.requires c.split_at.ensures.by_index.0 full long)

pub returns-clause-kept : goal.returns-clause-kept
returns-clause-kept g c =
    let kept = c.args.self.now in
    let start = c.split_at.result.0.now in
    let rest = c.split_at.result.1.now in
    let items : c.extend_from_slice.new.self.items ≡ kept ++ start = search rules in
    let full : 127 < length kept → start ≡ [] = λ long. nil_from_length start (omega (
      arith,
      long,
      c.split_at.ensures.front_len,
      c.min.ensures,
      c.saturating_sub-free.ensures,
      c.len.ensures,
      ap length c.self.view_is,
      c.self.inside.kept.ok.0,
    )) in
    let short : ¬ IsTooLong (kept ++ start) = λ long. false≢true (sym c.if-is_too_long.false ∙ c.is_too_long.ensures.1
    (subst IsTooLong (sym (c.as_slice.ensures.value ∙ items)) long)) in
    on_ok_weaker c.extend_from_slice-2.result
    (λ all line stands. subst (λ l. StandsFor l (line ++ c.args.bytes.now)) (sym (all ∙ ap (λ l. l ++ rest) items))
    (stands_whole kept line c.args.bytes.now start rest stands c.requires c.split_at.ensures.by_index.0 full short))
    (extended c.extend_from_slice-2.result c.extend_from_slice.new.self.items rest c.extend_from_slice-2.new.self.items c.extend_from_slice-2.ensures.items)
