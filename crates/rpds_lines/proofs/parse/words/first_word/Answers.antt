use Rattle.std.proofs.Common.{◌≡◌, ◌∷◌, ◌∙◌, ◌-◌, take, ap, sym, arith}
use Rattle.std.proofs.lemmas.Str.{IsCharBoundary-after_ascii}
use Rattle.rpds_lines.specs.Words.{words_of}
use Rattle.rpds_lines.proofs.Spaces.{words_at_space, words_without_space}
use Rattle.rpds_lines.proofs.parse.words.first_word.Goals as goal

pub range_from-requires : goal.range_from-requires
range_from-requires c = λ _. IsCharBoundary-after_ascii c.args.line.now c.in-Some.end c.utf8.line c.in-Some.ensures.1 (omega (arith, c.in-Some.ensures.2))

pub returns-in-Some : goal.returns-in-Some
returns-in-Some c =
    let line = c.args.line.now in
    let end : c.in-Some.end - 0 ≡ c.in-Some.end = omega arith in
    let word = c.range.ensures.value ∙ ap (λ n. take n line) end in
    words_at_space line _ _ c.in-Some.ensures.0 c.in-Some.ensures.3 ∙ (λ i. sym word i ∷ words_of (sym c.range_from.ensures.value i))

pub returns-in-None : goal.returns-in-None
returns-in-None c = words_without_space c.args.line.now c.in-None.ensures
