use Rattle.std.proofs.Common.{◌≡◌, ◌<◌, ℕ, List, [], ◌∷◌, Some, get_or, slice_get, length, ap, sym, ◌∙◌, arith, rules}
use Rattle.std.proofs.lemmas.Str.{IsCharBoundary-after_ascii}
use Rattle.rpds_lines.proofs.parse.bound.strip_byte.Goals as goal

has_first : (bytes : List ℕ) (first : ℕ) → Some first ≡ slice_get bytes 0 → 0 < length bytes
has_first [] first is = search rules
has_first (byte ∷ bytes) first is = omega arith

pub range_from-requires : goal.range_from-requires
range_from-requires c =
    let word = c.args.word.now in
    let first : get_or word 0 0 ≡ c.in-Some.first.now = ap (λ l. get_or l 0 0) (sym c.as_bytes.ensures.value) ∙ sym (c.in-Some.ensures.item.3.1 0) in
    let some : 0 < length word = omega (arith, has_first _ _ c.in-Some.ensures.value, ap length c.as_bytes.ensures.value) in
    λ _. IsCharBoundary-after_ascii word 0 c.utf8.word some (omega (arith, first, c.requires, c.if-first-byte.true))
