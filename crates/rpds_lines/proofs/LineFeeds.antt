-- What a search for a line feed finds.
use Rattle.std.proofs.Common.{◌≡◌, ◌≢◌, ◌<◌, ◌+◌, ◌∙◌, ℕ, zero, suc, List, [], ◌∷◌, ◌++◌, Option, None, Some, MatchOption, length, take, drop, slice_index}
use Rattle.std.proofs.Common.{ap, subst, refl, arith}
use Rattle.std.proofs.Math.Seq.{take-length}
use Rattle.std.proofs.lemmas.Bool.{eqb-true}
use Rattle.std.proofs.lemmas.List.Elements.{All-nil, All-cons}
use Rattle.memchr.specs.Find.{IsFirstByte, Nowhere, Passes, is_byte}
use Rattle.rpds_lines.specs.Lines.{LacksLineFeed}

-- what stands before a place up to which no line feed stands
lacks_before : (bytes : List ℕ) (end : ℕ) → end < length bytes + 1 → Nowhere (Passes (is_byte 10) bytes) 0 end → LacksLineFeed (take end bytes)
lacks_before bytes zero fits none = All-nil (λ byte. byte ≢ 10)
lacks_before [] (suc end) fits none = All-nil (λ byte. byte ≢ 10)
lacks_before (byte ∷ bytes) (suc end) fits none =
    All-cons (λ byte. byte ≢ 10) byte (take end bytes) (λ is. none 0 (omega arith) (omega arith) (rw is refl))
    (lacks_before bytes end (omega (arith, fits)) (λ k low high. none (suc k) (omega arith) (omega (arith, high))))

-- bytes, cut at one of them
cut_at : (bytes : List ℕ) (end : ℕ) → end < length bytes → bytes ≡ take end bytes ++ slice_index bytes end ∷ drop (suc end) bytes
cut_at [] end fits = absurd (omega (arith, fits))
cut_at (byte ∷ bytes) zero fits = refl
cut_at (byte ∷ bytes) (suc end) fits = ap (λ rest. byte ∷ rest) (cut_at bytes end (omega (arith, fits)))

pub first_found : (bytes : List ℕ) (found : Option ℕ) → IsFirstByte (is_byte 10) bytes found
    → MatchOption found (LacksLineFeed bytes) (λ end. LacksLineFeed (take end bytes) × (end < length bytes)
    × (bytes ≡ take end bytes ++ 10 ∷ drop (end + 1) bytes))
first_found bytes None none = subst LacksLineFeed (take-length bytes) (lacks_before bytes (length bytes) (omega arith) none)
first_found bytes (Some end) first =
    let is : slice_index bytes end ≡ 10 = eqb-true (slice_index bytes end) 10 first.1 in
    let next : suc end ≡ end + 1 = omega arith in (
      lacks_before bytes end (omega (arith, first.0.high)) first.0.before,
      first.0.high,
      cut_at bytes end first.0.high
          ∙ (λ i. take end bytes ++ is i ∷ drop (next i) bytes),
    )
