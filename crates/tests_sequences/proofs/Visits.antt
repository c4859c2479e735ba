-- The width of a vector, computed.
use Rattle.std.proofs.Common.{◌≡◌, ℕ, ◌+◌, length, refl, ap, ◌∙◌}
use Rattle.rpds_core.specs.declared.steps.Steps.{Steps}
use Rattle.rpds_vector.specs.VectorContents.{Contents}
use Rattle.tests_sequences.specs.Visits.{VisitsAmong, VisitsRows}
use Rattle.rpds_vector.specs.Width.{width}

module _ {T : Type 0} (v : Contents T) (old new : Steps) (h : new.visited ≡ old.visited + width (length v.items) v.bits) where
  among : (bits len nodes : ℕ) → width len bits ≡ nodes → VisitsAmong v old new bits len nodes
  among bits len nodes e = λ same_bits same_len. h ∙ ap (λ n. old.visited + n) (rw (same_bits, same_len) e)

  pub visits_rows : VisitsRows v old new
  unfolding width
  visits_rows = (
    among 1 1 1 refl,
    among 1 2 1 refl,
    among 1 3 2 refl,
    among 1 4 2 refl,
    among 1 5 3 refl,
    among 1 1025 11 refl,
    among 2 16 2 refl,
    among 2 17 3 refl,
    among 5 32 1 refl,
    among 5 33 2 refl,
    among 5 1024 2 refl,
    among 5 1025 3 refl,
    among 63 2 1 refl,
    among 63 1000 1 refl,
  )
