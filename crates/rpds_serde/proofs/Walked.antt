-- What `write` says of walks whose value is a list.
use Rattle.std.proofs.Common.{◌≡◌, ℕ, List, length, ap, sym, subst, ◌∙◌}
use Rattle.std.specs.Iterator.{YieldsFirstBy}
use Rattle.rpds_core.specs.Sequence.{ShowsList}

pub walked : {X T : Type 0} (see : X → T) (P : List T → Type 0) {n : ℕ} {left all : List T}
    → ((rest : List T → List T) → ShowsList (YieldsFirstBy see (λ w. w)) see rest → n ≡ length (rest left) → P (rest left))
    → left ≡ all → n ≡ length all → P all
walked see P told e len = subst P e (told (λ w. w) (λ old result new h. h) (len ∙ ap length (sym e)))
