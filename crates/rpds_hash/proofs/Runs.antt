-- What all calls of a walk give together.
use Rattle.std.proofs.Common.{length, ap}
use Rattle.std.proofs.iter.runs.Sources.{from_front}
use Rattle.std.specs.Map.Iter.{TakesFirst, ShowsInOrder}

module _ {A X : Type 0} (shows : A → X) where
  pub shows_in_order : ShowsInOrder shows
  shows_in_order = from_front (TakesFirst shows) shows (λ s. s) (λ s t h. ap length h.0) (λ s x t h. h)
