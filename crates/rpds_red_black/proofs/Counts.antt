-- The counts after a comparison.
use Rattle.rpds_red_black.proofs.Words.{◌≡◌, ◌+◌, ap, sym, ◌∙◌, Steps}

-- one more comparison still adds to that count alone
pub compared_once : (old mid new : Steps) → mid ≡ record old { compared = mid.compared } → new ≡ record mid { compared = mid.compared + 1 } → new ≡ record old { compared = new.compared }
compared_once old mid new before e =
    e ∙ ap (λ (m : Steps). record m { compared = mid.compared + 1 }) before ∙ ap (λ k. record old { compared = k }) (sym (ap (λ (s : Steps). s.compared) e))

-- and so does one more node that is entered
pub visited_once : (old mid new : Steps) → mid ≡ record old { visited = mid.visited } → new ≡ record mid { visited = mid.visited + 1 } → new ≡ record old { visited = new.visited }
visited_once old mid new before e =
    e ∙ ap (λ (m : Steps). record m { visited = mid.visited + 1 }) before ∙ ap (λ k. record old { visited = k }) (sym (ap (λ (s : Steps). s.visited) e))

pub counted_once : (old new : Steps) → new ≡ record old { compared = old.compared + 1 } → new.compared ≡ old.compared + 1
counted_once old new e = ap (λ (s : Steps). s.compared) e
