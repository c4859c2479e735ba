use Rattle.rpds_red_black.proofs.Words.{◌+◌, ◌≤◌, take, IsWithin, pairs_lent, IsAboveAll}
use Rattle.rpds_red_black.proofs.combine_few.cut_slice.Given as goal

-- the entries that were passed are below the key, and each was compared once
abbrev pub invariant-loop-place : goal.invariant-loop-place
invariant-loop-place g l = record {
  below : IsAboveAll g.K.Ord.cmp l.key (pairs_lent (take l.place l.few));
  compared : IsWithin l.place 0 l.initial.steps l.steps;
  compares : l.initial.steps.compared + l.place ≤ l.steps.compared;
}
