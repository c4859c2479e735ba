-- How many nodes of a path are made again.
use Rattle.std.specs.Prelude.{◌≡◌, ℕ, ◌+◌, ◌-◌, ◌<◌, ◌%◌}
use Rattle.rpds_core.specs.declared.steps.Steps.{Steps}
use Rattle.rpds_vector.specs.Trie.{span}

-- As many nodes were made as there are `levels`, less the `alone` lowest of the path to the last of n items, in which that
-- item stands alone: the last position is a multiple of what they have room for, and of no more.
pub record IsRemadeBut (alone bits n levels : ℕ) (old new : Steps) : Type 0 where
  pub lowest : (n - 1) % span bits alone ≡ 0
  pub next : 0 < (n - 1) % span bits (alone + 1)
  pub made : new.made + alone ≡ old.made + levels
