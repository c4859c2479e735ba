-- Small histories that show what the definitions mean; nothing cites them.
use Rattle.std.proofs.Common.{◌≡◌, ℕ, [], ◌∷◌, take, refl}
use Rattle.rpds_history.specs.HistoryContents.{Contents, GoesTo, contents, recorded, redone, undone, versions_of}

-- 1, then 2, then 3
abbrev three : Contents ℕ
three = recorded 3 (recorded 2 (contents [] 1 []))

at_three : three ≡ contents (2 ∷ 1 ∷ []) 3 []
at_three = refl

-- one back, two back, and no further
at_two : undone three ≡ contents (1 ∷ []) 2 (3 ∷ [])
at_two = refl

at_one : undone (undone three) ≡ contents [] 1 (2 ∷ 3 ∷ [])
at_one = refl

at_the_oldest : undone (undone (undone three)) ≡ undone (undone three)
at_the_oldest = refl

-- forth again, and no further
at_two_again : redone (undone (undone three)) ≡ undone three
at_two_again = refl

at_the_newest : redone three ≡ three
at_the_newest = refl

-- 4 in the place of 3, which can't be redone any more
forgotten : recorded 4 (undone three) ≡ contents (2 ∷ 1 ∷ []) 4 []
forgotten = refl

-- the versions by their numbers, wherever one is among them
all_versions : versions_of three ≡ 1 ∷ 2 ∷ 3 ∷ []
all_versions = refl

all_versions_back : versions_of (undone three) ≡ 1 ∷ 2 ∷ 3 ∷ []
all_versions_back = refl

oldest : GoesTo 0 three (contents [] 1 (2 ∷ 3 ∷ []))
oldest = record { versions = refl; place = refl; present = refl }

-- at most one before the present one
limited : versions_of (record three { past = take 1 (three.past) }) ≡ 2 ∷ 3 ∷ []
limited = refl
