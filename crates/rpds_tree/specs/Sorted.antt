-- Lists whose keys are to ascend.
use Rattle.std.specs.Prelude.{ℕ, ◌≡◌, ◌≢◌, ◌+◌, not, Option, Some, None, Result, Ok, Err, List, ◌++◌, drop, take, slice_get, codes, decimal}
use Rattle.std.specs.List.{position_from, zip}
use Rattle.std.specs.List.Sorted.{IsStrictlySortedBy}
use Rattle.std.specs.Ordering.{is_lt}
use Rattle.std.specs.declared.cmp.Ordering.{Ordering}
use Rattle.std.specs.declared.cmp.Ordering.TheVariants.{Less}
use Rattle.std.specs.declared.io.ErrorKind.{ErrorKind}
use Rattle.std.specs.declared.io.ErrorKind.TheVariants.{InvalidInput, OutOfMemory}
use Rattle.rpds_tree.specs.declared.sorted.SortedError.{SortedError}
use Rattle.rpds_tree.specs.declared.sorted.SortedError.TheVariants.{NotAscending, NoMemory}

-- the position, from 0, of the first key that isn't above the one before it
unfoldable pub first_out_of_order : {K : Type 0} → (K → K → Ordering) → List K → Option ℕ
first_out_of_order R keys = position_from (λ p. not (is_lt (R p.0 p.1))) 1 (zip keys (drop 1 keys))

-- the keys before the position ascend, and the one there isn't above the last of them
pub record IsFirstOutOfOrder {K : Type 0} (R : K → K → Ordering) (position : ℕ) (keys : List K) : Type 0 where
  pub before : ℕ
  pub last : K
  pub key : K
  pub next : position ≡ before + 1
  pub last_at : slice_get keys before ≡ Some last
  pub key_at : slice_get keys position ≡ Some key
  pub out_of_order : R last key ≢ Less
  pub ascending : IsStrictlySortedBy R (take position keys)

-- the position that a refusal reports
abbrev pub reported_position : {T : Type 0} → Result T SortedError → Option ℕ
reported_position (Ok x) = None
reported_position (Err (NotAscending at)) = Some at
reported_position (Err NoMemory) = None

-- what is printed of an error
abbrev pub error_text : SortedError → List ℕ
error_text (NotAscending at) = codes "item " ++ (decimal at ++ codes " isn't above the one before it")
error_text NoMemory = codes "no memory"

-- the kind of the `io::Error` that an error becomes
abbrev pub kind_of_error : SortedError → ErrorKind
kind_of_error (NotAscending at) = InvalidInput
kind_of_error NoMemory = OutOfMemory
