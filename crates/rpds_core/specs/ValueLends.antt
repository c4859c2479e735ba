-- A place, such as a tree, that hands out a `&mut` to one of its values: what the place is once that reference has
-- ended.
use Rattle.std.specs.Prelude.{◌≡◌, ℕ, List, codes, Option, Some, None, Result, Ok, Err, IsOk, ◌⊎◌}
use Rattle.std.specs.declared.alloc.AllocError.{AllocError}
use Rattle.std.specs.declared.io.ErrorKind.{ErrorKind}
use Rattle.std.specs.declared.io.ErrorKind.TheVariants.{NotFound, OutOfMemory}
use Rattle.std.specs.Borrow.{Fml, RattleType, MutBor, follows_so, name_if_ok}
use Rattle.rpds_core.specs.declared.lend.ValueMutError.{ValueMutError}
use Rattle.rpds_core.specs.declared.lend.ValueMutError.TheVariants.{Absent, NoMemory}

-- what the result says: a reference is to the value that is found there, `Absent` means that nothing is, and `NoMemory`
-- may come either way
abbrev pub Tells : {V : Type 0} → Option V → Result (MutBor V) ValueMutError → Type 0
Tells found (Ok r) = found ≡ Some r.now
Tells found (Err Absent) = found ≡ None
Tells found (Err NoMemory) = Unit {0}

-- the same result, with the reason why a descent stopped in place of the error
abbrev pub with_reason : {R E : Type 0} → ValueMutError → Result R E → Result R ValueMutError
with_reason why (Ok r) = Ok r
with_reason why (Err e) = Err why

-- what is printed of an error
abbrev pub error_text : ValueMutError → List ℕ
error_text Absent = codes "nothing is stored there"
error_text NoMemory = codes "no memory"

-- the kind of the `io::Error` that an error becomes
abbrev pub kind_of_error : ValueMutError → ErrorKind
kind_of_error Absent = NotFound
kind_of_error NoMemory = OutOfMemory

-- the same result, where `None` says that nothing is stored there
abbrev pub if_stored : {R : Type 0} → Result R ValueMutError → Result (Option R) AllocError
if_stored (Ok r) = Ok (Some r)
if_stored (Err Absent) = Ok None
if_stored (Err NoMemory) = Err (record {})

-- Once the reference in r has ended, the place p is `written v`, where v is the last value that was written through
-- it. Where r has no reference, p stays as it is. (In the formula d is what p ends as. Whether r has a reference is
-- known in the first part alone; the second, that d is one of the two, is what an invariant of p is shown from.)
abbrev pub lends_value : (P V : RattleType) → MutBor P.Denot → (V.Denot → P.Denot) → {E : Type 0} → Result (MutBor V.Denot) E → Fml
lends_value P V p written r = follows_so P V p.ghost_name (name_if_ok (λ x. x.ghost_name) r) (λ v d. (IsOk r → d ≡ written v) × ((d ≡ written v) ⊎ (d ≡ p.now))) (λ d. d ≡ p.now)
