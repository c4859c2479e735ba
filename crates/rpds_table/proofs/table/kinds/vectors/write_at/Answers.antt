use Rattle.std.proofs.Common.{rules, List, [], ◌∷◌, ℕ, zero, suc, Option, None, Err, length, slice_get, arith, ◌≡◌, ◌≤◌}
use Rattle.std.proofs.lemmas.Bool.{le-ltb}
use Rattle.rpds_core.specs.ValueLends.{Tells}
use Rattle.rpds_core.specs.declared.lend.ValueMutError.{ValueMutError}
use Rattle.rpds_core.specs.declared.lend.ValueMutError.TheVariants.{Absent}
use Rattle.rpds_table.proofs.table.kinds.vectors.write_at.Goals as goal

pub returns : goal.returns
returns g c = search rules

-- what isn't found is out of range
past : {V : Type 0} (xs : List V) (p : ℕ) → slice_get xs p ≡ None → length xs ≤ p
past [] p e = omega arith
past (x ∷ xs) zero e = absurd (search (rules, e))
past (x ∷ xs) (suc p) e = omega (arith, past xs p e)

not_found : {V : Type 0} (found : Option V) (error : ValueMutError) → error ≡ Absent → Tells found (Err error) → found ≡ None
not_found found error is reported = rw is at reported

pub returns-in-Err-Absent : goal.returns-in-Err-Absent
returns-in-Err-Absent g c =
    let xs = c.args.vector.now.items in
    let p = c.args.position in
    let none : slice_get xs p ≡ None = not_found (slice_get xs p) c.in-Err-Absent.field-0 c.in-Err-Absent.field-0-is c.in-Err-Absent.ensures.returned in
    rw (le-ltb p (length xs) (past xs p none)) (search rules)
