use Rattle.std.proofs.Common.{rules, ◌≡◌, ◌∙◌, Option, None, Some, slice_get, ap, sym, refl}
use Rattle.std.specs.Option.{option_copied}
use Rattle.rpds_snapshots.proofs.snapshots.Snapshots.go_back.Goals as goal

none_there : {X : Type 0} (o : Option X) → ((x : X) → o ≡ Some x → ⊥) → o ≡ None
none_there None absent = refl
none_there (Some x) absent = absurd (absent x refl)

pub returns : goal.returns
returns g c =
    let found : slice_get c.args.self.now.taken c.args.index ≡ Some c.in-Some.kept.now = sym c.at.ensures ∙ ap option_copied c.in-Some.is in
    (rw found refl, (refl, search (rules, found), search rules))

pub returns-in_default : goal.returns-in_default
returns-in_default g c =
    let none : slice_get c.args.self.now.taken c.args.index ≡ None = sym c.at.ensures ∙ ap option_copied (none_there c.at.result c.in_default.not-Some) in
    (rw none refl, refl)

pub returns-in_default-clone : goal.returns-in_default-clone
returns-in_default-clone g c =
    let found : slice_get c.args.self.now.taken c.args.index ≡ Some c.in-Some.kept.now = sym c.at.ensures ∙ ap option_copied c.in-Some.is in
    (rw found (refl, tt), refl)
