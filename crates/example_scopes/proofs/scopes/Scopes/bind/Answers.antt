use Rattle.std.proofs.Common.{[], ◌∷◌, ap}
use Rattle.std.proofs.Math.Seq.{take-append_seam, take-length}
use Rattle.example_scopes.proofs.Values.{bound_at_end}
use Rattle.example_scopes.proofs.scopes.Scopes.bind.Goals as goal

pub returns-in_err-around-clause-stay : goal.returns-in_err-around-clause-stay
returns-in_err-around-clause-stay c = take-length c.args.self.now.all.items

pub returns-in_err-name-clause-stay : goal.returns-in_err-name-clause-stay
returns-in_err-name-clause-stay c = take-length c.args.self.now.all.items

pub returns-in_err-inner-clause-stay : goal.returns-in_err-inner-clause-stay
returns-in_err-inner-clause-stay c = take-length c.args.self.now.all.items

pub returns-in_err-push_back_mut-clause-stay : goal.returns-in_err-push_back_mut-clause-stay
returns-in_err-push_back_mut-clause-stay c = rw c.in_err-push_back_mut.ensures.err (take-length c.args.self.now.all.items)

pub returns-clause-stay : goal.returns-clause-stay
returns-clause-stay c = rw c.in_ok-push_back_mut.ensures.ok (take-append_seam c.args.self.now.all.items (c.in_ok-inner.inner ∷ []))

pub returns-clause-binds : goal.returns-clause-binds
returns-clause-binds c =
    bound_at_end c.args.self.now.all.items c.push_back_mut.new.self.items c.args.outer c.len-number.result c.in_ok-name.name c.args.name.now c.args.value
    c.get.result c.in_ok-around.around c.in_ok-inner.inner c.in_ok-name.ensures.ok (ap (λ v. v.items) c.in_ok-push_back_mut.ensures.ok) c.len-number.ensures.len c.get.ensures
    c.in_ok-around.ensures.ok_part c.in_ok-inner.ensures.found
