use Rattle.std.proofs.Common.{inl}
use Rattle.std.specs.Fn.{FnOnceReturns}
use Rattle.rpds_tree.proofs.Words.{◌≡◌, None, Ok, true, refl, inr, sym, ◌∙◌, is_some, option_map, find, IfOk-weaker}
use Rattle.rpds_tree.proofs.Filled.{absent_of, filled_new, filled_there, on_err, told_new, told_there}
use Rattle.rpds_tree.proofs.map.red_black_tree_map.RedBlackTreeMap.get_or_insert_with.Goals as goal

pub returns-then-contains_key : goal.returns-then-contains_key
returns-then-contains_key g c =
    let m = c.args.self.now in
    let there : is_some (find g.K.Ord.cmp c.args.key m.entries) ≡ true = sym c.contains_key.ensures ∙ c.if-contains_key.true in (
      (refl, λ w ok. filled_there c.args.key m w there c.size-size.ensures.ordered.shallow, on_err c.stored_mut.result (inl refl)),
      record {
        writes_back = tt;
        returned = IfOk-weaker c.stored_mut.result _ _
            (λ r is. told_there (FnOnceReturns g.F.FnOnce c.args.make tt (Ok r.now)) (option_map (λ p. p.1) (find g.K.Ord.cmp c.args.key m.entries)) r.now is) c.stored_mut.ensures.returned;
      },
    )

pub returns : goal.returns
returns g c =
    let m = c.args.self.now in
    let new = c.put_made.new.self in
    let total = g.met.K.Ord.total in
    let none : find g.K.Ord.cmp c.args.key m.entries ≡ None = absent_of _ (sym c.contains_key.ensures ∙ c.if-contains_key.false) in
    let made = c.in_ok-put_made.ensures.ok in
    rw c.in_ok-probe.ensures (
      (
        refl,
        λ w ok. filled_new c.args.key total m new made.0 w none made.2 c.in_ok-put_made.ensures.depth,
        on_err c.stored_mut-2.result (inr (record { absent = none; value = made.0; made = made.1; entries = made.2 })),
      ),
      record {
        writes_back = tt;
        returned = IfOk-weaker c.stored_mut-2.result _ _
            (λ r is. told_new c.args.key total (λ v. FnOnceReturns g.F.FnOnce c.args.make tt (Ok v)) m.entries new.entries made.0 r.now none made.2 made.1 is)
            (rw c.in_ok-probe.ensures at c.stored_mut-2.ensures.returned);
      },
    )
