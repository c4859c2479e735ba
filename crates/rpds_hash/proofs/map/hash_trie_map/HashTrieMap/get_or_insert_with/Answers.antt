use Rattle.std.specs.Fn.{FnOnceReturns}
use Rattle.rpds_hash.proofs.Words.{◌≡◌, None, Ok, true, refl, inl, inr, sym, ◌∙◌, is_some, option_map, find, IfOk-weaker}
use Rattle.rpds_hash.proofs.Filled.{absent_of, filled_new, filled_there, on_err, told_new, told_there}
use Rattle.rpds_hash.proofs.map.hash_trie_map.HashTrieMap.get_or_insert_with.Goals as goal

pub returns-then-contains_key : goal.returns-then-contains_key
returns-then-contains_key g c =
    let m = c.args.self.now in
    let eq = g.K.PartialEq.eq in
    let there : is_some (find eq c.args.key m.entries) ≡ true = sym c.contains_key.ensures ∙ c.if-contains_key.true in (
      (refl, λ w ok. filled_there eq c.args.key m w there, on_err c.stored_mut.result (inl refl)),
      record {
        writes_back = tt;
        returned = IfOk-weaker c.stored_mut.result _ _
            (λ r is. told_there (FnOnceReturns g.F.FnOnce c.args.make tt (Ok r.now)) (option_map (λ p. p.1) (find eq c.args.key m.entries)) r.now is)
            c.stored_mut.ensures.returned;
      },
    )

pub returns : goal.returns
returns g c =
    let m = c.args.self.now in
    let eq = g.K.PartialEq.eq in
    let law = g.met.K.Eq.laws in
    let new = c.put_made.new.self in
    let none : find eq c.args.key m.entries ≡ None = absent_of _ (sym c.contains_key.ensures ∙ c.if-contains_key.false) in
    let made = c.in_ok-put_made.ensures.ok in
    rw c.in_ok-probe.ensures (
      (
        refl,
        λ w ok. filled_new law c.args.key m new made.0 made.2 w none c.prove_sound.ensures.distinct c.prove_sound-2.ensures.distinct,
        on_err c.stored_mut-2.result (inr (record { absent = none; value = made.0; made = made.1; put = made.2 })),
      ),
      record {
        writes_back = tt;
        returned = IfOk-weaker c.stored_mut-2.result _ _
            (λ r is. told_new law c.args.key m new made.0 made.2 (λ v. FnOnceReturns g.F.FnOnce c.args.make tt (Ok v)) r.now none made.1 is)
            (rw c.in_ok-probe.ensures at c.stored_mut-2.ensures.returned);
      },
    )
