use Rattle.rpds_hash.proofs.Words.{◌&&◌, Some, sym, ap, ◌∙◌, list_all, option_eq}
use Rattle.rpds_hash.proofs.PairsEqual.{is_found, value_found, stops, differ_by_len, equal_by_finds}
use Rattle.rpds_hash.proofs.map.hash_trie_map.compared.HashTrieMapPartialEq.eq.Goals as goal

pub returns-then-size : goal.returns-then-size
returns-then-size g c =
    sym (differ_by_len g.K.PartialEq.eq g.met.K.Eq.laws g.V.PartialEq.eq c.args.self.now.entries c.args.other.now.entries
    c.size.ensures.hashed.distinct c.size-2.ensures.hashed.distinct (λ e. c.if-size.true (c.size.ensures.count ∙ e ∙ sym c.size-2.ensures.count)))

pub loop-key-preserved : goal.loop-key-preserved
loop-key-preserved g c =
    let fs = c.args.other.now.entries in
    let found = is_found g.K.PartialEq.eq g.V.PartialEq.eq fs in
    let same = c.in-Some-get.ensures ∙ value_found g.K.PartialEq.eq g.met.K.Eq.laws c.in-Some.key.now fs in
    let holds = ap (λ r. option_eq g.V.PartialEq.eq (Some c.in-Some.value.now) r) (sym same) ∙ sym c.eq.ensures ∙ c.if-not-eq.false in
    ap (λ b. b && list_all found c.next.new.self) (sym holds) ∙ ap (list_all found) (sym c.in-Some.ensures.steps) ∙ c.loop-key.invariant

pub returns-then-not-eq : goal.returns-then-not-eq
returns-then-not-eq g c =
    let fs = c.args.other.now.entries in
    let found = is_found g.K.PartialEq.eq g.V.PartialEq.eq fs in
    let same = c.in-Some-get.ensures ∙ value_found g.K.PartialEq.eq g.met.K.Eq.laws c.in-Some.key.now fs in
    let fails = ap (λ r. option_eq g.V.PartialEq.eq (Some c.in-Some.value.now) r) (sym same) ∙ sym c.eq.ensures ∙ c.if-not-eq.true in
    stops found c.loop-key.key-iterator c.next.new.self (c.in-Some.key.now, c.in-Some.value.now) c.in-Some.ensures.steps fails
    ∙ c.loop-key.invariant ∙ ap (list_all found) (c.into_iter-key-iterator.ensures.into_iter_gives ∙ c.iter-key-items.ensures.rest)
    ∙ equal_by_finds g.K.PartialEq.eq g.met.K.Eq.laws g.V.PartialEq.eq c.args.self.now.entries fs
    c.size.ensures.hashed.distinct c.size-2.ensures.hashed.distinct (sym c.size.ensures.count ∙ c.if-size.false ∙ c.size-2.ensures.count)

pub returns-in-None-get : goal.returns-in-None-get
returns-in-None-get g c =
    let fs = c.args.other.now.entries in
    let found = is_found g.K.PartialEq.eq g.V.PartialEq.eq fs in
    let same = c.in-None-get.ensures ∙ value_found g.K.PartialEq.eq g.met.K.Eq.laws c.in-Some.key.now fs in
    stops found c.loop-key.key-iterator c.next.new.self (c.in-Some.key.now, c.in-Some.value.now) c.in-Some.ensures.steps
    (ap (λ r. option_eq g.V.PartialEq.eq (Some c.in-Some.value.now) r) (sym same))
    ∙ c.loop-key.invariant ∙ ap (list_all found) (c.into_iter-key-iterator.ensures.into_iter_gives ∙ c.iter-key-items.ensures.rest)
    ∙ equal_by_finds g.K.PartialEq.eq g.met.K.Eq.laws g.V.PartialEq.eq c.args.self.now.entries fs
    c.size.ensures.hashed.distinct c.size-2.ensures.hashed.distinct (sym c.size.ensures.count ∙ c.if-size.false ∙ c.size-2.ensures.count)

pub returns : goal.returns
returns g c =
    let fs = c.args.other.now.entries in
    let found = is_found g.K.PartialEq.eq g.V.PartialEq.eq fs in
    ap (list_all found) (sym c.in-None.ensures.steps.0)
    ∙ c.loop-key.invariant ∙ ap (list_all found) (c.into_iter-key-iterator.ensures.into_iter_gives ∙ c.iter-key-items.ensures.rest)
    ∙ equal_by_finds g.K.PartialEq.eq g.met.K.Eq.laws g.V.PartialEq.eq c.args.self.now.entries fs
    c.size.ensures.hashed.distinct c.size-2.ensures.hashed.distinct (sym c.size.ensures.count ∙ c.if-size.false ∙ c.size-2.ensures.count)
