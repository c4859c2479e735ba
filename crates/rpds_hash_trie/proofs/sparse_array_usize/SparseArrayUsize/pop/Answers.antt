use Rattle.std.proofs.Common.{refl, sym, ◌∙◌, ◌≡◌, length, vec_len, rules, arith}
use Rattle.rpds_hash_trie.specs.Places.{placed}
use Rattle.rpds_hash_trie.proofs.ArrayGet.{placed_none}
use Rattle.rpds_hash_trie.proofs.ArrayPop.{some_bit, count_popped, popped, last_more, front_more}
use Rattle.rpds_hash_trie.proofs.sparse_array_usize.SparseArrayUsize.pop.Goals as goal

pub returns-in_default-clause-last : goal.returns-in_default-clause-last
returns-in_default-clause-last g c =
    let size : vec_len c.self.inside.items ≡ length c.self.inside.items.items = search rules in
    rw (← c.self.view_is, placed_none c.self.inside.items.items (sym size ∙ c.in_default.ensures.cases.0) c.self.inside.bitmap) refl

pub returns-in_default-clause-rest : goal.returns-in_default-clause-rest
returns-in_default-clause-rest g c =
    let size : vec_len c.self.inside.items ≡ length c.self.inside.items.items = search rules in
    let left : vec_len c.pop.new.self ≡ length c.pop.new.self.items = search rules in
    rw (← c.self.view_is, placed_none c.self.inside.items.items (sym size ∙ c.in_default.ensures.cases.0) c.self.inside.bitmap)
    (placed_none c.pop.new.self.items (sym left ∙ c.in_default.ensures.cases.1) c.self.inside.bitmap)

pub ilog2-requires : goal.ilog2-requires
ilog2-requires g c =
    let size : vec_len c.self.inside.items ≡ length c.self.inside.items.items = search rules in
    some_bit c.self.inside.bitmap (length c.self.inside.items.items) c.self.invariant (omega (arith, c.in-Some.ensures.cases, size))

pub invariant_of-self-2 : goal.invariant_of-self-2
invariant_of-self-2 g c =
    let l = c.ilog2.ensures in
    count_popped c.self.inside.bitmap c.ilog2.result c.self.inside.items.items c.pop.new.self.items c.in-Some.item c.in-Some.ensures.items c.self.invariant l.bound l.power_le l.next_power_gt

pub returns-clause-last : goal.returns-clause-last
returns-clause-last g c =
    let l = c.ilog2.ensures in
    let is = popped c.self.inside.bitmap c.ilog2.result c.self.inside.items.items c.pop.new.self.items c.in-Some.item c.in-Some.ensures.items c.self.invariant l.bound l.power_le l.next_power_gt in
    rw (← c.self.view_is, is) (sym (last_more (placed _ c.pop.new.self.items) c.ilog2.result c.in-Some.item))

pub returns-clause-rest : goal.returns-clause-rest
returns-clause-rest g c =
    let l = c.ilog2.ensures in
    let is = popped c.self.inside.bitmap c.ilog2.result c.self.inside.items.items c.pop.new.self.items c.in-Some.item c.in-Some.ensures.items c.self.invariant l.bound l.power_le l.next_power_gt in
    rw (← c.self.view_is, is) (sym (front_more (placed _ c.pop.new.self.items) (c.ilog2.result, c.in-Some.item)))
