use Rattle.std.proofs.Common.{sym, ◌∙◌}
use Rattle.std.specs.Cmp.Lexicographic.{pointwise, unequal}
use Rattle.rpds_core.proofs.KnownLists.{item, compares}
use Rattle.rpds_list.proofs.queue.compared.QueuePartialEq.eq.Goals as goal

pub returns-then-len : goal.returns-then-len
returns-then-len g c = sym (unequal g.T.PartialEq.eq c.args.self.now.items c.args.other.now.items (λ e. c.if-len.true (c.len.ensures.len ∙ e ∙ sym c.len-2.ensures.len)))

pub returns : goal.returns
returns g c = compares item pointwise g.T.PartialEq.eq c.equal.ensures c.from_front.ensures c.from_front-2.ensures
