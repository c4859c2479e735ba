use Rattle.std.proofs.Common.{sym, ◌∙◌}
use Rattle.std.specs.Cmp.Lexicographic.{pointwise, unequal}
use Rattle.rpds_core.proofs.KnownLists.{item, compares}
use Rattle.rpds_list.proofs.list.compared.ListPartialEq.eq.Goals as goal

pub returns-then-len : goal.returns-then-len
returns-then-len g c = sym (unequal g.T.PartialEq.eq c.args.self.now c.args.other.now (λ e. c.if-len.true (c.len.ensures ∙ e ∙ sym c.len-2.ensures)))

pub returns : goal.returns
returns g c = compares item pointwise g.T.PartialEq.eq c.equal.ensures c.iter.ensures c.iter-2.ensures
