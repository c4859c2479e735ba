use Rattle.std.proofs.Common.{ap, ◌∙◌, ◌<◌, slice_get, length, subst, arith}
use Rattle.rpds_table.specs.Outcomes.{greatest}
use Rattle.rpds_table.proofs.Lists.{slice_get_lent}
use Rattle.rpds_table.proofs.table.Table.find.Goals as goal

pub returns-clause-found : goal.returns-clause-found
returns-clause-found g c =
    slice_get_lent c.deref.result.now c.args.index c.get.result c.get.ensures.lookup.0 c.get.ensures.lookup.1
    ∙ ap (λ xs. slice_get xs c.args.index) c.deref.ensures.value ∙ ap (λ s. slice_get s.versions c.args.index) c.self.view_is

pub returns-clause-room : goal.returns-clause-room
returns-clause-room g c = subst (λ s. length s.versions < greatest) c.self.view_is (omega (
  arith,
  c.self.inside.versions.ok.0,
  c.self.inside.versions.ok.1,
  c.self.inside.versions.small,
))
