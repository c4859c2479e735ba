use Rattle.std.proofs.Common.{Ok, Some, refl}
use Rattle.std.specs.Prelude.{codes}
use Rattle.std.specs.Fmt.{◌++?◌}
use Rattle.std.proofs.Debugs.{shows_then, shows_from, displays_from}
use Rattle.rpds_core.proofs.debug.PairInDebugDisplay.fmt.Goals as goal

pub returns-clause-writes : goal.returns-clause-writes
returns-clause-writes g c =
    let took = g.W.Write.write_str_gives in
    let start = c.args.f.now in
    let named = c.fmt.new.f in
    let between = c.write_str.new.self in
    let end = c.fmt-2.new.f in
    let key = g.K.Debug.debug_output c.args.self.now.key.now in
    let value = g.V.Debug.debug_output c.args.self.now.value.now in
    displays_from took start end c.fmt-2.result (key ++? Some (codes ": ") ++? value) (λ plain ok.
    shows_then took start named end key (Some (codes ": ") ++? value) (shows_from took start named (Ok tt) key c.in_ok-fmt.ensures.writes plain refl) (λ p.
    shows_then took named between end (Some (codes ": ")) value (c.in_ok-write_str.ensures.writes p refl) (λ q.
    shows_from took between end c.fmt-2.result value c.fmt-2.ensures.writes q ok)))
