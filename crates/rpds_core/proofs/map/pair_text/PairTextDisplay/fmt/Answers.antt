use Rattle.std.proofs.Common.{Ok, Some, refl, subst, ◌∙◌}
use Rattle.std.specs.Prelude.{codes}
use Rattle.std.specs.Fmt.{◌++?◌, DisplaysStyledOnOk}
use Rattle.std.proofs.Debugs.{shows_then, shows_from, displays_from}
use Rattle.rpds_core.proofs.Texts.{styled_then, styled_from, styled_displays}
use Rattle.rpds_core.proofs.map.pair_text.PairTextDisplay.fmt.Goals as goal

pub returns-clause-writes : goal.returns-clause-writes
returns-clause-writes g c =
    let took = g.W.Write.write_str_gives in
    let start = c.args.f.now in
    let named = c.fmt.new.f in
    let between = c.write_str.new.self in
    let end = c.fmt-2.new.f in
    let key = g.K.Display.output c.args.self.now.key.now in
    let value = g.V.Display.output c.args.self.now.value.now in
    displays_from took start end c.fmt-2.result (key ++? Some (codes ": ") ++? value) (λ plain ok.
    shows_then took start named end key (Some (codes ": ") ++? value) (shows_from took start named (Ok tt) key c.in_ok-fmt.ensures.writes plain refl) (λ p.
    shows_then took named between end (Some (codes ": ")) value (c.in_ok-write_str.ensures.writes p refl) (λ q.
    shows_from took between end c.fmt-2.result value c.fmt-2.ensures.writes q ok)))

pub returns-clause-styled : goal.returns-clause-styled
returns-clause-styled g c =
    let took = g.W.Write.write_str_gives in
    let start = c.args.f.now in
    let named = c.fmt.new.f in
    let between = c.write_str.new.self in
    let end = c.fmt-2.new.f in
    let key = g.K.Display.styled_output c.args.self.now.key.now start.spec in
    let value = g.V.Display.styled_output c.args.self.now.value.now start.spec in
    styled_displays took start end c.fmt-2.result (key ++? Some (codes ": ") ++? value) (λ flush ok.
    styled_then took start named end key (Some (codes ": ") ++? value) (styled_from took start named (Ok tt) key c.in_ok-fmt.ensures.styled flush refl) (λ p e.
    styled_then took named between end (Some (codes ": ")) value (c.in_ok-write_str.ensures.styled p refl) (λ q d.
    styled_from took between end c.fmt-2.result value (subst (λ s. DisplaysStyledOnOk took between c.fmt-2.result (g.V.Display.styled_output c.args.self.now.value.now s) end) (d ∙ e) c.fmt-2.ensures.styled) q ok)))
