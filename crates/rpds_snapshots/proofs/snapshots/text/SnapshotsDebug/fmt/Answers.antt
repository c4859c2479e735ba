use Rattle.std.proofs.Common.{List, ℕ, Ok, Option, Some, refl, subst}
use Rattle.std.proofs.Debugs.{shows_then, shows_from, displays_from}
use Rattle.std.specs.Prelude.{codes}
use Rattle.std.specs.Fmt.{◌++?◌, DisplaysOnOk, debug_list}
use Rattle.rpds_snapshots.specs.SnapshotText.{debug_text, text_of_map}
use Rattle.rpds_snapshots.proofs.snapshots.text.SnapshotsDebug.fmt.Goals as goal

pub returns : goal.returns
returns g c =
    let took = g.W.Write.write_str_gives in
    let key_text = g.K.Debug.debug_output in
    let value_text = g.V.Debug.debug_output in
    let start = c.args.f.now in
    let named = c.write_str.new.self in
    let shown = c.fmt.new.f in
    let between = c.write_str-2.new.self in
    let listed = c.fmt-2.new.f in
    let end = c.write_str-3.new.self in
    let current = text_of_map key_text value_text c.self.inside.current in
    let taken = debug_list (text_of_map key_text value_text) c.self.inside.taken.items in
    let closing = Some (codes " }") in
    record {
      writes = subst (λ s. DisplaysOnOk took start c.write_str-3.result (debug_text key_text value_text s) end) c.self.view_is
          (displays_from took start end c.write_str-3.result (Some (codes "Snapshots { current: ") ++? current ++? Some (codes ", taken: ") ++? taken ++?
          closing) (λ plain ok.
          shows_then took start named end (Some (codes "Snapshots { current: ")) (current ++? Some (codes ", taken: ") ++? taken ++? closing)
          (c.in_ok-write_str.ensures.writes plain refl) (λ p.
          shows_then took named shown end current (Some (codes ", taken: ") ++? taken ++? closing) (shows_from took named shown (Ok tt) current
          c.in_ok-fmt.ensures.writes p refl) (λ q.
          shows_then took shown between end (Some (codes ", taken: ")) (taken ++? closing) (c.in_ok-write_str-2.ensures.writes q refl) (λ r.
          shows_then took between listed end taken closing (shows_from took between listed (Ok tt) taken c.in_ok-fmt-2.ensures.writes r refl) (λ s.
          c.write_str-3.ensures.writes s ok))))));
    }
