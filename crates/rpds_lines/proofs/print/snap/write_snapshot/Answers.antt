use Rattle.std.proofs.Common.{refl}
use Rattle.std.proofs.lemmas.Result.{on_ok_weaker}
use Rattle.rpds_snapshots.specs.declared.snapshots.refusal.SnapRefusal.TheVariants.{NoSnapshot}
use Rattle.rpds_lines.specs.Printed.{text_of_snap_refusal}
use Rattle.rpds_lines.proofs.Printed.{text_shown}
use Rattle.rpds_lines.proofs.Texts.{text_of_map}
use Rattle.rpds_lines.proofs.print.snap.write_snapshot.Goals as goal

pub returns-in-Some : goal.returns-in-Some
returns-in-Some g c =
    rw c.in-Some.is (text_shown _ (text_of_map c.in-Some.map.now.entries) (g.W.Write.contents c.args.writer.now) (g.W.Write.contents c.writeln.new.self)
    c.writeln.result c.writeln.ensures.bytes)

pub returns-in-None : goal.returns-in-None
returns-in-None g c =
    rw c.in-None.is (on_ok_weaker c.write_snap_refusal.result (λ appended. (text_of_snap_refusal NoSnapshot, refl, appended)) c.write_snap_refusal.ensures)
