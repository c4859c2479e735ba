use Rattle.std.proofs.Common.{refl}
use Rattle.std.proofs.lemmas.Result.{on_ok_weaker}
use Rattle.rpds_table.specs.Kinds.{version_of_ref}
use Rattle.rpds_table.specs.declared.table.refusal.Refusal.TheVariants.{NoVersion}
use Rattle.rpds_lines.specs.Printed.{text_of_refusal}
use Rattle.rpds_lines.proofs.Printed.{text_shown}
use Rattle.rpds_lines.proofs.Texts.{text_of_version}
use Rattle.rpds_lines.proofs.print.write_version.Goals as goal

pub returns-in-Some : goal.returns-in-Some
returns-in-Some g c =
    rw c.in-Some.is (text_shown _ (text_of_version (version_of_ref c.in-Some.version)) (g.W.Write.contents c.args.writer.now)
    (g.W.Write.contents c.writeln.new.self)
    c.writeln.result c.writeln.ensures.bytes)

pub returns-in-None : goal.returns-in-None
returns-in-None g c =
    rw c.in-None.is (on_ok_weaker c.write_refusal.result (λ appended. (text_of_refusal NoVersion, refl, appended)) c.write_refusal.ensures)
