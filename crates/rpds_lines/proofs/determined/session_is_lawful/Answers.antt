use Rattle.rpds_lines.proofs.SameSessions.{sessions_agree}
use Rattle.rpds_lines.proofs.determined.session_is_lawful.Goals as goal

pub returns : goal.returns
returns g c lines xs ys s t = sessions_agree lines xs ys s t
