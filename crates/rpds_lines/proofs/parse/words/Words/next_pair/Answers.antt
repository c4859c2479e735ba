use Rattle.std.proofs.Common.{rules}
use Rattle.rpds_lines.proofs.parse.words.Words.next_pair.Goals as goal

pub returns : goal.returns
returns c = search rules
