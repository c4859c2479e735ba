use Rattle.rpds_lines.proofs.Numbers.{byte_is_read}
use Rattle.rpds_lines.proofs.parse.number.parse_byte.Goals as goal

pub returns : goal.returns
returns c = rw c.ok.ensures.value (byte_is_read c.args.word.now c.in_ok-parse_number.field-0 c.try_from.result c.in_ok-parse_number.ensures.0
    c.in_ok-parse_number.ensures.1 c.try_from.ensures)
