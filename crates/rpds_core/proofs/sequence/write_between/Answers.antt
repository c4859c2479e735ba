use Rattle.std.proofs.Common.{[], ap, ◌∙◌}
use Rattle.std.specs.Fmt.{debug_items}
use Rattle.rpds_core.proofs.SeenTexts.{plain_between, styled_between}
use Rattle.rpds_core.proofs.sequence.write_between.Goals as goal

pub returns-clause-writes : goal.returns-clause-writes
returns-clause-writes g c = λ see rest text shows agrees.
    plain_between g.W.Write.write_str_gives c.args.opening.now c.args.closing.now (debug_items text [] (rest c.args.items))
    c.args.f.now c.write_str.new.self c.write_items.new.f c.write_str-2.new.self c.write_str-2.result
    c.in_ok-write_str.ensures.writes (c.in_ok-write_items.ensures.writes see rest text shows agrees) c.write_str-2.ensures.writes

pub returns-clause-styled : goal.returns-clause-styled
returns-clause-styled g c = λ see rest text shows agrees.
    styled_between g.W.Write.write_str_gives c.args.opening.now c.args.closing.now (debug_items text [] (rest c.args.items))
    c.args.f.now c.write_str.new.self c.write_items.new.f c.write_str-2.new.self c.write_str-2.result
    c.in_ok-write_str.ensures.styled
    (λ e. c.in_ok-write_items.ensures.styled see rest text shows (λ x. ap (λ s. g.X.Display.styled_output x s) e ∙ agrees x))
    c.write_str-2.ensures.styled
