use Rattle.rpds_red_black.proofs.Words.{rules, ◌≡◌, arith, added_by}
use Rattle.rpds_red_black.proofs.insert.count_added.Goals as goal

pub returns-in-Ok-Replaced : goal.returns-in-Ok-Replaced
returns-in-Ok-Replaced c = λ small. (let none : added_by c.args.grown.now ≡ 0 = search rules in omega (arith, small, none))

pub returns-in-Err : goal.returns-in-Err
returns-in-Err c = λ small. (let none : added_by c.args.grown.now ≡ 0 = search rules in omega (arith, small, none))
