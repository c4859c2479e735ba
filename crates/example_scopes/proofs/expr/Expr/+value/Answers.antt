use Rattle.example_scopes.proofs.Parts.{body_binds, body_tells, call_fails_argument, call_fails_function, call_tells, function_tells, let_fails, let_tells}
use Rattle.example_scopes.proofs.Parts.{name_tells, number_called, number_tells, one_more, sum_fails_left, sum_fails_right, sum_tells}
use Rattle.example_scopes.proofs.Parts.{too_deep}
use Rattle.example_scopes.proofs.expr.Expr.+value.Goals as goal

pub value-returns-in_err-depth : goal.value-returns-in_err-depth
value-returns-in_err-depth t c = too_deep c.args.depth {r = c.from_residual.result} c.in_err-depth.field-0.0 c.checked_sub.result c.checked_sub.ensures
    c.in_err-depth.ensures.ok_part c.from_residual.ensures.1

pub value-returns-in-Number : goal.value-returns-in-Number
value-returns-in-Number t c =
    let more = one_more c.args.depth c.in_ok-depth.depth c.checked_sub.result c.checked_sub.ensures c.in_ok-depth.ensures.ok_part in
    number_tells more c.in-Number.is

pub value-returns-in-Name : goal.value-returns-in-Name
value-returns-in-Name t c =
    let more = one_more c.args.depth c.in_ok-depth.depth c.checked_sub.result c.checked_sub.ensures c.in_ok-depth.ensures.ok_part in
    name_tells {r = c.look_up.result} more c.in-Name.is c.as_str.ensures.value c.look_up.ensures

pub value-returns-in_err-left-in-Sum : goal.value-returns-in_err-left-in-Sum
value-returns-in_err-left-in-Sum t c =
    let more = one_more c.args.depth c.in_ok-depth.depth c.checked_sub.result c.checked_sub.ensures c.in_ok-depth.ensures.ok_part in
    sum_fails_left {r = c.from_residual-in_err-left-in-Sum.result} more c.in-Sum.is c.deref.ensures c.in_err-left-in-Sum.ensures
    c.from_residual-in_err-left-in-Sum.ensures.1

pub value-returns-in_err-right-in-Sum : goal.value-returns-in_err-right-in-Sum
value-returns-in_err-right-in-Sum t c =
    let more = one_more c.args.depth c.in_ok-depth.depth c.checked_sub.result c.checked_sub.ensures c.in_ok-depth.ensures.ok_part in
    sum_fails_right {r = c.from_residual-in_err-right-in-Sum.result} more c.in-Sum.is c.deref.ensures c.deref-in-Sum.ensures c.in_ok-left-in-Sum.ensures
    c.in_err-right-in-Sum.ensures c.from_residual-in_err-right-in-Sum.ensures.1

pub value-returns-in_ok-right-in-Sum : goal.value-returns-in_ok-right-in-Sum
value-returns-in_ok-right-in-Sum t c =
    let more = one_more c.args.depth c.in_ok-depth.depth c.checked_sub.result c.checked_sub.ensures c.in_ok-depth.ensures.ok_part in
    sum_tells {result = c.plus.result} more c.in-Sum.is c.deref.ensures c.deref-in-Sum.ensures c.in_ok-left-in-Sum.ensures c.in_ok-right-in-Sum.ensures
    c.plus.ensures

pub value-returns-in_err-value-in-Let : goal.value-returns-in_err-value-in-Let
value-returns-in_err-value-in-Let t c =
    let more = one_more c.args.depth c.in_ok-depth.depth c.checked_sub.result c.checked_sub.ensures c.in_ok-depth.ensures.ok_part in
    let_fails {r = c.from_residual-in_err-value-in-Let.result} more c.in-Let.is c.deref-in-Let.ensures c.in_err-value-in-Let.ensures
    c.from_residual-in_err-value-in-Let.ensures.1

pub value-returns-in_ok-value-in-Let : goal.value-returns-in_ok-value-in-Let
value-returns-in_ok-value-in-Let t c =
    let more = one_more c.args.depth c.in_ok-depth.depth c.checked_sub.result c.checked_sub.ensures c.in_ok-depth.ensures.ok_part in
    let_tells {r = c.value_where.result} more c.in-Let.is c.deref-in-Let.ensures c.deref-in-Let-2.ensures c.as_str-in-Let.ensures.value
    c.in_ok-value-in-Let.ensures c.value_where.ensures

pub value-returns-in-Function : goal.value-returns-in-Function
value-returns-in-Function t c =
    let more = one_more c.args.depth c.in_ok-depth.depth c.checked_sub.result c.checked_sub.ensures c.in_ok-depth.ensures.ok_part in
    function_tells {own = c.as_str-in-Function.result} {b = c.deref-in-Function.result} more c.in-Function.is c.as_str-in-Function.ensures.value
    c.deref-in-Function.ensures

pub value-returns-in_err-value-in-Call : goal.value-returns-in_err-value-in-Call
value-returns-in_err-value-in-Call t c =
    let more = one_more c.args.depth c.in_ok-depth.depth c.checked_sub.result c.checked_sub.ensures c.in_ok-depth.ensures.ok_part in
    call_fails_function {r = c.from_residual-in_err-value-in-Call.result} more c.in-Call.is c.deref-in-Call.ensures c.in_err-value-in-Call.ensures
    c.from_residual-in_err-value-in-Call.ensures.1

pub value-returns-in-Number-2 : goal.value-returns-in-Number-2
value-returns-in-Number-2 t c =
    let more = one_more c.args.depth c.in_ok-depth.depth c.checked_sub.result c.checked_sub.ensures c.in_ok-depth.ensures.ok_part in
    number_called more c.in-Call.is c.deref-in-Call.ensures c.in_ok-value-in-Call.ensures c.in-Number-2.is

pub value-returns-in_err-argument-in-Closure : goal.value-returns-in_err-argument-in-Closure
value-returns-in_err-argument-in-Closure t c =
    let more = one_more c.args.depth c.in_ok-depth.depth c.checked_sub.result c.checked_sub.ensures c.in_ok-depth.ensures.ok_part in
    call_fails_argument {r = c.from_residual-in_err-argument-in-Closure.result} more c.in-Call.is c.deref-in-Call.ensures c.deref-in-Closure.ensures
    c.in_ok-value-in-Call.ensures c.in_err-argument-in-Closure.ensures
    c.from_residual-in_err-argument-in-Closure.ensures.1

pub value-returns-in_ok-argument-in-Closure : goal.value-returns-in_ok-argument-in-Closure
value-returns-in_ok-argument-in-Closure t c =
    let more = one_more c.args.depth c.in_ok-depth.depth c.checked_sub.result c.checked_sub.ensures c.in_ok-depth.ensures.ok_part in
    call_tells {r = c.value_where-in-Closure.result} more c.in-Call.is c.deref-in-Call.ensures c.deref-in-Closure.ensures c.in_ok-value-in-Call.ensures
    c.in-Closure.is c.in_ok-argument-in-Closure.ensures c.value_where-in-Closure.ensures

pub value_where-returns-in_err-inner : goal.value_where-returns-in_err-inner
value_where-returns-in_err-inner t c =
    body_binds {r = c.from_residual.result} c.bind.ensures.stay c.in_err-inner.ensures.binds c.from_residual.ensures.1

pub value_where-returns : goal.value_where-returns
value_where-returns t c = body_tells {r = c.value.result} c.bind.ensures.stay c.in_ok-inner.ensures.binds c.value.ensures
