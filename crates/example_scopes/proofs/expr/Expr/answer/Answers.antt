use Rattle.std.proofs.Common.{◌≡◌, ◌⊎◌, ◌∙◌, None, Some, ap, sym}
use Rattle.std.specs.Result.{IfErr}
use Rattle.example_scopes.specs.declared.expr.TheConstants.{DEPTH}
use Rattle.example_scopes.specs.declared.expr.Fault.TheVariants.{NoMemory}
use Rattle.example_scopes.specs.Meaning.{meaning, nothing}
use Rattle.example_scopes.proofs.Parts.{answers, passed}
use Rattle.example_scopes.proofs.expr.Expr.answer.Goals as goal

pub returns-clause-ok : goal.returns-clause-ok
returns-clause-ok c = answers c.in_ok-scopes.ensures c.in_ok-value.ensures ∙ ap Some (sym c.number.ensures)

pub returns-in_err-value-clause-err : goal.returns-in_err-value-clause-err
returns-in_err-value-clause-err c =
    passed (λ r. IfErr r (λ fault. (fault ≡ NoMemory) ⊎ (meaning DEPTH nothing c.args.self.now ≡ None))) c.from_residual-in_err-value.result
    c.in_err-value.field-0.0 c.from_residual-in_err-value.ensures.1 (c.in_err-value.ensures.tells nothing c.in_ok-scopes.ensures)
