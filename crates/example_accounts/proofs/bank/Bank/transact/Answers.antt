use Rattle.std.proofs.Common.{rules, refl}
use Rattle.example_accounts.proofs.bank.Bank.transact.Goals as goal

pub same-self-in_err-transfer_money : goal.same-self-in_err-transfer_money
same-self-in_err-transfer_money c = refl

pub returns-in_err-transfer_money-clause-err : goal.returns-in_err-transfer_money-clause-err
returns-in_err-transfer_money-clause-err c = search rules
