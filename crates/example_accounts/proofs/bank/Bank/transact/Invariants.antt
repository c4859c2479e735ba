use Rattle.std.proofs.Common.{◌≡◌, take}
use Rattle.std.specs.List.{fold}
use Rattle.std.specs.Map.{keys_of}
use Rattle.example_accounts.specs.Money.{moved, total}
use Rattle.example_accounts.proofs.bank.Bank.transact.Given as goal

abbrev pub invariant-loop-transfer : goal.invariant-loop-transfer
invariant-loop-transfer l = record {
  moved : l.balances.entries ≡ fold (λ balances t. moved t balances) l.self-inside.balances.entries (take l.transfer-index l.transfers);
  money : total l.balances.entries ≡ total l.self-inside.balances.entries;
  accounts : keys_of l.balances.entries ≡ keys_of l.self-inside.balances.entries;
}
