-- What the accounts hold.
use Rattle.std.specs.Prelude.{ℕ, ◌+◌, ◌-◌, Option, unwrap_or, option_map, List, sum_by}
use Rattle.std.specs.Ordering.{nat_cmp}
use Rattle.rpds.specs.Pairs.{find, put}
use Rattle.example_accounts.specs.declared.bank.Transfer.{Transfer}

-- all that they hold together
abbrev pub total : List (ℕ × ℕ) → ℕ
total balances = sum_by (λ account. account.1) balances

abbrev pub balance_of : ℕ → List (ℕ × ℕ) → Option ℕ
balance_of account balances = option_map (λ p. p.1) (find nat_cmp account balances)

-- the balances where one is a function of what it was
abbrev pub changed : (ℕ → ℕ) → ℕ → List (ℕ × ℕ) → List (ℕ × ℕ)
changed change account balances =
    put nat_cmp (account, change (unwrap_or (balance_of account balances) 0)) balances

-- the amount of a transfer taken off one account, and then added to the other
abbrev pub moved : Transfer → List (ℕ × ℕ) → List (ℕ × ℕ)
moved t balances =
    changed (λ balance. balance + t.amount) t.to (changed (λ balance. balance - t.amount) t.from balances)
