use Rattle.std.proofs.Common.{◌≡◌, ℕ, Some, None, List, refl, sym, ap, subst, ◌∙◌, arith}
use Rattle.std.specs.declared.cmp.Ordering.TheVariants.{Equal}
use Rattle.std.specs.declared.option.Option.{Option}
use Rattle.std.specs.Map.{keys_of}
use Rattle.std.specs.Option.{option_map}
use Rattle.std.specs.Ordering.{nat_cmp}
use Rattle.std.proofs.lemmas.Grind.{common_steps}
use Rattle.std.proofs.lemmas.Result.{on_ok_weaker}
use Rattle.rpds.specs.Pairs.{find, put}
use Rattle.example_accounts.specs.Money.{balance_of}
use Rattle.example_accounts.proofs.bank.record.Goals as goal

equal : (k j : ℕ) → nat_cmp k j ≡ Equal → k ≡ j
equal k j is = grind (arith, common_steps)

-- the stored key of an account is its number
keys-kept : (k w before : ℕ) (es : List (ℕ × ℕ)) → balance_of k es ≡ Some before → ((p : ℕ × ℕ) → find nat_cmp k es ≡ Some p → nat_cmp k p.0 ≡ Equal)
    → ((p : ℕ × ℕ) → find nat_cmp k es ≡ Some p → keys_of (put nat_cmp (p.0, w) es) ≡ keys_of es) → keys_of (put nat_cmp (k, w) es) ≡ keys_of es
keys-kept k w before es had tied keys = go (find nat_cmp k es) refl had
  where
    go : (o : Option (ℕ × ℕ)) → find nat_cmp k es ≡ o → option_map (λ p. p.1) o ≡ Some before → keys_of (put nat_cmp (k, w) es) ≡ keys_of es
    go None is had = absurd (cc)
    go (Some p) is had = subst (λ j. keys_of (put nat_cmp (j, w) es) ≡ keys_of es) (sym (equal k p.0 (tied p is))) (keys p is)

pub returns-clause-accounts : goal.returns-clause-accounts
returns-clause-accounts c =
    let es = c.args.balances.now.entries in
    let account = c.args.account in
    on_ok_weaker c.insert_mut.result
    (λ is before had. ap keys_of is ∙ keys-kept account c.args.balance before es had (c.find_is_lawful.ensures.tied account es) (λ p found. c.put_is_lawful.ensures.keys account c.args.balance es p c.size-size.ensures.ordered.ascending found))
    c.insert_mut.ensures.ok
