use Rattle.std.proofs.Common.{◌≡◌, ◌∷◌, codes, inl, inr, ap, rules}
use Rattle.std.proofs.lemmas.Result.{err_from_is_err_and}
use Rattle.rpds_lines.proofs.parse.command.parse_sorted.Goals as goal

pub returns-in_err-pairs-in-Some-rmap-clause-memory : goal.returns-in_err-pairs-in-Some-rmap-clause-memory
returns-in_err-pairs-in-Some-rmap-clause-memory g c =
    let error = err_from_is_err_and c.from_residual.result c.from_residual.ensures.1 in
    let memory = c.in_err-pairs-in-Some-rmap.ensures.memory in
    let words : c.args.words.now ≡ codes "rmap" ∷ c.next.new.self = search rules in
    rw error.1 (c.next.new.self, memory.1, inl (memory.0, ap (λ ws. codes "sorted" ∷ ws) words))

pub returns-in_err-members-in-Some-rset-clause-memory : goal.returns-in_err-members-in-Some-rset-clause-memory
returns-in_err-members-in-Some-rset-clause-memory g c =
    let error = err_from_is_err_and c.from_residual-in_err-members-in-Some-rset.result c.from_residual-in_err-members-in-Some-rset.ensures.1 in
    let memory = c.in_err-members-in-Some-rset.ensures.memory in
    let words : c.args.words.now ≡ codes "rset" ∷ c.next.new.self = search rules in
    rw error.1 (c.next.new.self, memory.1, inr (memory.0, ap (λ ws. codes "sorted" ∷ ws) words))
