use Rattle.rpds_red_black.proofs.Words.{rules, ◌≡◌, refl, ◌∙◌, is_right, painted, pair_of, Red}
use Rattle.rpds_red_black.proofs.Joining.{even_below, joined_near}
use Rattle.rpds_red_black.proofs.tree.Node.join_near.Goals as goal

pub of_parts-requires : goal.of_parts-requires
of_parts-requires g c =
    let own : c.in_ok-own.own.value ≡ c.args.self.now.entry.value = search rules in
    let near = rw c.near-near.ensures at c.in_ok-near.ensures.ok in
    even_below (is_right c.args.side) (painted Red c.args.self.now) c.requires.even c.args.lower.entries (pair_of c.args.entry.value) c.in_ok-near.near
    c.in_ok-far.far near (c.in_ok-far.ensures ∙ c.far.ensures) c.in_ok-own.own own

pub returns-clause-ok : goal.returns-clause-ok
returns-clause-ok g c =
    let own : c.in_ok-own.own.value ≡ c.args.self.now.entry.value = search rules in
    let near = rw c.near-near.ensures at c.in_ok-near.ensures.ok in
    joined_near (is_right c.args.side) (painted Red c.args.self.now) c.requires.even c.args.lower.entries (pair_of c.args.entry.value) c.in_ok-near.near
    c.in_ok-far.far near (c.in_ok-far.ensures ∙ c.far.ensures) c.in_ok-own.own own c.of_parts.result refl c.of_parts.ensures.ok
