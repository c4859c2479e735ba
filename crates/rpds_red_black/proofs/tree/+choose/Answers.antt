use Rattle.std.proofs.lemmas.Result.{on_ok_weaker}
use Rattle.rpds_red_black.proofs.Words.{length, map, ◌++◌, ap, ◌∙◌, arith, items_of, painted, pairs_of, pair_of, Black}
use Rattle.rpds_red_black.proofs.Node.{seen}
use Rattle.rpds_red_black.proofs.Ranks.{branch_length}
use Rattle.rpds_red_black.proofs.Removal.{whatever_comes}
use Rattle.rpds_red_black.proofs.Sifting.{sifted_behind}
use Rattle.rpds_red_black.proofs.Spending.{looked_once, looks_all}
use Rattle.rpds_red_black.proofs.tree.+choose.Goals as goal

pub Tree::choose_into-choose_into-requires : goal.Tree::choose_into-choose_into-requires
Tree::choose_into-choose_into-requires g t c κs within =
    let deep = ap (λ s. s.depth) (seen c.self.view_is c.in-Branch.is) in
    (rw c.deref.ensures (omega (arith, deep, c.decreases)), (within.0, (within.1.0, (within.1.1, c.requires))))

pub Node::choose_into-returns-clause-ok : goal.Node::choose_into-returns-clause-ok
Node::choose_into-returns-clause-ok g t c =
    let n = c.args.self.now in
    let kept = rw (c.entry_counted-found.ensures.found, c.deref.ensures) at c.choice.ensures in
    let own = c.in_ok-push_kept.ensures.ok ∙ ap (λ x. map (λ e. pair_of e.value) c.choose_into.new.chosen.items ++ items_of x) kept in
    sifted_behind g.K.Ord.cmp c.args.search.now.kept c.args.search.now.other.now.entries n.left.entries n.right.entries _ _ _ _ (pair_of n.entry.value)
    c.in_ok-choose_into.ensures.ok own c.choose_into-2.result c.choose_into-2.ensures.ok

pub Node::choose_into-returns-clause-steps : goal.Node::choose_into-returns-clause-steps
Node::choose_into-returns-clause-steps g t c =
    let n = c.args.self.now in
    let own = looked_once c.entry_counted-found.ensures.compared c.entry_counted-found.ensures.least c.entry_counted-found.ensures.others in
    looks_all (length (pairs_of n)) (length n.left.entries) (length n.right.entries) c.args.search.now.other.now.depth (branch_length (painted Black n))
    c.choose_into.ensures.steps own c.choose_into-2.ensures.steps

pub Tree::choose_into-returns-in-Branch-clause-compares : goal.Tree::choose_into-returns-in-Branch-clause-compares
Tree::choose_into-returns-in-Branch-clause-compares g t c =
    on_ok_weaker c.choose_into.result (λ less _. less) c.choose_into.ensures.compares

pub Node::choose_into-returns-clause-compares : goal.Node::choose_into-returns-clause-compares
Node::choose_into-returns-clause-compares g t c =
    whatever_comes c.choose_into-2.result (λ some. omega (
      arith,
      c.choose_into.ensures.steps.compared_least,
      c.entry_counted-found.ensures.compares some,
      c.choose_into-2.ensures.steps.compared_least,
    ))
