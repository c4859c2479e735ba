use Rattle.rpds_red_black.proofs.Words.{rules, refl, ap, ◌∙◌, Black, painted, pair_of, leaf, branch}
use Rattle.rpds_red_black.proofs.Add.{added_below_black, added_below_red, added_in_place}
use Rattle.rpds_red_black.proofs.tree.Node.add.Goals as goal

pub returns-in_ok-self-in-Black-clause-ok : goal.returns-in_ok-self-in-Black-clause-ok
returns-in_ok-self-in-Black-clause-ok g c = rw c.in_ok-self-in-Black.ensures.ok (added_below_black c.args.side c.args.lean (painted c.args.color c.args.self.now) c.requires.even c.requires.empty (pair_of c.args.entry.value) c.in-Black.is)

pub returns-in_ok-self-in-Red-clause-ok : goal.returns-in_ok-self-in-Red-clause-ok
returns-in_ok-self-in-Red-clause-ok g c = rw c.in_ok-self-in-Red.ensures.ok (added_below_red c.args.side c.args.lean (painted c.args.color c.args.self.now) c.requires.even c.requires.empty (pair_of c.args.entry.value) c.in-Red.is (c.is.ensures.yes c.if-is.true))

pub returns-in_ok-self-in-Red-2-clause-ok : goal.returns-in_ok-self-in-Red-2-clause-ok
returns-in_ok-self-in-Red-2-clause-ok g c =
    let view = c.far_mut-else-is.view_is ∙ c.far_mut.ensures.value in
    let other = c.in_ok-self-in-Red-2.ensures.ok ∙ ap (λ x. branch Black leaf (pair_of x) leaf) c.in_ok-beyond-in-Red.ensures.cases in
    rw other (added_in_place c.args.side c.args.lean (painted c.args.color c.args.self.now) c.requires.even c.requires.empty (pair_of c.args.entry.value) c.args.entry refl c.in-Red.is (c.is.ensures.no c.if-is.false) c.far_mut-else-is.inside.root view)

pub returns-in_err-self-in-Red-2-clause-err : goal.returns-in_err-self-in-Red-2-clause-err
returns-in_err-self-in-Red-2-clause-err g c = search rules
