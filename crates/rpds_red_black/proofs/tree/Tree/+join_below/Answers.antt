use Rattle.rpds_red_black.proofs.Words.{rules, ◌≡◌, refl, sym, ap, subst, ◌∙◌, is_right, painted, pair_of, shape_of, IsEven, Black, Node}
use Rattle.rpds_red_black.proofs.Joining.{joined_black, joined_over_red}
use Rattle.rpds_red_black.proofs.tree.Tree.+join_below.Goals as goal

pub returns-in-Some-clause-ok : goal.returns-in-Some-clause-ok
returns-in-Some-clause-ok g t c =
    let node = c.deref-node.result.now in
    let is = c.root_node.ensures.same ∙ ap (λ x. shape_of (painted x c.root_node.result.now.value)) c.requires.black
    ∙ ap (λ (n : Node _ _ _). shape_of (painted Black n)) (sym c.deref-node.ensures) in
    let root = rw (c.near-near.ensures, ← c.deref-child.ensures) at c.in-Some.ensures in
    let below = rw c.near-below.ensures at c.in_ok-below.ensures.ok in
    rw is (joined_over_red (is_right c.args.side) node c.deref-child.result.now c.args.lower.entries (pair_of c.args.entry.value) c.in_ok-below.below
    c.link_over_red.result root below c.link_over_red.ensures.ok)

pub returns-clause-ok : goal.returns-clause-ok
returns-clause-ok g t c =
    let node = c.deref-node.result.now in
    let is = c.root_node.ensures.same ∙ ap (λ x. shape_of (painted x c.root_node.result.now.value)) c.requires.black
    ∙ ap (λ (n : Node _ _ _). shape_of (painted Black n)) (sym c.deref-node.ensures) in
    let even : IsEven (painted Black node) = rw c.deref-node.ensures (subst (λ x. IsEven (painted x c.root_node.result.now.value)) c.requires.black
    c.root_node.ensures.even) in
    let own : c.in_ok-own.own.value ≡ node.entry.value = search rules in
    let near = rw c.near-near.ensures at c.in_ok-near.ensures.ok in
    rw is (joined_black (is_right c.args.side) (painted Black node) even c.args.lower.entries (pair_of c.args.entry.value) c.in_ok-near.near
    c.in_ok-far-2.far near (c.in_ok-far-2.ensures ∙ c.far.ensures) c.in_ok-own.own own c.of_parts-2.result refl c.of_parts-2.ensures.ok)
