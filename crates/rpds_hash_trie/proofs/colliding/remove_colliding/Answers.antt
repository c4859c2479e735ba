use Rattle.rpds_hash_trie.proofs.Words.{ap, ◌∙◌, refl, ◌≡◌, arith, length, remove, matches, shown, Collision}
use Rattle.rpds_hash_trie.proofs.Collisions.{IsLookIn, removed_not_found, other_left, front_left, several_left}
use Rattle.rpds_hash_trie.proofs.NodeValueMut.{shown_of}
use Rattle.rpds_hash_trie.proofs.colliding.remove_colliding.Given.{Over}
use Rattle.rpds_hash_trie.proofs.colliding.remove_colliding.Goals as goal
use Rattle.rpds_hash_trie.proofs.colliding.remove_colliding.Goals.{After-len-others, then-at-eq0, else-at-eq0}

look : (g : Over) (c : After-len-others g)
    → IsLookIn (matches g.Q.HashKey.same (g.Q.HashKey.seen c.args.key) c.args.hash) c.args.collision.now.value c.index_of-at.result c.len-others.result
look g c =
    let held = c.deref-held.result.now in
    let count : c.len-others.result ≡ length held.others.items = omega (arith, c.len-others.ensures, held.others.ok.0) in
    record { once = c.requires.once; is = rw c.deref-held.ensures at c.index_of-at.ensures; size = rw c.deref-held.ensures at count }

pub returns-then-at-others-clause-ok : goal.returns-then-at-others-clause-ok
returns-then-at-others-clause-ok g c = removed_not_found (look g (goal.at.returns-then-at-others-clause-ok g c).After-len-others) c.if-at-others.true

pub returns-then-others-eq1-clause-ok : goal.returns-then-others-eq1-clause-ok
returns-then-others-eq1-clause-ok g c =
    let s = look g (goal.at.returns-then-others-eq1-clause-ok g c).After-len-others in
    elim c.if-at-eq0.branch [
      | then-at-eq0 w ↦
          let is = rw c.deref-held.ensures at w.index.ensures in
          other_left s c.if-others-eq1.true w.if-at-eq0.true w.index.result.now c.in_ok-stays.stays is (rw w.stays-is at c.in_ok-stays.ensures)
      | else-at-eq0 w ↦
          let is = rw (w.stays-is, c.deref-held.ensures) at c.in_ok-stays.ensures in
          front_left s c.if-others-eq1.true w.if-at-eq0.false c.if-at-others.false c.in_ok-stays.stays is
    ]

pub returns-clause-ok : goal.returns-clause-ok
returns-clause-ok g c =
    let same = shown_of c.in_ok-collision.collision.now c.args.collision.now.value c.in_ok-collision.ensures.value in
    let holds = c.own.follows.holds c.remove.new.self (rw c.in_ok-collision.was refl) in
    let left = ap (λ (x : Collision _ _ _). shown x) holds ∙ c.remove.ensures ∙ ap (λ xs. remove xs c.index_of-at.result) same in
    several_left (look g (goal.at.returns-clause-ok g c).After-len-others) c.if-at-others.false c.if-others-eq1.false c.requires.several
    (c.own.follows.lender c.remove.new.self).value left
