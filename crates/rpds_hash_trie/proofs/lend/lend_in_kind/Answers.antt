use Rattle.rpds_hash_trie.proofs.Words.{refl, told_of, matches, seen, stored, map}
use Rattle.rpds_hash_trie.proofs.OpenNodes.{IsOpenBranch, IsOpenLeaf, IsOpenCollision, open_branch, open_leaf, open_collision}
use Rattle.rpds_hash_trie.specs.HashNode.{trie_of}
use Rattle.rpds_hash_trie.proofs.KindValueMut.{put_branch, put_leaf, put_collision}
use Rattle.rpds_hash_trie.proofs.KindValueMut.{kept_as, lent_as, branch_sound, branch_ready, branch_found, branch_kept, branch_lent, leaf_found, leaf_kept}
use Rattle.rpds_hash_trie.proofs.KindValueMut.{leaf_lent, collision_found, collision_kept, collision_lent}
use Rattle.rpds_core.proofs.Counts.{within_same}
use Rattle.rpds_hash_trie.proofs.lend.lend_in_kind.Given.{Over}
use Rattle.rpds_hash_trie.proofs.lend.lend_in_kind.Goals as goal
use Rattle.rpds_hash_trie.proofs.lend.lend_in_kind.Goals.{In-Branch, In-Leaf, In-Collision}

branch : (g : Over) (c : In-Branch g) → IsOpenBranch (trie_of c.args.bits c.args.depth c.args.kind.now) c.args.bits c.args.depth (seen c.in-Branch.children)
branch g c = open_branch c.in-Branch.children refl c.in-Branch.is c.requires.node

leaf : (g : Over) (c : In-Leaf g) → IsOpenLeaf (trie_of c.args.bits c.args.depth c.args.kind.now) c.args.bits c.args.depth (stored c.in-Leaf.held)
leaf g c = open_leaf c.in-Leaf.held refl c.in-Leaf.is c.requires.node

collision : (g : Over) (c : In-Collision g)
    → IsOpenCollision (trie_of c.args.bits c.args.depth c.args.kind.now) c.args.bits c.args.depth (stored c.in-Collision.collision.value.front)
    (map stored c.in-Collision.collision.value.others.items)
collision g c = open_collision c.in-Collision.collision refl c.in-Collision.is c.requires.node

pub lend_in_children-requires : goal.lend_in_children-requires
lend_in_children-requires g c =
    let o = branch g (goal.at.lend_in_children-requires g c).In-Branch in
    let same = c.in-Branch.children-is in
    record { branch = branch_sound same o; ready = branch_ready same o c.requires.ready; fresh = c.requires.fresh; shallow = c.requires.shallow }

pub returns-in-Branch : goal.returns-in-Branch
returns-in-Branch g c =
    let o = branch g (goal.at.returns-in-Branch g c).In-Branch in
    let same = c.in-Branch.children-is in
    let t = matches g.Q.HashKey.same (g.Q.HashKey.seen c.args.descent.now.key.key) c.args.descent.now.key.hash in
    let l = c.lend_in_children.follows in (
      (
        refl,
        λ w. lent_as (branch_lent same o (l.lender w) t w (l.holds w)) (search (put_branch g.row.K g.row.V g.row.A g.A.Allocator c.in-Branch.is)),
        kept_as (branch_kept same o l.lender-at-none l.holds-at-none) (search (put_branch g.row.K g.row.V g.row.A g.A.Allocator c.in-Branch.is)),
      ),
      record { writes_back = tt; returned = told_of (branch_found same o t) _ c.lend_in_children.ensures.returned; steps = c.lend_in_children.ensures.steps },
    )

pub returns-in-Leaf : goal.returns-in-Leaf
returns-in-Leaf g c =
    let o = leaf g (goal.at.returns-in-Leaf g c).In-Leaf in
    let same = c.in-Leaf.held-is in
    let t = matches g.Q.HashKey.same (g.Q.HashKey.seen c.args.descent.now.key.key) c.args.descent.now.key.hash in
    let l = c.lend_in_leaf.follows in (
      (
        refl,
        λ w. lent_as (leaf_lent same o (l.lender w) t w (l.holds w)) (search (put_leaf g.row.K g.row.V g.row.A g.A.Allocator c.in-Leaf.is)),
        kept_as (leaf_kept same o l.lender-at-none l.holds-at-none) (search (put_leaf g.row.K g.row.V g.row.A g.A.Allocator c.in-Leaf.is)),
      ),
      record { writes_back = tt; returned = told_of (leaf_found same o t) _ c.lend_in_leaf.ensures.returned; steps = within_same _ _ _ },
    )

pub returns-in-Collision : goal.returns-in-Collision
returns-in-Collision g c =
    let o = collision g (goal.at.returns-in-Collision g c).In-Collision in
    let same = c.in-Collision.collision-is in
    let t = matches g.Q.HashKey.same (g.Q.HashKey.seen c.args.descent.now.key.key) c.args.descent.now.key.hash in
    let l = c.lend_in_shared.follows in (
      (
        refl,
        λ w. lent_as (collision_lent same o (l.lender w) t w (l.holds w)) (search (put_collision g.row.K g.row.V g.row.A g.A.Allocator c.in-Collision.is)),
        kept_as (collision_kept same o l.lender-at-none l.holds-at-none) (search (put_collision g.row.K g.row.V g.row.A g.A.Allocator c.in-Collision.is)),
      ),
      record { writes_back = tt; returned = told_of (collision_found same o t) _ c.lend_in_shared.ensures.returned; steps = within_same _ _ _ },
    )
