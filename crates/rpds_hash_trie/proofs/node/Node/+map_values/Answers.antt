use Rattle.rpds_hash_trie.proofs.Words.{arith, ap, length, IfOk-weaker}
use Rattle.rpds_hash_trie.specs.HashValues.{HasValuesOf}
use Rattle.rpds_hash_trie.proofs.Mapped.{branch_kept, branch_mapped, child_falls, length_items, row_more, row_whole}
use Rattle.rpds_hash_trie.proofs.OpenNodes.{open_branch, open_collision, open_leaf}
use Rattle.rpds_hash_trie.proofs.node.Node.+map_values.Goals as goal

pub map_value-requires-clause-clone_keys : goal.map_value-requires-clause-clone_keys
map_value-requires-clause-clone_keys g t c = c.requires.clone_keys

pub map_value-requires-clause-callable : goal.map_value-requires-clause-callable
map_value-requires-clause-callable g t c = c.requires.callable

pub leaf-requires : goal.leaf-requires
leaf-requires g t c = (open_leaf c.in-Leaf.entry c.self.view_is c.in-Leaf.is c.self.invariant).sound

pub map_collision-requires-clause-sound : goal.map_collision-requires-clause-sound
map_collision-requires-clause-sound g t c =
    let o = open_collision c.in-Collision.collision c.self.view_is c.in-Collision.is c.self.invariant in rw c.deref-collision.ensures o.sound

pub map_collision-requires-clause-clone_keys : goal.map_collision-requires-clause-clone_keys
map_collision-requires-clause-clone_keys g t c = c.requires.clone_keys

pub map_collision-requires-clause-callable : goal.map_collision-requires-clause-callable
map_collision-requires-clause-callable g t c = c.requires.callable

pub loop-child-init : goal.loop-child-init
loop-child-init g t c =
    let made = c.in_ok-mapped_row-in-Branch.ensures in
    (rw made.items tt, made.len, made.capacity)

pub offset_bounds-row-child-index : goal.offset_bounds-row-child-index
offset_bounds-row-child-index g t c = omega (arith, c.loop-child-test.true, c.as_slice-row.type_inv.1)

pub map_values-requires : goal.map_values-requires
map_values-requires g t c κs within =
    let o = open_branch c.in-Branch.children c.self.view_is c.in-Branch.is c.self.invariant in
    let falls = child_falls c.in-Branch.children o c.as_slice-row.result.now c.loop-child.child-index c.child-item.result c.as_slice-row.ensures
    (omega (arith, c.loop-child-test.true)) c.child-item.is in
    rw c.deref-child.ensures (omega (arith, c.decreases, falls), (within.0, (within.1.0, (within.1.1.0, (within.1.1.1.0, (within.1.1.1.1, (c.requires.clone_keys, c.requires.callable)))))))

pub push_reserved-requires : goal.push_reserved-requires
push_reserved-requires g t c =
    let inv = c.loop-child.invariant in omega (arith, c.loop-child-test.true, inv.1, inv.2)

pub loop-child-smaller : goal.loop-child-smaller
loop-child-smaller g t c = omega (arith, c.loop-child-test.true)

pub loop-child-preserved : goal.loop-child-preserved
loop-child-preserved g t c =
    let inv = c.loop-child.invariant in
    let pushed = c.push_reserved.ensures in (
      rw pushed.items (row_more (HasValuesOf g.F.Fn c.args.change.now) c.as_slice-row.result.now c.loop-child.mapped_row.items c.loop-child.child-index c.child-item.result
          c.in_ok-mapped-in-Branch.mapped (omega (arith, c.loop-child-test.true)) c.child-item.is inv.0
          (rw c.deref-child.ensures at c.in_ok-mapped-in-Branch.ensures)),
      omega (arith, pushed.len, inv.1),
      omega (arith, pushed.capacity, inv.2),
    )

pub with_items-children-requires : goal.with_items-children-requires
with_items-children-requires g t c =
    let inv = c.loop-child.invariant in
    omega (
      arith,
      c.loop-child-test.false,
      c.loop-child.auto.child-index-end,
      inv.1,
      c.loop-child.mapped_row.ok.0,
      ap length c.as_slice-row.ensures,
      length_items c.in-Branch.children,
    )

pub branch-alloc-requires : goal.branch-alloc-requires
branch-alloc-requires g t c =
    let o = open_branch c.in-Branch.children c.self.view_is c.in-Branch.is c.self.invariant in
    let row = c.loop-child.mapped_row.items in
    let made = row_whole (HasValuesOf g.F.Fn c.args.change.now) c.as_slice-row.result.now _ row c.loop-child.child-index (omega (arith, c.loop-child-test.false)) c.as_slice-row.ensures
    c.loop-child.invariant.0 in
    branch_kept g.F.Fn c.args.change.now c.in-Branch.children o row c.with_items-children.result made c.with_items-children.ensures

pub returns-after-loop-child : goal.returns-after-loop-child
returns-after-loop-child g t c =
    let o = open_branch c.in-Branch.children c.self.view_is c.in-Branch.is c.self.invariant in
    let row = c.loop-child.mapped_row.items in
    let made = row_whole (HasValuesOf g.F.Fn c.args.change.now) c.as_slice-row.result.now _ row c.loop-child.child-index (omega (arith, c.loop-child-test.false)) c.as_slice-row.ensures
    c.loop-child.invariant.0 in
    IfOk-weaker c.branch-alloc.result _ _ (λ n is. branch_mapped g.F.Fn c.args.change.now c.in-Branch.children o row c.with_items-children.result made c.with_items-children.ensures n.value is)
    c.branch-alloc.ensures.ok
