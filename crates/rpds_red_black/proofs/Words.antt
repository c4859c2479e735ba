-- Words that several proof files here import.
pub use Rattle.std.proofs.Common.{Bool, Err, IfOk, IfSome, IsSome, List, MatchResult, None, Ok, OnErr, OnOk, Option, Result, Some, [], add-zero, ap}
pub use Rattle.std.proofs.Common.{append-nil, append_assoc, arith, cond, drop, false, inl, inr, is_some, length, length-append, lit<, map, max}
pub use Rattle.std.proofs.Common.{not, refl, reverse, rules, slice_get, subst, suc, sym, take, true, zero, ℕ, ◌*◌, ◌++◌, ◌+◌, ◌-◌, ◌/◌, ◌<◌, ◌^◌}
pub use Rattle.std.proofs.Common.{◌∙◌, ◌∷◌, ◌≡◌, ◌≢◌, ◌≤◌, ◌⊎◌}
pub use Rattle.std.proofs.Math.Nat.{add-mul, mul-le-mul_left, one-mul, pow-succ'}
pub use Rattle.std.proofs.Math.Pow.{suc_ones}
pub use Rattle.std.proofs.lemmas.Bool.{false≢true, true≢false}
pub use Rattle.std.proofs.lemmas.Cmp.{alike_right, tied_back, tied_itself}
pub use Rattle.std.proofs.lemmas.Grind.{common_steps}
pub use Rattle.std.proofs.lemmas.List.{reverse-append, reverse-reverse}
pub use Rattle.std.proofs.lemmas.List.Elements.{filter-append}
pub use Rattle.std.proofs.lemmas.Result.{IfOk-weaker}
pub use Rattle.std.specs.Borrow.{Bor}
pub use Rattle.std.specs.Cmp.{IsTotalOrder}
pub use Rattle.std.specs.List.{filter}
pub use Rattle.std.specs.Map.{keys_of}
pub use Rattle.std.specs.Map.Iter.{deref_pair}
pub use Rattle.std.specs.Option.{option_map}
pub use Rattle.std.specs.Ordering.{is_eq, is_gt, is_le, is_lt, ordering_reverse}
pub use Rattle.std.specs.Prelude.{if◌then◌else◌}
pub use Rattle.std.specs.Range.Bound.{bound_map}
pub use Rattle.std.specs.declared.cmp.Ordering.{Ordering}
pub use Rattle.std.specs.declared.cmp.Ordering.TheVariants.{Equal, Greater, Less}
pub use Rattle.std.specs.declared.ops.Bound.{Bound}
pub use Rattle.std.specs.declared.ops.Bound.TheVariants.{Excluded, Included, Unbounded}
pub use Rattle.std.specs.declared.rc.Rc.{Rc}
pub use Rattle.rpds_core.proofs.Counts.{within_compared, within_made, within_more, within_same, within_then}
pub use Rattle.rpds_core.specs.Counts.{IsWithin}
pub use Rattle.rpds_core.specs.Keys.{IsSearch, own_search}
pub use Rattle.rpds_core.specs.WalkStack.{HasRoom, from_top}
pub use Rattle.rpds_core.specs.declared.map.entry.Entry.{Entry}
pub use Rattle.rpds_core.specs.declared.steps.Steps.{Steps}
pub use Rattle.rpds_red_black.specs.Combined.{IsLinked, or_same, rank_over}
pub use Rattle.rpds_red_black.specs.Cuts.{IsCombined, IsCutAt, items_of, kept_of_both, pick}
pub use Rattle.rpds_red_black.specs.Insertion.{IsGrownTo, added_by}
pub use Rattle.rpds_red_black.specs.Join.{IsJoined, IsOfHeight, gap, pair_lent, pairs_lent, rank, redness}
unfoldable pub use Rattle.rpds_red_black.specs.Logarithm.{floor_log2}
pub use Rattle.rpds_red_black.specs.Logarithm.{most_levels}
pub use Rattle.rpds_red_black.specs.OrderedMap.{map_of}
pub use Rattle.rpds_red_black.specs.Pairs.{IsAboveAll, IsAscending, IsBelowAll, find, find_by, put, put_all, without, without_by}
pub use Rattle.rpds_red_black.specs.Ranges.{fits, is_from, is_up_to, within}
pub use Rattle.rpds_red_black.specs.Removal.{IsEndTaken}
pub use Rattle.rpds_red_black.specs.Shape.{IsSound, MayStandOver, Shape, blackness, branch, leaf}
pub use Rattle.rpds_red_black.specs.Sides.{faced, is_right, joined, node_of}
pub use Rattle.rpds_red_black.specs.Take.{IsDarker, IsTaken, IsTakenFrom, IsTakenWithNephew, got_shorter, has_taken, is_taken, loss_under, lost, parts_of}
pub use Rattle.rpds_red_black.specs.TreeNode.{IsEven, IsEvenLink, IsRedRoot, IsWhole, Painted, counted, depth_of, painted, pair_of, pairs_of, shape_of}
pub use Rattle.rpds_red_black.specs.TreeNode.{shape_of_link}
pub use Rattle.rpds_red_black.specs.TreeWalk.{Fits, along, cmp_along, far_side, given, near_side, upcoming}
pub use Rattle.rpds_red_black.specs.Values.{tree_with_value_by}
pub use Rattle.rpds_red_black.specs.declared.combine.Common.TheVariants.{Cut, Neither, Walked}
pub use Rattle.rpds_red_black.specs.declared.combine.Kept.{Kept}
pub use Rattle.rpds_red_black.specs.declared.insert.Growth.TheVariants.{Added, AddedTaller, Replaced}
pub use Rattle.rpds_red_black.specs.declared.remove_in_place.Loss.{Loss}
pub use Rattle.rpds_red_black.specs.declared.remove_in_place.Loss.TheVariants.{Absent, Removed, RemovedShorter}
pub use Rattle.rpds_red_black.specs.declared.rotation.Side.{Side}
pub use Rattle.rpds_red_black.specs.declared.rotation.Side.TheVariants.{Left}
pub use Rattle.rpds_red_black.specs.declared.tree.Color.{Color}
pub use Rattle.rpds_red_black.specs.declared.tree.Color.TheVariants.{Black, Red}
pub use Rattle.rpds_red_black.specs.declared.tree.Link.{Link}
pub use Rattle.rpds_red_black.specs.declared.tree.Link.TheVariants.{Branch, Leaf}
pub use Rattle.rpds_red_black.specs.declared.tree.Node.{Node}
