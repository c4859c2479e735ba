-- Words that several proof files here import.
pub use Rattle.std.proofs.Common.{Bool, Err, IfOk, IfSome, IsSome, List, None, Ok, Option, Result, Some, [], ap}
pub use Rattle.std.proofs.Common.{append-nil, append_assoc, arith, cond, drop, false, inr, is_none, is_some, length, length-append, lit<, map, max}
pub use Rattle.std.proofs.Common.{not, refl, reverse, rules, slice_get, subst, suc, sym, take, true, zero, ℕ, ◌&&◌, ◌++◌, ◌+◌, ◌-◌, ◌<◌, ◌^◌, ◌||◌}
pub use Rattle.std.proofs.Common.{◌∙◌, ◌∷◌, ◌≡◌, ◌≢◌, ◌≤◌, ◌⊎◌}
pub use Rattle.std.proofs.lemmas.Bool.{true≢false}
pub use Rattle.std.proofs.lemmas.Cmp.{alike_right, tied_back, tied_itself}
pub use Rattle.std.proofs.lemmas.Grind.{common_steps}
pub use Rattle.std.proofs.lemmas.List.{reverse-append, reverse-reverse}
pub use Rattle.std.proofs.lemmas.List.Elements.{filter-append}
pub use Rattle.std.proofs.lemmas.Map.Keys.{sorted_tail}
pub use Rattle.std.proofs.lemmas.Result.{IfOk-weaker}
pub use Rattle.std.specs.Borrow.{Bor}
pub use Rattle.std.specs.Cmp.{IsTotalOrder}
pub use Rattle.std.specs.Cmp.Lexicographic.{pointwise, slice_cmp, slice_partial_cmp, unequal}
pub use Rattle.std.specs.Fmt.{DisplaysOnOk, DisplaysStyledOnOk}
pub use Rattle.std.specs.List.{AllByRecursion, filter, flat_map, fold, items_where_true}
unfoldable pub use Rattle.std.specs.List.Sorted.{IsStrictlySortedBy}
pub use Rattle.std.specs.Map.{keys_of}
pub use Rattle.std.specs.Map.Iter.{TakesFirst, TakesLast, deref, deref_pair}
pub use Rattle.std.specs.Option.{option_map, option_or, option_xor}
pub use Rattle.std.specs.Ordering.{is_eq, is_gt, is_le, is_lt, ordering_reverse}
pub use Rattle.std.specs.Range.Bound.{bound_map}
pub use Rattle.std.specs.declared.cmp.Ordering.{Ordering}
pub use Rattle.std.specs.declared.cmp.Ordering.TheVariants.{Equal, Greater, Less}
pub use Rattle.std.specs.declared.ops.Bound.{Bound}
pub use Rattle.std.specs.declared.ops.Bound.TheVariants.{Excluded, Included, Unbounded}
pub use Rattle.rpds_core.proofs.Counts.{within_more, within_same, within_then}
pub use Rattle.rpds_core.specs.MapText.{map_text}
pub use Rattle.rpds_core.specs.SetText.{set_text}
pub use Rattle.rpds_tree.specs.Algebra.{both_in, members_of_both, members_of_union, members_only_in, only_in, union_of}
pub use Rattle.rpds_red_black.specs.Cuts.{IsCombined, IsCutAt, items_of, kept_of_both, pick}
pub use Rattle.rpds_tree.specs.Differences.{differ, differences, value_of}
pub use Rattle.rpds_red_black.specs.Join.{rank}
pub use Rattle.rpds_red_black.specs.Logarithm.{most_levels}
pub use Rattle.rpds_red_black.specs.OrderedMap.{IsOrdered, OrderedMap, map_of}
pub use Rattle.rpds_tree.specs.OrderedSet.{find_member, is_disjoint, is_subset, put_member, put_members, set_of, without_member}
pub use Rattle.rpds_red_black.specs.Pairs.{IsAboveAll, IsAscending, IsBelowAll, find, put, put_all, without}
pub use Rattle.rpds_red_black.specs.Positions.{rank_member}
pub use Rattle.rpds_red_black.specs.Ranges.{bound_at, bound_copied, fits, is_from, is_up_to, outside, within}
pub use Rattle.rpds_red_black.specs.Shape.{IsSound, Shape}
pub use Rattle.rpds_red_black.specs.Sides.{is_right, joined}
unfoldable pub use Rattle.rpds_tree.specs.Sorted.{first_out_of_order}
pub use Rattle.rpds_red_black.specs.TreeNode.{pair_of}
pub use Rattle.rpds_red_black.specs.TreeWalk.{cmp_along}
pub use Rattle.rpds_red_black.specs.Values.{tree_with_value_by}
pub use Rattle.rpds_red_black.specs.declared.combine.Common.TheVariants.{Cut, Neither, Walked}
pub use Rattle.rpds_red_black.specs.declared.combine.Kept.{Kept}
pub use Rattle.rpds_red_black.specs.declared.tree.Color.TheVariants.{Black}
