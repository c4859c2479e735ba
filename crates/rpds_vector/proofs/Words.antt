-- Words that most proof files here import.
pub use Rattle.std.proofs.Common.{Bool, Err, IfSome, IsErrAnd, List, MatchResult, MutBor, None, Ok, OnErr, OnOk, Option, Result, Some, [], ap, append-nil}
pub use Rattle.std.proofs.Common.{append_assoc, arith, bit_and, cond, drop, false, get_or, inl, inr, length, length-append, ltb, refl, reverse, rules, set}
pub use Rattle.std.proofs.Common.{subst, suc, sym, take, true, zero, ℕ, ◌%◌, ◌*◌, ◌++◌, ◌+◌, ◌-◌, ◌/◌, ◌<◌, ◌^◌, ◌∙◌, ◌∷◌, ◌≡◌, ◌≢◌, ◌≤◌, ◌⊎◌}
pub use Rattle.std.proofs.Math.Nat.{add-mul, div-lt_self, div-mul-le_self, div-one, lt-div-mul-add, lt_of_mul-lt-mul_right, mod-eq_of_lt, mod_self}
pub use Rattle.std.proofs.Math.Nat.{mul-add-mod_self_right, mul-le-mul_right, mul_assoc, mul_comm, one-mul, pow-le-pow_right, pow-succ', suc-mul, zero-mul}
pub use Rattle.std.proofs.Math.Pow.{pow-lt}
pub use Rattle.std.proofs.Math.Seq.{drop-append-add, drop-append_seam, take-append-add, take-append_seam}
pub use Rattle.std.proofs.iter.Next.{Yields-more}
pub use Rattle.std.proofs.lemmas.Bool.{le-ltb, lt-ltb, ltb-false, ltb-true}
pub use Rattle.std.proofs.lemmas.Bool.Decides.{nat_tests}
pub use Rattle.std.proofs.lemmas.Grind.{common_steps}
pub use Rattle.std.proofs.lemmas.List.{drop-append-le, length-drop, length-set, length-take, length-take-le, reverse-append, reverse-reverse, set-append_left}
pub use Rattle.std.proofs.lemmas.List.{set-append_right, set-get_or, take-append-le, take-take, take_all}
pub use Rattle.std.proofs.lemmas.Nat.{and_mask, div-add-mod', div_below, le-div, mod-pow-add, mod_below, pow-add, pow_pos}
pub use Rattle.std.proofs.lemmas.Option.{slice_get_read}
pub use Rattle.std.proofs.lemmas.Result.{IfOk-weaker, on_err_weaker, on_ok_weaker}
pub use Rattle.std.specs.Borrow.{Bor}
pub use Rattle.std.specs.Cmp.Lexicographic.{pointwise, slice_cmp, slice_partial_cmp, unequal}
pub use Rattle.std.specs.Fmt.{DisplaysOnOk, DisplaysStyledOnOk, debug_list}
pub use Rattle.std.specs.Iterator.{Drains, Yields, YieldsThen}
pub use Rattle.std.specs.List.{IsLastAndRest, remove, slice_get}
pub use Rattle.std.specs.Map.Iter.{deref}
pub use Rattle.std.specs.Option.{MatchOption}
pub use Rattle.std.specs.Prelude.{Vec}
pub use Rattle.std.specs.declared.rc.Rc.{Rc}
pub use Rattle.rpds_core.proofs.Counts.{made_more, made_then, within_more, within_same}
pub use Rattle.rpds_core.proofs.DoubleEnded.{from_back, from_front}
pub use Rattle.rpds_core.proofs.KnownLists.{compares, feeds, item, shows}
pub use Rattle.rpds_core.proofs.Rows.{behind_append, behind_clones, behind_drop, behind_length, behind_set, behind_take}
pub use Rattle.rpds_core.proofs.ValueLends.{either_same, read_same, refusal, told_of}
pub use Rattle.rpds_core.specs.Counts.{IsMadeWithin}
pub use Rattle.rpds_core.specs.DoubleEnded.{along}
pub use Rattle.rpds_core.specs.Rows.{behind}
pub use Rattle.rpds_core.specs.ValueLends.{Tells, with_reason}
pub use Rattle.rpds_core.specs.declared.lend.ValueMutError.{ValueMutError}
pub use Rattle.rpds_core.specs.declared.lend.ValueMutError.TheVariants.{NoMemory}
pub use Rattle.rpds_core.specs.declared.steps.Steps.{Steps}
pub use Rattle.rpds_vector.specs.Builder.{IsBuilding, with_leaf}
pub use Rattle.rpds_vector.specs.Remade.{IsRemadeBut}
pub use Rattle.rpds_vector.specs.Trie.{IsBranch, IsLeaf, IsMember, IsRow, IsSound, IsTop, Trie, flatten, height_of, span}
pub use Rattle.rpds_vector.specs.VectorContents.{Contents, IsRoot, IsVector, items_of}
pub use Rattle.rpds_vector.specs.ItemPlace.{IsReady, item_at, position, with_item}
pub use Rattle.rpds_vector.specs.VectorNode.{IsFirstChild, IsFull, IsIn, IsNode, IsPartAt, branch_of, leaf_of, trie_of}
pub use Rattle.rpds_vector.specs.VectorWalk.{ahead}
pub use Rattle.rpds_vector.specs.Width.{digits_within, width}
pub use Rattle.rpds_vector.specs.declared.vector.lend.Place.{Place}
pub use Rattle.rpds_vector.specs.declared.vector.node.Kind.{Kind}
pub use Rattle.rpds_vector.specs.declared.vector.node.Kind.TheVariants.{Branch, Leaf}
