-- Words that most proof files here import.
pub use Rattle.std.proofs.Common.{Bool, Err, IfOk, List, MutBor, None, Ok, OnErr, Result, Some, [], add-one, ap, append_assoc, arith, bit_and, cond, drop, eqb, false, get_or, inl, inr, is_some, length, length-append, ltb, map, mod-lt, not, refl, rules, set, subst, suc, sym, take, true, vec_len, zero, ℕ, ◌%◌, ◌&&◌, ◌*◌, ◌++◌, ◌+◌, ◌-◌, ◌/◌, ◌<◌, ◌^◌, ◌||◌, ◌∙◌, ◌∷◌, ◌≡◌, ◌≢◌, ◌≤◌, ◌⊎◌}
pub use Rattle.std.proofs.Math.Nat.{mod-eq_of_lt, pow-suc, suc-mul, zero-mul}
pub use Rattle.std.proofs.Math.Pow.{pow-lt}
pub use Rattle.std.proofs.lemmas.Bool.{cases_lt, false≢true, ne_eqb}
pub use Rattle.std.proofs.lemmas.Bool.Decides.{eqb_tells, nat_tests}
pub use Rattle.std.proofs.lemmas.List.{append-nil, length-drop, length-map, map_push, nil_from_length, reverse-append}
pub use Rattle.std.proofs.lemmas.List.Sorted.{All-permutation, IsPermutation-append_left, IsPermutation-map, IsPermutation-refl, IsPermutation-trans, length_permutation}
pub use Rattle.std.proofs.lemmas.Nat.{and_mask, pow_pos}
pub use Rattle.std.proofs.lemmas.Nat.Bits.{bit_at-lt, bit_at-suc, bit_at_lowest}
pub use Rattle.std.proofs.lemmas.Option.{slice_get_past, slice_get_read}
pub use Rattle.std.proofs.lemmas.Result.{IfOk-weaker}
pub use Rattle.std.specs.Cmp.{IsEquivalence}
pub use Rattle.std.specs.Int.{bit_at}
pub use Rattle.std.specs.List.{AllByRecursion, AllZip, insert, remove}
pub use Rattle.std.specs.List.Sorted.{IsPermutation}
pub use Rattle.std.specs.Map.{keys_of}
pub use Rattle.std.specs.Option.{option_map}
pub use Rattle.std.specs.Prelude.{IsSome, IsTrue, is_none, slice_get, zip}
pub use Rattle.std.specs.declared.alloc.AllocError.{AllocError}
pub use Rattle.std.specs.declared.option.Option.{Option}
pub use Rattle.std.specs.declared.rc.Rc.{Rc}
pub use Rattle.rpds_core.proofs.Counts.{made_more}
pub use Rattle.rpds_core.proofs.Rows.{behind_clones, behind_length}
pub use Rattle.rpds_core.proofs.ValueLends.{either_same, told_of}
pub use Rattle.rpds_core.specs.Rows.{behind}
pub use Rattle.rpds_core.specs.declared.map.entry.Entry.{Entry}
pub use Rattle.rpds_core.specs.declared.steps.Steps.{Steps}
pub use Rattle.rpds_hash_trie.specs.Digits.{FollowDigits, agree, digit, digit_count, hash_count, reach_within}
pub use Rattle.rpds_hash_trie.specs.HashChanges.{AreCollected, IsPut}
pub use Rattle.rpds_hash_trie.specs.HashInPlace.{IsPutIn}
pub use Rattle.rpds_hash_trie.specs.HashLent.{index_of, node_with, value_of, valued, with_value}
pub use Rattle.rpds_hash_trie.specs.HashNode.{IsNode, branch_of, collision_of, leaf_of, shown, stored, trie_of}
pub use Rattle.rpds_hash_trie.specs.HashRemoval.{IsLeft}
pub use Rattle.rpds_hash_trie.specs.HashRemovalInPlace.{IsRemoved, IsRemovedFrom}
pub use Rattle.rpds_hash_trie.specs.HashTrie.{AllAgree, AllChildren, AllDigit, AllHash, IsBranch, IsChildAt, IsCollision, IsLoose, IsSound, Stored, Trie, flat, found, hashes_in, matches, unmatched}
pub use Rattle.rpds_hash_trie.specs.HashWalk.{AllFit, flatten}
pub use Rattle.rpds_hash_trie.specs.HashedMap.{AllApart, AllHashed, HashedMap, IsHashed, IsMap, find, key_hash, pairs_of, without}
pub use Rattle.rpds_hash_trie.specs.Places.{AreClones, first_item, item_at, items_of, length_places, on_bit, put_at, seen, without_at}
pub use Rattle.rpds_hash_trie.specs.declared.in_place.Removed.{Removed}
pub use Rattle.rpds_hash_trie.specs.declared.in_place.Removed.TheVariants.{Done, NotFound, OneLeft}
pub use Rattle.rpds_hash_trie.specs.declared.node.Collision.{Collision}
pub use Rattle.rpds_hash_trie.specs.declared.node.EntryWithHash.{EntryWithHash}
pub use Rattle.rpds_hash_trie.specs.declared.node.Kind.{Kind}
pub use Rattle.rpds_hash_trie.specs.declared.node.Kind.TheVariants.{Branch, Leaf}
