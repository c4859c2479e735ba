-- Words that most proof files here import.
pub use Rattle.std.proofs.Common.{Bool, Err, List, None, Ok, Result, Some, [], ap, arith, cond, false, inl, inr, is_some, length, map, not, refl, subst, suc, sym, true, ℕ, ◌&&◌, ◌++◌, ◌+◌, ◌-◌, ◌<◌, ◌^◌, ◌||◌, ◌∙◌, ◌∷◌, ◌≡◌, ◌≤◌, ◌⊎◌}
pub use Rattle.std.proofs.lemmas.Bool.{false≢true}
pub use Rattle.std.proofs.lemmas.Bool.Decides.{eqb_tells, nat_tests}
pub use Rattle.std.proofs.lemmas.List.{length-map, map_push, reverse-append}
pub use Rattle.std.proofs.lemmas.List.Sorted.{IsPermutation-map, length_permutation}
pub use Rattle.std.proofs.lemmas.Result.{IfOk-weaker}
pub use Rattle.std.specs.Cmp.{IsEquivalence}
pub use Rattle.std.specs.Fmt.{DisplaysOnOk}
pub use Rattle.std.specs.List.{list_all}
pub use Rattle.std.specs.List.Sorted.{IsPermutation}
pub use Rattle.std.specs.Map.{keys_of}
pub use Rattle.std.specs.Map.Iter.{deref}
pub use Rattle.std.specs.Option.{option_eq, option_map}
pub use Rattle.std.specs.Prelude.{IsSome, IsTrue, slice_get}
pub use Rattle.std.specs.declared.option.Option.{Option}
pub use Rattle.rpds_core.proofs.ValueLends.{told_of}
pub use Rattle.rpds_core.specs.declared.map.entry.Entry.{Entry}
pub use Rattle.rpds_hash_trie.specs.HashChanges.{AreCollected, IsPut}
pub use Rattle.rpds_hash_trie.specs.HashLent.{node_with, with_value}
pub use Rattle.rpds_hash_trie.specs.HashRemoval.{IsLeft}
pub use Rattle.rpds_hash_trie.specs.HashTrie.{Stored, Trie, found, matches, unmatched}
pub use Rattle.rpds_hash_trie.specs.HashedMap.{AllApart, AllHashed, HashedMap, IsHashed, IsMap, find, key_hash, pairs_of, without}
pub use Rattle.rpds_hash.specs.HashedSet.{IsPutMember, find_member, is_disjoint, is_subset, without_member}
pub use Rattle.rpds_hash.specs.PairsEqual.{as_map, pairs_equal}
