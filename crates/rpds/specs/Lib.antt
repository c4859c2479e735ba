-- The words that the contracts of `rpds` cite, handed on from the crates below.

-- counts of work, forms of keys, texts, loans
pub use Rattle.rpds_core.specs.Counts
pub use Rattle.rpds_core.specs.Keys
pub use Rattle.rpds_core.specs.MapText
pub use Rattle.rpds_core.specs.SetText
pub use Rattle.rpds_core.specs.ValueLends
-- lists, queues and stacks
pub use Rattle.rpds_list.specs.Chain
pub use Rattle.rpds_list.specs.QueueContents
pub use Rattle.rpds_list.specs.QueueText
pub use Rattle.rpds_list.specs.StackText
-- histories
pub use Rattle.rpds_history.specs.HistoryContents
-- vectors
pub use Rattle.rpds_vector.specs.Remade
pub use Rattle.rpds_vector.specs.Trie
pub use Rattle.rpds_vector.specs.VectorContents
pub use Rattle.rpds_vector.specs.VectorLends
pub use Rattle.rpds_vector.specs.Width
-- sequences
pub use Rattle.rpds_sequence.specs.SequenceLends
-- maps and sets of both kinds
pub use Rattle.rpds_core.specs.Calls
pub use Rattle.rpds_core.specs.OptionFilter
-- hashed maps and sets, sparse arrays
pub use Rattle.rpds_hash_trie.specs.Digits
pub use Rattle.rpds_hash_trie.specs.HashChanges
pub use Rattle.rpds_hash.specs.HashDifferences
pub use Rattle.rpds_hash.specs.HashFilled
pub use Rattle.rpds_hash.specs.HashMapLends
pub use Rattle.rpds_hash.specs.HashMerges
pub use Rattle.rpds_hash.specs.HashUnited
pub use Rattle.rpds_hash_trie.specs.HashedMap
pub use Rattle.rpds_hash.specs.HashedSet
pub use Rattle.rpds_hash.specs.MembersEqual
pub use Rattle.rpds_hash.specs.PairsEqual
pub use Rattle.rpds_hash_trie.specs.Places
pub use Rattle.rpds_hash_trie.specs.SparseArrayLends
-- ordered maps and sets
pub use Rattle.rpds_tree.specs.Algebra
pub use Rattle.rpds_tree.specs.Altered
pub use Rattle.rpds_tree.specs.Differences
pub use Rattle.rpds_tree.specs.Filled
pub use Rattle.rpds_red_black.specs.Logarithm
pub use Rattle.rpds_tree.specs.MapLends
pub use Rattle.rpds_tree.specs.Merges
pub use Rattle.rpds_tree.specs.NearMembers
pub use Rattle.rpds_red_black.specs.Neighbors
pub use Rattle.rpds_red_black.specs.OrderedMap
pub use Rattle.rpds_tree.specs.OrderedSet
pub use Rattle.rpds_red_black.specs.Pairs
pub use Rattle.rpds_red_black.specs.Positions
pub use Rattle.rpds_red_black.specs.Ranges
pub use Rattle.rpds_tree.specs.Sorted
pub use Rattle.rpds_tree.specs.United
pub use Rattle.rpds_red_black.specs.Values
-- branches of ordered maps
pub use Rattle.rpds_branch.specs.Branches
-- arenas and interners
pub use Rattle.rpds_arena.specs.Folded
pub use Rattle.rpds_arena.specs.Ids
pub use Rattle.rpds_arena.specs.Interned
pub use Rattle.rpds_arena.specs.Numbered
-- an ordered map with snapshots
pub use Rattle.rpds_snapshots.specs.SnapshotContents
pub use Rattle.rpds_snapshots.specs.SnapshotHistory
pub use Rattle.rpds_snapshots.specs.SnapshotRefusal
pub use Rattle.rpds_snapshots.specs.SnapshotText
pub use Rattle.rpds_snapshots.specs.Snapshots
-- the table of versions
pub use Rattle.rpds_table.specs.Answers
pub use Rattle.rpds_table.specs.Asked
pub use Rattle.rpds_table.specs.Budgets
pub use Rattle.rpds_table.specs.Compared
pub use Rattle.rpds_table.specs.History
pub use Rattle.rpds_hash.specs.Identity
pub use Rattle.rpds_table.specs.Kinds
pub use Rattle.rpds_table.specs.LookUps
pub use Rattle.rpds_table.specs.Outcomes
pub use Rattle.rpds_table.specs.Questions
pub use Rattle.rpds_table.specs.Refusal
pub use Rattle.rpds_table.specs.Replies
pub use Rattle.rpds_table.specs.SameTables
pub use Rattle.rpds_table.specs.Spent
pub use Rattle.rpds_table.specs.TableContents
pub use Rattle.rpds_table.specs.Texts
pub use Rattle.rpds_table.specs.Transitions
