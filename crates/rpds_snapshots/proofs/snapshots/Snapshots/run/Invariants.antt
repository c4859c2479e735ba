use Rattle.std.proofs.Common.{◌≡◌, ◌≤◌, ◌++◌, length, vec_len, vec_capacity}
use Rattle.rpds_snapshots.specs.SnapshotHistory.{HoldsOwn, KeepsSnapshots}
use Rattle.rpds_snapshots.specs.Snapshots.{Run}
use Rattle.rpds_snapshots.proofs.snapshots.Snapshots.run.Given as goal

abbrev pub invariant-loop-command : goal.invariant-loop-command
invariant-loop-command g l =
    record {
      run : Run g.K.Ord.cmp l.fn.self l.yielded l.replies.items l.self;
      own : HoldsOwn g.K.Ord.cmp l.fn.self l.yielded l.replies.items l.self;
      kept : KeepsSnapshots l.fn.self l.self;
      rest : l.fn.commands.items ≡ l.yielded ++ l.command-iterator.rest.items;
      replied : vec_len l.replies ≡ length l.yielded;
      room : length l.fn.commands.items ≤ vec_capacity l.replies;
    }
