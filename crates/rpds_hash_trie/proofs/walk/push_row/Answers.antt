use Rattle.std.proofs.Common.{◌<◌, length, arith, lit<}
use Rattle.rpds_hash_trie.specs.Places.{behind}
use Rattle.rpds_hash_trie.proofs.NodeRemove.{some_from}
use Rattle.rpds_hash_trie.proofs.WalkRows.{fits_some, length_behind}
use Rattle.rpds_hash_trie.proofs.walk.push_row.Goals as goal

pub push-requires : goal.push-requires
push-requires g c =
    let some : 0 < length c.args.row.now = some_from _ _ c.is_empty.ensures c.if-not-is_empty.true in
    (lit< tt, fits_some (length c.args.stack.now) (behind c.args.row.now) (omega (arith, length_behind c.args.row.now)) c.requires.fits)

pub returns-then-not-is_empty-clause-room : goal.returns-then-not-is_empty-clause-room
returns-then-not-is_empty-clause-room g c =
    let some : 0 < length c.args.row.now = some_from _ _ c.is_empty.ensures c.if-not-is_empty.true in
    rw c.push.ensures ((some, c.requires.fits), c.requires.room)
