use Rattle.rpds_hash_trie.proofs.Words.{sym, ap, ◌∙◌, arith, seen}
use Rattle.rpds_hash_trie.proofs.SiftedChildren.{none_below}
use Rattle.rpds_hash_trie.proofs.sift.first_children.Goals as goal

pub loop-at-init : goal.loop-at-init
loop-at-init g c = ap seen c.in_ok-kept.ensures ∙ sym (none_below 0 0 (seen c.args.children.now) c.requires.ascend (omega arith))
