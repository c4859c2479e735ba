use Rattle.rpds_hash_trie.proofs.Words.{ap, ◌∙◌, seen}
use Rattle.rpds_hash_trie.proofs.NodeRemoveMut.{seen_without}
use Rattle.rpds_hash_trie.proofs.in_place.remove_child.Goals as goal

pub returns-in-None-clause-ok : goal.returns-in-None-clause-ok
returns-in-None-clause-ok g c = (c.in-None.ensures, ap seen c.remove.ensures ∙ seen_without c.args.place c.args.children.now)
