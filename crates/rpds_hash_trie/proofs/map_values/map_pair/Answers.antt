use Rattle.std.proofs.Common.{refl}
use Rattle.std.proofs.lemmas.Fn.{says_at}
use Rattle.rpds_hash_trie.proofs.map_values.map_pair.Goals as goal

pub returns : goal.returns
returns g c = record {
  key = c.requires.clone_keys c.args.entry.now.key c.in_ok-key.key c.in_ok-key.ensures.cases;
  value = says_at g.F.Fn c.in_ok-value.ensures refl;
}
