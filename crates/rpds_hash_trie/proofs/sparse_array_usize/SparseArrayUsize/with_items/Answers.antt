use Rattle.std.proofs.Common.{sym, ap, ◌∙◌, length, zip}
use Rattle.rpds_hash_trie.specs.Places.{places_of}
use Rattle.rpds_hash_trie.proofs.ArraySet.{others_held, others_placed}
use Rattle.rpds_hash_trie.proofs.sparse_array_usize.SparseArrayUsize.with_items.Goals as goal

pub invariant_of-result : goal.invariant_of-result
invariant_of-result g c =
    others_held c.self.inside.bitmap c.self.inside.items.items c.args.items.items c.self.invariant (c.requires ∙ ap length (sym c.self.view_is))

pub returns : goal.returns
returns g c =
    others_placed c.self.inside.bitmap c.self.inside.items.items c.args.items.items c.self.invariant (c.requires ∙ ap length (sym c.self.view_is))
    ∙ ap (λ l. zip (places_of l) c.args.items.items) c.self.view_is
