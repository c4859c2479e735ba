use Rattle.rpds_hash.proofs.Words.{sym, ap, ◌∙◌, subst, arith, length, Entry}
use Rattle.rpds_hash_trie.specs.HashedMap.{AllHashed, key_hash}
use Rattle.rpds_hash.proofs.map.hash_trie_map.merge.all_hashed.Goals as goal

pub loop-stored-init : goal.loop-stored-init
loop-stored-init g c =
    let hash = key_hash g.H.BuildHasher g.H.Hasher.Hasher g.K.Hash.hash_input c.args.hasher.now in
    λ all. subst (AllHashed hash) c.over-walk.ensures all

pub loop-stored-smaller : goal.loop-stored-smaller
loop-stored-smaller g c = omega (arith, ap length c.in-Some.ensures)

pub loop-stored-preserved : goal.loop-stored-preserved
loop-stored-preserved g c =
    let hash = key_hash g.H.BuildHasher g.H.Hasher.Hasher g.K.Hash.hash_input c.args.hasher.now in
    let same = sym c.if-hash-stored.false ∙ c.hash.ensures ∙ ap (λ (e : Entry g.row.K.Denot g.row.V.Denot). hash e.key) c.deref.ensures in
    λ left. c.loop-stored.invariant (subst (AllHashed hash) (sym c.in-Some.ensures) (same, left))

pub returns : goal.returns
returns g c =
    let hash = key_hash g.H.BuildHasher g.H.Hasher.Hasher g.K.Hash.hash_input c.args.hasher.now in
    λ _. c.loop-stored.invariant (subst (AllHashed hash) (sym c.in_default.ensures) tt)
