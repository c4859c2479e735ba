use Rattle.rpds_hash_trie.proofs.Words.{ℕ, suc, sym, ap, ◌≡◌, ◌+◌, ◌∙◌, ◌<◌, ◌^◌, ◌∷◌, ◌++◌, [], arith, add-one, stored, made_more, IsSound}
use Rattle.rpds_hash_trie.specs.HashTrie.{level_count, levels_between}
use Rattle.rpds_hash_trie.proofs.Digits.{agree_more, digit_of, not_full}
use Rattle.rpds_hash_trie.proofs.Counts.{made_above, made_with}
use Rattle.rpds_hash_trie.proofs.NodeInsert.{IsNewBranch, chain_made, branch_held, collision_two}
use Rattle.rpds_hash_trie.proofs.Reach.{join_levels}
use Rattle.rpds_hash_trie.proofs.node.Node.+join.Given.{Over}
use Rattle.rpds_hash_trie.proofs.node.Node.+join.Goals as goal
use Rattle.rpds_hash_trie.proofs.node.Node.+join.Goals.{In_ok-joined, Then-old_place-new_place}

-- both hashes share the level
shares : (g : Over) (t : ℕ) (c : Then-old_place-new_place g t) → levels_between c.args.bits c.args.depth c.args.old.key_hash c.args.new.key_hash ≡ suc (levels_between c.args.bits (c.args.depth + 1) c.args.old.key_hash c.args.new.key_hash)
shares g t c =
    let left : c.args.depth < level_count c.args.bits = not_full c.args.bits c.args.depth c.requires.bits_in.0 c.requires.bits_in.1 c.if-shift-ge64.false in
    join_levels c.args.bits c.args.depth c.args.old.key_hash c.args.new.key_hash left c.requires.alike

pub colliding-requires : goal.colliding-requires
colliding-requires g t c =
    let ol : c.args.old.key_hash < 2 ^ 64 = omega arith in
    let nl : c.args.new.key_hash < 2 ^ 64 = omega arith in
    let items = c.push_reserved.ensures.items ∙ ap (λ l. l ++ (c.args.old ∷ [])) c.in_ok-others.ensures.items in
    collision_two c.args.bits c.args.depth c.args.old c.args.new c.push_reserved.new.self.items c.requires.bits_in c.requires.deep c.if-shift-ge64.true ol nl c.requires.alike items

pub join-requires : goal.join-requires
join-requires g t c κs within =
    let left : c.args.depth < level_count c.args.bits = not_full c.args.bits c.args.depth c.requires.bits_in.0 c.requires.bits_in.1 c.if-shift-ge64.false in
    let old = digit_of c.args.bits c.args.depth c.args.old.key_hash c.place_of-old_place.result c.place_of-old_place.ensures.value in
    let new = digit_of c.args.bits c.args.depth c.args.new.key_hash c.place_of-new_place.result c.place_of-new_place.ensures.value in
    let more = agree_more c.args.bits c.args.depth c.args.old.key_hash c.args.new.key_hash c.requires.alike (sym old ∙ c.if-old_place-new_place.true ∙ new) in
    (omega (arith, c.decreases), (within.0, (within.1.0, (within.1.1, (c.requires.bits_in, (omega arith, rw add-one more))))))

-- the one child of both entries
chained : (g : Over) (t : ℕ) (c : In_ok-joined g t) → IsSound c.in_ok-joined.joined → IsNewBranch c.args.bits c.args.depth ((c.place_of-old_place.result, c.in_ok-joined.joined) ∷ []) (stored c.args.new ∷ stored c.args.old ∷ [])
chained g t c sound =
    let left : c.args.depth < level_count c.args.bits = not_full c.args.bits c.args.depth c.requires.bits_in.0 c.requires.bits_in.1 c.if-shift-ge64.false in
    let old = digit_of c.args.bits c.args.depth c.args.old.key_hash c.place_of-old_place.result c.place_of-old_place.ensures.value in
    let other = digit_of c.args.bits c.args.depth c.args.new.key_hash c.place_of-new_place.result c.place_of-new_place.ensures.value in
    let both = c.in_ok-joined.ensures.ok in
    chain_made c.args.bits c.args.depth c.requires.bits_in left (stored c.args.old) (stored c.args.new) c.requires.alike c.place_of-old_place.result c.in_ok-joined.joined
    (sym old) (sym other ∙ sym c.if-old_place-new_place.true) both.bits (both.depth ∙ add-one c.args.depth) sound both.entries

pub chain-requires-clause-sound : goal.chain-requires-clause-sound
chain-requires-clause-sound g t c = (chained g t (goal.at.chain-requires-clause-sound g t c).In_ok-joined c.prove_sound.ensures).sound

pub returns-in_ok-joined-clause-ok : goal.returns-in_ok-joined-clause-ok
returns-in_ok-joined-clause-ok g t c = branch_held (chained g t (goal.at.returns-in_ok-joined-clause-ok g t c).In_ok-joined c.prove_sound.ensures) c.chain.result c.chain.ensures.ok

pub returns-else-old_place-new_place-clause-made : goal.returns-else-old_place-new_place-clause-made
returns-else-old_place-new_place-clause-made g t c =
    let left : c.args.depth < level_count c.args.bits = not_full c.args.bits c.args.depth c.requires.bits_in.0 c.requires.bits_in.1 c.if-shift-ge64.false in
    made_more c.fork.ensures.made (omega (arith, join_levels c.args.bits c.args.depth c.args.old.key_hash c.args.new.key_hash left c.requires.alike))

pub returns-in_err-joined-clause-made : goal.returns-in_err-joined-clause-made
returns-in_err-joined-clause-made g t c = made_above 2 c.join.ensures.made (shares g t (goal.at.returns-in_err-joined-clause-made g t c).Then-old_place-new_place)

pub returns-in_ok-joined-clause-made : goal.returns-in_ok-joined-clause-made
returns-in_ok-joined-clause-made g t c = made_with 2 c.join.ensures.made (shares g t (goal.at.returns-in_ok-joined-clause-made g t c).Then-old_place-new_place) c.chain.ensures.made
