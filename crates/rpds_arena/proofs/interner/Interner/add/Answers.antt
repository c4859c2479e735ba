use Rattle.std.proofs.Common.{◌≡◌, ◌++◌, ◌∷◌, [], Some, length, ap, arith, subst, sym, ◌∙◌, true}
use Rattle.std.proofs.lemmas.Grind.{common_steps}
use Rattle.rpds_hash_trie.specs.HashedMap.{HashedMap, without}
use Rattle.rpds_arena.specs.Ids.{number_of}
use Rattle.rpds_arena.specs.Interned.{place_of}
use Rattle.rpds_arena.specs.Numbered.{IsNumbered}
use Rattle.rpds_arena.proofs.Places.{numbered_pushed, numbered_strayed, numbered_taken, place_pushed}
use Rattle.rpds_arena.proofs.interner.Interner.add.Goals as goal

pub invariant_of-self-in-Ok : goal.invariant_of-self-in-Ok
invariant_of-self-in-Ok g c =
    let eq = g.T.PartialEq.eq in
    let items = c.args.self.now in
    let ids = c.self.inside.ids.entries in
    let strays = c.self.inside.has_strays in
    let entry = c.in_ok-entry.entry.value in
    let new = c.insert_shared_mut.new.self.entries in
    let before = subst (λ l. IsNumbered eq strays l ids) c.self.view_is c.self.invariant in
    let key : entry.key ≡ c.args.value = grind (arith, common_steps, c.requires.clone_values) in
    let next : number_of entry.value ≡ length items = grind (arith, common_steps) in
    let whole : c.put.new.self ≡ items ++ c.args.value ∷ [] = grind (arith, common_steps) in
    let pushed = numbered_pushed g.met.T.Eq.laws strays items ids before c.args.value c.requires.absent new entry.key entry.value key c.in_ok-insert_shared_mut.ensures.found next in
    subst (λ l. IsNumbered eq strays l new) (sym whole) pushed

pub returns-in-Ok-clause-id : goal.returns-in-Ok-clause-id
returns-in-Ok-clause-id g c =
    let items = c.args.self.now in
    let whole : c.put.new.self ≡ items ++ c.args.value ∷ [] = grind (arith, common_steps) in
    let next : number_of c.in-Ok.id ≡ length items = grind (arith, common_steps) in
    ap (place_of g.T.PartialEq.eq c.args.value) whole ∙ place_pushed g.met.T.Eq.laws c.args.value items c.requires.absent ∙ ap Some (sym next)

pub invariant_of-self-in-Ok-remove_mut : goal.invariant_of-self-in-Ok-remove_mut
invariant_of-self-in-Ok-remove_mut g c =
    let eq = g.T.PartialEq.eq in
    let items = c.args.self.now in
    let ids = c.self.inside.ids.entries in
    let strays = c.self.inside.has_strays in
    let entry = c.in_ok-entry.entry.value in
    let new = c.insert_shared_mut.new.self.entries in
    let before = subst (λ l. IsNumbered eq strays l ids) c.self.view_is c.self.invariant in
    let key : entry.key ≡ c.args.value = grind (arith, common_steps, c.requires.clone_values) in
    let kept : c.deref.result.now.key ≡ c.args.value = grind (arith, common_steps, c.requires.clone_values) in
    let same : c.put.new.self ≡ items = grind (arith, common_steps) in
    let left = ap (λ (m : HashedMap _ _ _). m.entries) c.in-Ok-remove_mut.ensures.ok ∙ ap (λ k. without eq k new) kept in
    let taken = numbered_taken g.met.T.Eq.laws strays items ids before c.args.value c.requires.absent new entry.key entry.value key c.in_ok-insert_shared_mut.ensures.found in
    subst (λ l. IsNumbered eq strays l c.remove_mut.new.self.entries) (sym same) (subst (λ l. IsNumbered eq strays items l) (sym left) taken)

pub invariant_of-self-in-Err-remove_mut : goal.invariant_of-self-in-Err-remove_mut
invariant_of-self-in-Err-remove_mut g c =
    let eq = g.T.PartialEq.eq in
    let items = c.args.self.now in
    let ids = c.self.inside.ids.entries in
    let strays = c.self.inside.has_strays in
    let entry = c.in_ok-entry.entry.value in
    let new = c.insert_shared_mut.new.self.entries in
    let before = subst (λ l. IsNumbered eq strays l ids) c.self.view_is c.self.invariant in
    let key : entry.key ≡ c.args.value = grind (arith, common_steps, c.requires.clone_values) in
    let same : c.put.new.self ≡ items = grind (arith, common_steps) in
    let left = ap (λ (m : HashedMap _ _ _). m.entries) c.in-Err-remove_mut.ensures.err in
    let strayed = numbered_strayed g.met.T.Eq.laws strays items ids before c.args.value c.requires.absent new entry.key entry.value key c.in_ok-insert_shared_mut.ensures.found in
    subst (λ l. IsNumbered eq true l c.remove_mut.new.self.entries) (sym same) (subst (λ l. IsNumbered eq true items l) (sym left) strayed)
