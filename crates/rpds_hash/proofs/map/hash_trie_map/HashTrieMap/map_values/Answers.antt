use Rattle.std.proofs.Common.{refl}
use Rattle.rpds_core.proofs.Values.{value_found}
use Rattle.rpds_hash.proofs.Words.{IfOk-weaker}
use Rattle.rpds_hash.proofs.ValuesMapped.{is_mapped, still_map}
use Rattle.rpds_hash.proofs.map.hash_trie_map.HashTrieMap.map_values.Goals as goal

pub of_root-requires-clause-sound : goal.of_root-requires-clause-sound
of_root-requires-clause-sound g c =
    rw (← c.self.view_is) (still_map g.F.Fn c.args.change c.self.inside.root c.in_ok-root.root c.in_ok-root.ensures c.self.inside.size c.self.invariant)

pub returns-clause-ok : goal.returns-clause-ok
returns-clause-ok g c =
    let mapped = is_mapped g.F.Fn c.args.change c.self.inside.hasher c.self.inside.root c.in_ok-root.root c.args.self.now in
    IfOk-weaker c.of_root.result _ _ (λ m is. (mapped m c.in_ok-root.ensures c.self.view_is is).pairs) c.of_root.ensures

pub returns-clause-found : goal.returns-clause-found
returns-clause-found g c =
    let mapped = is_mapped g.F.Fn c.args.change c.self.inside.hasher c.self.inside.root c.in_ok-root.root c.args.self.now in
    IfOk-weaker c.of_root.result _ _ (λ m is. (m.entries, (mapped m c.in_ok-root.ensures c.self.view_is is).pairs, λ k. refl)) c.of_root.ensures

pub returns-clause-values : goal.returns-clause-values
returns-clause-values g c =
    let mapped = is_mapped g.F.Fn c.args.change c.self.inside.hasher c.self.inside.root c.in_ok-root.root c.args.self.now in
    IfOk-weaker c.of_root.result _ _ (λ m is h acts k. value_found g.F.Fn c.args.change h acts (λ j. g.K.PartialEq.eq j k) c.args.self.now.entries m.entries
    (mapped m c.in_ok-root.ensures c.self.view_is is).pairs) c.of_root.ensures

pub returns-clause-degree : goal.returns-clause-degree
returns-clause-degree g c =
    let mapped = is_mapped g.F.Fn c.args.change c.self.inside.hasher c.self.inside.root c.in_ok-root.root c.args.self.now in
    IfOk-weaker c.of_root.result _ _ (λ m is. (mapped m c.in_ok-root.ensures c.self.view_is is).degree) c.of_root.ensures

pub returns-clause-hasher : goal.returns-clause-hasher
returns-clause-hasher g c =
    let mapped = is_mapped g.F.Fn c.args.change c.self.inside.hasher c.self.inside.root c.in_ok-root.root c.args.self.now in
    IfOk-weaker c.of_root.result _ _ (λ m is. (mapped m c.in_ok-root.ensures c.self.view_is is).hasher) c.of_root.ensures
