use Rattle.std.proofs.Common.{◌≡◌, ◌+◌, ◌≤◌, MatchBool, None, Some, arith, length, subst, sym}
use Rattle.std.proofs.lemmas.Cmp.{alike_right}
use Rattle.std.proofs.lemmas.Result.{on_ok_weaker}
use Rattle.std.specs.Ordering.{is_eq}
use Rattle.rpds_core.proofs.Counts.{within_more, within_then}
use Rattle.rpds_red_black.proofs.Pairs.{length_put}
use Rattle.rpds_red_black.specs.Pairs.{find, put}
use Rattle.rpds_tree.proofs.Copied.{length_others}
use Rattle.rpds_tree.proofs.MergeSteps.{resolved, settled_in, settled_out}
use Rattle.rpds_tree.specs.Differences.{value_of}
use Rattle.rpds_tree.specs.Merges.{IsResolved}
use Rattle.rpds_tree.proofs.merging.settle_key.Goals as goal

pub returns-in_ok-clone-in-Some-clause-ok : goal.returns-in_ok-clone-in-Some-clause-ok
returns-in_ok-clone-in-Some-clause-ok g c =
    let R = g.K.Ord.cmp in
    let o = g.met.K.Ord.total in
    let key = c.args.key.now in
    let base = c.args.base.now.entries in
    let was = c.args.map.now.entries in
    let theirs = c.args.theirs.now.entries in
    let says : IsResolved R g.F.Fn c.args.resolve.now key (value_of R key base) (value_of R key was) (value_of R key theirs) (Some c.in-Some.value) =
    resolved o g.V.PartialEq.eq base was theirs key g.F.Fn c.args.resolve.now c.args.key c.value_counted-before.result c.value_counted-our.result c.value_counted-their.result
    (value_of R key base) (value_of R key was) (value_of R key theirs) c.in_ok-value.field-0 (Some c.in-Some.value) c.value_counted-before.ensures.found c.value_counted-our.ensures.found
    c.value_counted-their.ensures.found c.in_ok-value.ensures c.in-Some.is in
    let clone = c.in_ok-clone-in-Some.field-0 in
    let value = c.in-Some.value in
    let tied = c.requires.clone_keys key clone c.in_ok-clone-in-Some.ensures.cases in
    on_ok_weaker c.insert_mut_counted.result (λ is. (
      Some value,
      says,
      λ k. subst (λ es. MatchBool (is_eq (R k key)) (value_of R k es ≡ Some value) (find R k es ≡ find R k was)) (sym is)
          (subst (λ t. MatchBool (is_eq t) (value_of R k (put R (clone, value) was) ≡ Some value) (find R k (put R (clone, value) was) ≡ find R k was))
          (sym (alike_right o key clone k tied)) (settled_in o g.V.PartialEq.eq base was theirs clone value was k)),
    )) c.insert_mut_counted.ensures.ok

pub returns-in_ok-remove_mut_counted-in-None-clause-ok : goal.returns-in_ok-remove_mut_counted-in-None-clause-ok
returns-in_ok-remove_mut_counted-in-None-clause-ok g c =
    let R = g.K.Ord.cmp in
    let o = g.met.K.Ord.total in
    let key = c.args.key.now in
    let base = c.args.base.now.entries in
    let was = c.args.map.now.entries in
    let theirs = c.args.theirs.now.entries in
    let says : IsResolved R g.F.Fn c.args.resolve.now key (value_of R key base) (value_of R key was) (value_of R key theirs) None =
    resolved o g.V.PartialEq.eq base was theirs key g.F.Fn c.args.resolve.now c.args.key c.value_counted-before.result c.value_counted-our.result c.value_counted-their.result
    (value_of R key base) (value_of R key was) (value_of R key theirs) c.in_ok-value.field-0 None c.value_counted-before.ensures.found c.value_counted-our.ensures.found
    c.value_counted-their.ensures.found c.in_ok-value.ensures c.in-None.is in
    (None, says, λ k. rw c.in_ok-remove_mut_counted-in-None.ensures.ok (settled_out o g.V.PartialEq.eq base was theirs key was k))

pub returns-in_ok-clone-in-Some-clause-more : goal.returns-in_ok-clone-in-Some-clause-more
returns-in_ok-clone-in-Some-clause-more g c =
    on_ok_weaker c.insert_mut_counted.result (λ is. (let more : length c.insert_mut_counted.new.self.entries ≤ length c.args.map.now.entries + 1 = rw is
    (length_put g.K.Ord.cmp _ _) in more)) c.insert_mut_counted.ensures.ok

pub returns-in_ok-remove_mut_counted-in-None-clause-more : goal.returns-in_ok-remove_mut_counted-in-None-clause-more
returns-in_ok-remove_mut_counted-in-None-clause-more g c =
    rw c.in_ok-remove_mut_counted-in-None.ensures.ok (omega (arith, length_others (g.K.Ord.cmp c.args.key.now) c.args.map.now.entries))

pub returns-in_err-value-clause-steps : goal.returns-in_err-value-clause-steps
returns-in_err-value-clause-steps g c =
    within_more (within_then (within_then c.value_counted-before.ensures.steps c.value_counted-our.ensures.steps) c.value_counted-their.ensures.steps) (omega arith) (omega arith)

pub returns-in_err-clone-in-Some-clause-steps : goal.returns-in_err-clone-in-Some-clause-steps
returns-in_err-clone-in-Some-clause-steps g c =
    within_more (within_then (within_then c.value_counted-before.ensures.steps c.value_counted-our.ensures.steps) c.value_counted-their.ensures.steps) (omega arith) (omega arith)

pub returns-in_ok-clone-in-Some-clause-steps : goal.returns-in_ok-clone-in-Some-clause-steps
returns-in_ok-clone-in-Some-clause-steps g c =
    within_more (within_then (within_then (within_then c.value_counted-before.ensures.steps c.value_counted-our.ensures.steps) c.value_counted-their.ensures.steps) c.insert_mut_counted.ensures.steps) (omega arith) (omega arith)

pub returns-in_err-remove_mut_counted-in-None-clause-steps : goal.returns-in_err-remove_mut_counted-in-None-clause-steps
returns-in_err-remove_mut_counted-in-None-clause-steps g c =
    within_more (within_then (within_then (within_then c.value_counted-before.ensures.steps c.value_counted-our.ensures.steps) c.value_counted-their.ensures.steps) c.in_err-remove_mut_counted-in-None.ensures.steps) (omega arith) (omega arith)

pub returns-in_ok-remove_mut_counted-in-None-clause-steps : goal.returns-in_ok-remove_mut_counted-in-None-clause-steps
returns-in_ok-remove_mut_counted-in-None-clause-steps g c =
    within_more (within_then (within_then (within_then c.value_counted-before.ensures.steps c.value_counted-our.ensures.steps) c.value_counted-their.ensures.steps) c.in_ok-remove_mut_counted-in-None.ensures.steps) (omega arith) (omega arith)
