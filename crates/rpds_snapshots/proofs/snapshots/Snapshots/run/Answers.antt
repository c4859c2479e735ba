use Rattle.std.proofs.Common.{rules, ◌≡◌, append_assoc, arith, length, length-append, sym, ◌∙◌, ap, ◌++◌, [], ◌∷◌, refl}
use Rattle.std.proofs.lemmas.List.{append-nil, nil_from_length}
use Rattle.rpds_snapshots.proofs.History.{keeps_more, own_more}
use Rattle.rpds_snapshots.proofs.Runs.{run_more}
use Rattle.rpds_snapshots.proofs.snapshots.Snapshots.run.Goals as goal

pub loop-command-init : goal.loop-command-init
loop-command-init g c =
    let none : c.in_ok-replies.replies.items ≡ [] = search rules in
    record {
      run = rw none refl;
      own = rw none (record { current = refl; snapshots = λ n. refl });
      kept = ([], sym (append-nil c.args.self.now.taken));
      rest = search rules;
      replied = search rules;
      room = search rules;
    }

pub loop-command-preserved : goal.loop-command-preserved
loop-command-preserved g c =
    let i = c.loop-command.invariant in
    let cs = c.loop-command.yielded in
    let ys = c.loop-command.replies.items in
    let replied : length cs ≡ length ys = search (rules, i.replied) in
    record {
      run = rw c.in-Ok.ensures.items (run_more g.K.Ord.cmp cs ys c.args.self.now c.loop-command.self c.apply-reply.new.self c.in-Some.command
          c.apply-reply.result i.run c.apply-reply.ensures);
      own = rw c.in-Ok.ensures.items (own_more g.K.Ord.cmp c.args.self.now c.loop-command.self c.apply-reply.new.self cs ys c.in-Some.command
          c.apply-reply.result replied i.own c.apply-reply.ensures);
      kept = keeps_more g.K.Ord.cmp c.args.self.now c.loop-command.self c.apply-reply.new.self c.in-Some.command c.apply-reply.result i.kept
          c.apply-reply.ensures;
      rest = i.rest ∙ ap (λ r. cs ++ r) c.in-Some.ensures.steps.0 ∙ sym (append_assoc cs (c.in-Some.command ∷ []) c.next.new.self.rest.items);
      replied = omega (arith, c.in-Ok.ensures.len, i.replied, length-append cs (c.in-Some.command ∷ []));
      room = search rules;
    }

pub returns-clause-own : goal.returns-clause-own
returns-clause-own g c =
    let rest = c.loop-command.command-iterator.rest in
    let none : rest.items ≡ [] = nil_from_length rest.items (search (rules, c.in-None.ensures.steps.0)) in
    let all = c.loop-command.invariant.rest ∙ ap (λ r. c.loop-command.yielded ++ r) none ∙ append-nil c.loop-command.yielded in
    rw all c.loop-command.invariant.own
