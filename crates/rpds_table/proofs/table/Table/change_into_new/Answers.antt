use Rattle.std.proofs.Common.{rules, sym, ap, subst, ◌∙◌, ◌≡◌, ◌==◌, Some, slice_get, length, false, refl}
use Rattle.std.specs.Option.{option_copied}
use Rattle.rpds_hash.specs.HashedMap.{key_hash}
use Rattle.rpds_table.specs.Budgets.{Budget}
use Rattle.rpds_table.specs.Compared.{compared}
use Rattle.rpds_table.specs.Kinds.{Same, budget_of_op, outcome_of_op}
use Rattle.rpds_table.specs.Outcomes.{greatest, SameOutcome}
use Rattle.rpds_table.specs.Replies.{reply_of}
use Rattle.rpds_table.specs.declared.table.outcome.Outcome.TheVariants.{Becomes}
use Rattle.rpds_table.proofs.Spent.{within_reported, within_made, within_added}
use Rattle.rpds_table.proofs.Transitions.{made_into_new, reported_into_new}
use Rattle.rpds_table.proofs.table.Table.change_into_new.Goals as goal

pub returns-in-Becomes : goal.returns-in-Becomes
returns-in-Becomes g c =
    let t = c.args.self.now.versions in
    let v = c.in-Some.version.now in
    let keys = compared g.K.PartialEq.eq g.K.Ord.cmp in
    let hash = key_hash g.H.BuildHasher g.H.Hasher.Hasher g.K.Hash.hash_input in
    let found : slice_get t c.args.index ≡ Some v = sym c.find.ensures.found ∙ ap option_copied c.in-Some.is in
    let space : (length t == greatest) ≡ false = search (rules, c.find.ensures.room) in
    let made : SameOutcome Same (outcome_of_op keys v c.args.op) (Becomes c.in-Becomes.version) = subst (SameOutcome Same (outcome_of_op keys v c.args.op))
    c.in-Becomes.is c.in_ok-outcome.ensures.made in
    let b : Budget = budget_of_op v c.args.op in
    record {
      hasher = c.add.ensures.hasher;
      change = made_into_new keys hash t c.args.index (λ v. outcome_of_op keys v c.args.op) v found space c.in-Becomes.version (reply_of c.add.result)
          c.add.new.self.versions made c.add.ensures.added;
      counts = rw found (within_added b c.args.steps.now c.with_op.new.steps c.in-Becomes.version t c.add.new.self.versions (reply_of c.add.result) keys
          hash c.add.ensures.added (within_made b c.args.steps.now c.with_op.new.steps c.in_ok-outcome.outcome c.in-Becomes.version c.in-Becomes.is
          c.in_ok-outcome.ensures.counts));
    }

pub returns-in_default-2 : goal.returns-in_default-2
returns-in_default-2 g c =
    let t = c.args.self.now.versions in
    let v = c.in-Some.version.now in
    let keys = compared g.K.PartialEq.eq g.K.Ord.cmp in
    let hash = key_hash g.H.BuildHasher g.H.Hasher.Hasher g.K.Hash.hash_input in
    let found : slice_get t c.args.index ≡ Some v = sym c.find.ensures.found ∙ ap option_copied c.in-Some.is in
    let b : Budget = budget_of_op v c.args.op in
    record {
      hasher = refl;
      change = rw c.reply.ensures (reported_into_new keys hash t c.args.index (λ v. outcome_of_op keys v c.args.op) v found c.in_ok-outcome.outcome
          c.in_default-2.not-Becomes c.in_ok-outcome.ensures.made);
      counts = rw (c.reply.ensures, found) (within_reported b c.args.steps.now c.with_op.new.steps c.in_ok-outcome.outcome c.in_ok-outcome.ensures.counts);
    }
