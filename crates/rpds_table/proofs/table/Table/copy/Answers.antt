use Rattle.std.proofs.Common.{rules, sym, ap, ◌∙◌, ◌≡◌, ◌==◌, Some, slice_get, length, false, refl}
use Rattle.std.proofs.lemmas.Result.{err_from_is_err_and}
use Rattle.std.specs.Option.{option_copied}
use Rattle.rpds_hash.specs.HashedMap.{key_hash}
use Rattle.rpds_table.specs.Compared.{compared}
use Rattle.rpds_table.specs.Outcomes.{greatest}
use Rattle.rpds_table.specs.Replies.{reply_of}
use Rattle.rpds_table.specs.declared.table.outcome.Outcome.TheVariants.{Becomes}
use Rattle.rpds_table.proofs.Transitions.{made_into_new, refused_into_new}
use Rattle.rpds_table.proofs.table.Table.copy.Goals as goal

pub returns-in_err-copy-clause-made : goal.returns-in_err-copy-clause-made
returns-in_err-copy-clause-made g c =
    let t = c.args.self.now.versions in
    let found : slice_get t c.args.index ≡ Some c.in-Some.version.now = sym c.find.ensures.found ∙ ap option_copied c.in-Some.is in
    let space : (length t == greatest) ≡ false = search (rules, c.find.ensures.room) in
    let error = err_from_is_err_and c.from_residual.result c.from_residual.ensures.1 in
    rw (error.1, error.2) (
      refl,
      refused_into_new (compared g.K.PartialEq.eq g.K.Ord.cmp) (key_hash g.H.BuildHasher g.H.Hasher.Hasher g.K.Hash.hash_input)
          t c.args.index (λ v. Becomes v) c.in-Some.version.now found space tt,
    )

pub returns-clause-made : goal.returns-clause-made
returns-clause-made g c =
    let t = c.args.self.now.versions in
    let found : slice_get t c.args.index ≡ Some c.in-Some.version.now = sym c.find.ensures.found ∙ ap option_copied c.in-Some.is in
    let space : (length t == greatest) ≡ false = search (rules, c.find.ensures.room) in (
      c.add.ensures.hasher,
      made_into_new (compared g.K.PartialEq.eq g.K.Ord.cmp) (key_hash g.H.BuildHasher g.H.Hasher.Hasher g.K.Hash.hash_input)
          t c.args.index (λ v. Becomes v) c.in-Some.version.now found space c.in_ok-copy.copy (reply_of c.add.result) c.add.new.self.versions
          c.in_ok-copy.ensures.shared c.add.ensures.added,
    )
