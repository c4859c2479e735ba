use Rattle.std.proofs.lemmas.Cmp.{tied_itself}
use Rattle.rpds_tree.proofs.FormLaws.{sought_at, sought_beside}
use Rattle.rpds_tree.proofs.laws.put_form_is_lawful.Goals as goal

pub returns : goal.returns
returns g c =
    let finds = g.met.Q.OrdKey.searches c.args.form in
    record {
      found = λ tied value es. sought_at g.met.K.Ord.total finds (c.args.key.now, value) es tied;
      others = λ apart value es. sought_beside g.met.K.Ord.total finds (c.args.key.now, value) es apart;
      itself = tied_itself g.met.K.Ord.total c.args.key.now;
    }
