use Rattle.rpds_tree.proofs.FormLaws.{found_among_others, sought_gone, sought_put, sought_same, sought_tied}
use Rattle.rpds_tree.proofs.laws.form_is_lawful.Goals as goal

pub returns : goal.returns
returns g c = record {
  same = λ q. sought_same g.met.K.Ord.total (g.met.Q.OrdKey.searches q);
  tied = λ q. sought_tied (g.Q.OrdKey.order (g.Q.OrdKey.seen q));
  put = λ q. sought_put g.met.K.Ord.total (g.met.Q.OrdKey.searches q);
  absent = λ q. sought_gone (g.Q.OrdKey.order (g.Q.OrdKey.seen q));
  others = λ q. found_among_others g.met.K.Ord.total (g.met.Q.OrdKey.searches q);
}
