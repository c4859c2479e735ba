use Rattle.std.proofs.Common.{arith, ◌∙◌, ◌∷◌, [], ap, length}
use Rattle.rpds_core.specs.Rows.{behind}
use Rattle.rpds_nest.specs.Level.{contents}
use Rattle.rpds_nest.proofs.Rows.{push_tail, push_row, push_full}
use Rattle.rpds_nest.proofs.nest_vector.level.LevelChangeLevels.push.Goals as goal

pub returns-then-len-lt-DEGREE-clause-ok : goal.returns-then-len-lt-DEGREE-clause-ok
returns-then-len-lt-DEGREE-clause-ok g c =
    push_tail (g.R.Levels.items c.args.self.now.rows) c.args.self.now.tail c.push.new.self c.in_ok-item.item c.args.item.now.value c.in_ok-push.ensures.items c.in_ok-item.ensures

pub returns-clause-ok : goal.returns-clause-ok
returns-clause-ok g c =
    push_row (g.R.Levels.items c.args.self.now.rows) _ c.args.self.now.tail c.in_ok-full.full.value c.in_ok-next.next c.args.item.now.value c.in_ok-push-2.ensures.ok (ap contents c.in_ok-full.ensures.ok ∙ c.in_ok-copied.ensures.same ∙ ap behind c.deref.ensures.value) (c.in_ok-next.ensures ∙ ap (λ x. x ∷ []) c.in_ok-item.ensures)

pub returns-clause-sound : goal.returns-clause-sound
returns-clause-sound g c = record {
  sound = c.in_ok-push-2.ensures.sound;
  full = push_full (g.R.Levels.items c.args.self.now.rows) _ c.args.self.now.tail c.in_ok-full.full.value c.len.result c.requires.full c.in_ok-push-2.ensures.ok (ap contents c.in_ok-full.ensures.ok ∙ c.in_ok-copied.ensures.same ∙ ap behind c.deref.ensures.value) c.requires.few c.len.ensures c.if-len-lt-DEGREE.false;
  few = omega (arith, ap length c.in_ok-next.ensures);
}
