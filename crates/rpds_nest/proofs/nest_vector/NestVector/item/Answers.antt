use Rattle.rpds_nest.proofs.nest_vector.NestVector.item.Goals as goal

pub get-requires-clause-sound : goal.get-requires-clause-sound
get-requires-clause-sound g c = c.self.invariant.sound

pub get-requires-clause-counted : goal.get-requires-clause-counted
get-requires-clause-counted g c = c.self.invariant.counted

pub returns : goal.returns
returns g c = rw (← c.self.view_is) c.get.ensures
