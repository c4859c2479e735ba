use Rattle.std.proofs.Common.{refl, subst, ap}
use Rattle.std.specs.Map.Iter.{deref_pair}
use Rattle.std.specs.Fmt.{DisplaysOnOk}
use Rattle.rpds_core.specs.MapText.{pair_text, map_text}
use Rattle.rpds_core.proofs.PairTexts.{shows_mapped}
use Rattle.rpds_core.proofs.debug.write_map.Goals as goal

pub returns : goal.returns
returns g c = λ rest shows.
    let took = g.W.Write.write_str_gives in
    let key_text = g.K.Debug.debug_output in
    let value_text = g.V.Debug.debug_output in
    subst (λ pairs. DisplaysOnOk took c.args.f.now c.write_between.result (map_text key_text value_text (rest pairs)) c.write_between.new.f) c.map.ensures.source
    (c.write_between.ensures.writes (λ pair. (pair.key.now, pair.value.now)) (λ m. rest m.iter) (pair_text key_text value_text)
    (shows_mapped (λ pair. (pair.key.now, pair.value.now)) (λ f f' x y called. ap deref_pair called.met) shows) (λ x. refl))
