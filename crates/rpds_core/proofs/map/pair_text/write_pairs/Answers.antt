use Rattle.std.proofs.Common.{refl, subst, ap}
use Rattle.std.specs.Map.Iter.{deref_pair}
use Rattle.std.specs.Fmt.{DisplaysOnOk, DisplaysStyledOnOk}
use Rattle.rpds_core.specs.MapText.{pair_text, map_text}
use Rattle.rpds_core.proofs.PairTexts.{shows_mapped}
use Rattle.rpds_core.proofs.map.pair_text.write_pairs.Goals as goal

pub returns-clause-writes : goal.returns-clause-writes
returns-clause-writes g c = λ rest shows.
    let took = g.W.Write.write_str_gives in
    let key_text = g.K.Display.output in
    let value_text = g.V.Display.output in
    subst (λ pairs. DisplaysOnOk took c.args.f.now c.write_between.result (map_text key_text value_text (rest pairs)) c.write_between.new.f) c.map.ensures.source
    (c.write_between.ensures.writes (λ pair. (pair.key.now, pair.value.now)) (λ m. rest m.iter) (pair_text key_text value_text)
    (shows_mapped (λ pair. (pair.key.now, pair.value.now)) (λ f f' x y called. ap deref_pair called.met) shows) (λ x. refl))

pub returns-clause-styled : goal.returns-clause-styled
returns-clause-styled g c = λ rest shows.
    let took = g.W.Write.write_str_gives in
    let start = c.args.f.now in
    let key_text = λ (x : g.row.K.Denot). g.K.Display.styled_output x start.spec in
    let value_text = λ (x : g.row.V.Denot). g.V.Display.styled_output x start.spec in
    subst (λ pairs. DisplaysStyledOnOk took start c.write_between.result (map_text key_text value_text (rest pairs)) c.write_between.new.f) c.map.ensures.source
    (c.write_between.ensures.styled (λ pair. (pair.key.now, pair.value.now)) (λ m. rest m.iter) (pair_text key_text value_text)
    (shows_mapped (λ pair. (pair.key.now, pair.value.now)) (λ f f' x y called. ap deref_pair called.met) shows) (λ x. refl))
