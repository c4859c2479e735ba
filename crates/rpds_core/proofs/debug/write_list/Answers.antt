use Rattle.std.proofs.Common.{ap, subst}
use Rattle.std.specs.Fmt.{DisplaysOnOk, debug_list}
use Rattle.rpds_core.proofs.PairTexts.{shows_mapped}
use Rattle.rpds_core.proofs.debug.write_list.Goals as goal

pub returns : goal.returns
returns g c = λ see rest text shows agrees.
    let took = g.W.Write.write_str_gives in
    subst (λ items. DisplaysOnOk took c.args.f.now c.write_between.result (debug_list text (rest items)) c.write_between.new.f) c.map.ensures.source
    (c.write_between.ensures.writes (λ shown. see shown.item) (λ m. rest m.iter) text
    (shows_mapped (λ shown. see shown.item) (λ f f' x y called. ap see called.met) shows) (λ shown. agrees shown.item))
