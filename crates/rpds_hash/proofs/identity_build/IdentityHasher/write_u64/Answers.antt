use Rattle.std.proofs.Common.{◌<◌, ◌^◌, ap, sym, rules}
use Rattle.rpds_hash.proofs.Identity.{number_kept}
use Rattle.rpds_hash.proofs.identity_build.IdentityHasher.write_u64.Goals as goal

pub returns : goal.returns
returns c =
    let old : c.args.self.now.state < 2 ^ 64 = search rules in
    ap (λ state. record { state = state }) (sym (number_kept c.args.self.now.state c.args.number old c.ranges.number.fits))
