use Rattle.std.proofs.Common.{◌∙◌, arith}
use Rattle.rpds_hash.proofs.Identity.{number_kept}
use Rattle.rpds_hash.proofs.identity_build.IdentityBuild.hash_of.Goals as goal

pub returns-clause-itself : goal.returns-clause-itself
returns-clause-itself c = c.hash_one.ensures ∙ number_kept 0 c.args.number (omega arith) c.ranges.number.fits
