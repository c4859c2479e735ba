use Rattle.rpds_red_black.proofs.Words.{length, ap, arith}
use Rattle.rpds_red_black.proofs.Sifting.{sifted_few}
use Rattle.rpds_red_black.proofs.tree.Tree.looked_up.Goals as goal

pub height-height-requires : goal.height-height-requires
height-height-requires g c =
    omega (arith, ap length c.in_ok-tree.ensures.ok, sifted_few g.K.Ord.cmp c.args.kept c.args.other.now.entries c.args.self.now.entries, c.requires.fits)
