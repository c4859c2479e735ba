use Rattle.rpds_red_black.proofs.tree.Node.combined.Goals as goal

pub link-requires : goal.link-requires
link-requires g c =
    record { fits = rw (c.in_ok-left.ensures, c.in_ok-right.ensures) c.requires.fits }
