-- What a cut found.
use Rattle.rpds_red_black.proofs.Words.{◌≡◌, false, Option, None, Some, is_some, true≢false, refl, Bor, Rc, Entry, pair_lent}

pub none_lent : {K V A : Type 0} (found : Option (Bor (Rc (Entry K V) A))) → is_some found ≡ false → pair_lent found ≡ None
none_lent None h = refl
none_lent (Some x) h = absurd (true≢false h)
