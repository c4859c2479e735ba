-- What a copy of a node has.
use Rattle.rpds_hash_trie.proofs.Words.{◌≡◌, ℕ, List, [], ◌∷◌, map, refl, AllZip, Rc, seen, AreClones, stored, EntryWithHash}

pub seen_clones : {X A : Type 0} (cs ds : List (ℕ × Rc X A)) → AreClones (λ (rc copy : Rc X A). copy.value ≡ rc.value) cs ds → seen ds ≡ seen cs
seen_clones [] [] a = refl
seen_clones [] (d ∷ ds) a = absurd a
seen_clones (c ∷ cs) [] a = absurd a
seen_clones (c ∷ cs) (d ∷ ds) a = rw (a.0.0, a.0.1, seen_clones cs ds a.1) refl

pub all_stored : {K V A : Type 0} (xs ys : List (EntryWithHash K V A)) → AllZip (λ e copy. stored copy ≡ stored e) xs ys → map stored ys ≡ map stored xs
all_stored [] [] a = refl
all_stored [] (y ∷ ys) a = absurd a
all_stored (x ∷ xs) [] a = absurd a
all_stored (x ∷ xs) (y ∷ ys) a = rw (a.0, all_stored xs ys a.1) refl
