-- The members that another set has, or lacks, as pairs.
use Rattle.std.proofs.Common.{arith, ◌≡◌, Bool, filter, is_none, is_some, List, [], ◌∷◌, Option, None, Some, refl, ap, sym, ◌∙◌}
use Rattle.rpds_hash.proofs.Words.{keys_of, option_map, find_member}
use Rattle.rpds_hash_trie.specs.HashedMap.{find as find_pair}
use Rattle.rpds_hash.proofs.Members.{member_found}

module _ {T V : Type 0} (eq : T → T → Bool) where
  tested_is : (x : T) (os : List (T × V)) → is_some (find_pair eq x os) ≡ is_some (find_member eq x (keys_of os))
  tested_is x os = go (find_pair eq x os) ∙ ap is_some (sym (member_found eq x os))
    where
      go : (o : Option (T × V)) → is_some o ≡ is_some (option_map (λ (p : T × V). p.0) o)
      go None = refl
      go (Some p) = refl

  pub tested_both : (os es : List (T × V)) → keys_of (filter (λ p. is_some (find_pair eq p.0 os)) es) ≡ filter (λ m. is_some (find_member eq m (keys_of os))) (keys_of es)
  tested_both os [] = refl
  tested_both os (e ∷ es) = grind (arith, tested_both os es, tested_is e.0 os)

  pub tested_left : (os es : List (T × V)) → keys_of (filter (λ p. is_none (find_pair eq p.0 os)) es) ≡ filter (λ m. is_none (find_member eq m (keys_of os))) (keys_of es)
  tested_left os [] = refl
  tested_left os (e ∷ es) = grind (arith, tested_left os es, tested_is e.0 os)
