-- Sets are equal where their maps are.
use Rattle.std.specs.Prelude.{◌≡◌, Bool, true, List}
use Rattle.rpds_hash.proofs.Words.{sym, ◌∙◌, IsEquivalence, keys_of, as_map, pairs_equal}
use Rattle.std.specs.Bool.{one_answer}
use Rattle.std.specs.HashMap.Eq.{hash_map_eq_keys}
use Rattle.std.specs.HashSet.Eq.{hash_set_eq_decides}
use Rattle.std_collections.proofs.SetKeys.{is_some-lookup}
use Rattle.rpds_hash.specs.HashedSet.{members_equal}
use Rattle.rpds_hash.specs.MembersEqual.{as_set, equal_as_sets}

pub same_members : {T : Type 0} {eq : T → T → Bool} → IsEquivalence eq → (es fs : List (T × Unit {0})) → pairs_equal eq (λ _ _. true) es fs ≡ members_equal eq (keys_of es) (keys_of fs)
same_members {T} {eq} laws es fs =
    let maps = hash_map_eq_keys laws (as_map es) (as_map fs) in
    let mine = λ (q : T). is_some-lookup (eq q) es in
    let theirs = λ (q : T). is_some-lookup (eq q) fs in
    one_answer _ _ (λ h q. sym (mine q) ∙ maps.0 h q ∙ theirs q, λ h. maps.1 (λ q. mine q ∙ h q ∙ sym (theirs q))) (hash_set_eq_decides laws (as_set (keys_of es)) (as_set (keys_of fs)))
    ∙ sym (equal_as_sets laws (keys_of es) (keys_of fs))
