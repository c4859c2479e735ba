-- What callers need of `members_of_union`, `members_of_both` and `members_only_in`.
use Rattle.rpds_red_black.specs.Pairs.{find as find_pair}
use Rattle.rpds_tree.proofs.Words.{◌≡◌, ◌+◌, cond, None, List, is_some, is_none, length, sym, ap, ◌∙◌, IsTotalOrder, IsStrictlySortedBy, keys_of, option_map}
use Rattle.rpds_tree.proofs.Words.{option_or, Ordering, both_in, only_in, union_of, members_of_both, members_of_union, members_only_in, find_member}
use Rattle.rpds_tree.proofs.MemberLaws.{ascending_units, found, keys, units}
use Rattle.rpds_tree.proofs.Members.{ascending_members, length_members, member_found}
use Rattle.rpds_tree.proofs.SetUnions.{first_or, kept, members_both, members_only, members_united, none_mapped, some_mapped}
use Rattle.rpds_tree.proofs.UnionLaws.{ascending_both, ascending_only, ascending_union, common_turned, found_both, found_only, found_union, length_parts, length_union}

module _ {T : Type 0} {R : T → T → Ordering} (o : IsTotalOrder R) where
  abbrev key : T × Unit {0} → T
  key p = p.0

  length_units : (ms : List T) → length (units ms) ≡ length ms
  length_units ms = sym (length_members (units ms)) ∙ ap length (keys ms)

  -- each as the keys of maps
  united : (ms others : List T) → members_of_union R ms others ≡ keys_of (union_of R (units ms) (units others))
  united ms others = sym (members_united R (units ms) (units others) ∙ λ i. members_of_union R (keys ms i) (keys others i))

  common : (ms others : List T) → members_of_both R ms others ≡ keys_of (both_in R (units ms) (units others))
  common ms others = sym (members_both R (units ms) (units others) ∙ λ i. members_of_both R (keys ms i) (keys others i))

  apart : (ms others : List T) → members_only_in R ms others ≡ keys_of (only_in R (units ms) (units others))
  apart ms others = sym (members_only R (units ms) (units others) ∙ λ i. members_only_in R (keys ms i) (keys others i))

  has : (x : T) (ms : List T) → is_some (find_pair R x (units ms)) ≡ is_some (find_member R x ms)
  has x ms = sym (ap is_some (found o x ms) ∙ some_mapped key (find_pair R x (units ms)))

  lacks : (x : T) (ms : List T) → is_none (find_pair R x (units ms)) ≡ is_none (find_member R x ms)
  lacks x ms = sym (ap is_none (found o x ms) ∙ none_mapped key (find_pair R x (units ms)))

  pub found_united : (x : T) (ms others : List T) → IsStrictlySortedBy R ms → find_member R x (members_of_union R ms others)
      ≡ option_or (find_member R x ms) (find_member R x others)
  found_united x ms others up =
      ap (find_member R x) (united ms others) ∙ member_found R x (union_of R (units ms) (units others))
      ∙ ap (option_map key) (found_union o x (units ms) (units others) (ascending_units o ms up))
      ∙ first_or key (find_pair R x (units ms)) (find_pair R x (units others))
      ∙ sym (λ i. option_or (found o x ms i) (found o x others i))

  pub found_common : (x : T) (ms others : List T) → find_member R x (members_of_both R ms others) ≡ cond (is_some (find_member R x others))
      (find_member R x ms) None
  found_common x ms others =
      ap (find_member R x) (common ms others) ∙ member_found R x (both_in R (units ms) (units others))
      ∙ ap (option_map key) (found_both o x (units ms) (units others))
      ∙ kept key (is_some (find_pair R x (units others))) (find_pair R x (units ms))
      ∙ (λ i. cond (has x others i) (sym (found o x ms) i) None)

  pub found_apart : (x : T) (ms others : List T) → find_member R x (members_only_in R ms others) ≡ cond (is_none (find_member R x others))
      (find_member R x ms) None
  found_apart x ms others =
      ap (find_member R x) (apart ms others) ∙ member_found R x (only_in R (units ms) (units others))
      ∙ ap (option_map key) (found_only o x (units ms) (units others))
      ∙ kept key (is_none (find_pair R x (units others))) (find_pair R x (units ms))
      ∙ (λ i. cond (lacks x others i) (sym (found o x ms) i) None)

  pub ascending_united : (ms others : List T) → IsStrictlySortedBy R others → IsStrictlySortedBy R (members_of_union R ms others)
  ascending_united ms others up = rw (united ms others) (ascending_members R (union_of R (units ms) (units others))
      (ascending_union o (units ms) (units others) (ascending_units o others up)))

  pub ascending_common : (ms others : List T) → IsStrictlySortedBy R ms → IsStrictlySortedBy R (members_of_both R ms others)
  ascending_common ms others up = rw (common ms others) (ascending_members R (both_in R (units ms) (units others))
      (ascending_both o (units ms) (units others) (ascending_units o ms up)))

  pub ascending_apart : (ms others : List T) → IsStrictlySortedBy R ms → IsStrictlySortedBy R (members_only_in R ms others)
  ascending_apart ms others up = rw (apart ms others) (ascending_members R (only_in R (units ms) (units others))
      (ascending_only o (units ms) (units others) (ascending_units o ms up)))

  pub length_united : (ms others : List T) → IsStrictlySortedBy R ms → IsStrictlySortedBy R others → length (members_of_union R ms others)
      + length (members_of_both R ms others) ≡ length ms + length others
  length_united ms others up ordered =
      rw (
        united ms others,
        common ms others,
        length_members (union_of R (units ms) (units others)),
        length_members (both_in R (units ms) (units others)),
        sym (length_units ms),
        sym (length_units others),
      )
      (length_union o (units ms) (units others) (ascending_units o ms up) (ascending_units o others ordered))

  pub length_divided : (ms others : List T) → length (members_of_both R ms others) + length (members_only_in R ms others) ≡ length ms
  length_divided ms others =
      rw (
        common ms others,
        apart ms others,
        length_members (both_in R (units ms) (units others)),
        length_members (only_in R (units ms) (units others)),
        sym
            (length_units ms),
      )
      (length_parts o (units ms) (units others))

  pub common_members_turned : (ms others : List T) → IsStrictlySortedBy R ms → IsStrictlySortedBy R others → length (members_of_both R ms others)
      ≡ length (members_of_both R others ms)
  common_members_turned ms others up ordered =
      rw (common ms others, common others ms, length_members (both_in R (units ms) (units others)), length_members (both_in R (units others) (units ms)))
      (common_turned o (units ms) (units others) (ascending_units o ms up) (ascending_units o others ordered))
