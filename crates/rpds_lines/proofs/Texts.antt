-- Each version of numbers has a text.
use Rattle.std.proofs.Common.{◌≡◌, ℕ, List, [], ◌∷◌, ◌++◌, Option, Some, codes, decimal, refl, ap, ◌∙◌}
use Rattle.std.specs.Fmt.{◌++?◌, debug_items}
use Rattle.rpds_core.specs.MapText.{map_text, pair_text}
use Rattle.rpds_table.specs.Texts.{text_of}
use Rattle.rpds_hash.specs.declared.identity_build.Identity.{Identity}
use Rattle.rpds_hash.specs.declared.identity_build.IdentityBuild.{IdentityBuild}
use Rattle.rpds_table.specs.declared.table.version.Version.{Version}
use Rattle.rpds_table.specs.declared.table.version.Version.TheVariants as version
use Rattle.rpds_lines.specs.Printed.{text_of_number}

-- there is a text
abbrev pub HasText : Option (List ℕ) → Type 0
HasText text = (bytes : List ℕ) × (text ≡ Some bytes)

text_of_items : {X : Type 0} (text : X → Option (List ℕ)) → ((x : X) → HasText (text x)) → (lead : List ℕ) (xs : List X) → HasText (debug_items text lead xs)
text_of_items text each lead [] = ([], refl)
text_of_items text each lead (x ∷ xs) =
    let first = each x in
    let others = text_of_items text each (codes ", ") xs in (
      lead ++ (first.0 ++ others.0),
      ap (λ t. Some lead ++? t ++? debug_items text (codes ", ") xs) first.1
          ∙ ap (λ t. Some lead ++? Some first.0 ++? t) others.1,
    )

text_between : (opening closing : List ℕ) (text : Option (List ℕ)) → HasText text → HasText (Some opening ++? text ++? Some closing)
text_between opening closing text has = (opening ++ (has.0 ++ closing), ap (λ t. Some opening ++? t ++? Some closing) has.1)

text_of_numbers : (opening closing : List ℕ) (xs : List ℕ) → HasText (Some opening ++? debug_items text_of_number [] xs ++? Some closing)
text_of_numbers opening closing xs = text_between opening closing (debug_items text_of_number [] xs)
    (text_of_items text_of_number (λ n. (decimal n, refl)) [] xs)

text_of_pairs : (opening closing : List ℕ) (pairs : List (ℕ × ℕ)) → HasText (Some opening ++? debug_items (pair_text text_of_number text_of_number) [] pairs
    ++? Some closing)
text_of_pairs opening closing pairs =
    text_between opening closing _ (text_of_items (pair_text text_of_number text_of_number) (λ p. (decimal p.0 ++ (codes ": " ++ decimal p.1), refl)) [] pairs)

-- a map has a text
pub text_of_map : (pairs : List (ℕ × ℕ)) → HasText (map_text text_of_number text_of_number pairs)
text_of_map pairs = text_of_pairs (codes "{") (codes "}") pairs

pub text_of_version : {A : Type 0} (v : Version ℕ ℕ IdentityBuild A Identity) → HasText (text_of text_of_number text_of_number v)
text_of_version (version.List xs) = text_of_numbers (codes "[") (codes "]") xs
text_of_version (version.Stack xs) = text_of_numbers (codes "Stack(") (codes ")") xs
text_of_version (version.Queue q) = text_of_numbers (codes "Queue(") (codes ")") q.items
text_of_version (version.Vector v) = text_of_numbers (codes "[") (codes "]") v.items
text_of_version (version.HashTrieMap m) = text_of_pairs (codes "{") (codes "}") m.entries
text_of_version (version.HashTrieSet s) = text_of_numbers (codes "{") (codes "}") s.members
text_of_version (version.RedBlackTreeMap m) = text_of_pairs (codes "{") (codes "}") m.entries
text_of_version (version.RedBlackTreeSet s) = text_of_numbers (codes "{") (codes "}") s.members
