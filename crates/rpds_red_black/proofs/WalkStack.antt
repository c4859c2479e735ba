-- The sides of a node, in the order of a walk.
use Rattle.std.specs.List.{slice_get}
use Rattle.rpds_red_black.specs.TreeWalk.{IsUpcoming}
use Rattle.rpds_red_black.proofs.Words.{◌≡◌, ◌<◌, Bool, true, false, Option, Some, None, List, [], ◌∷◌, ◌++◌, reverse, refl, ap, ◌∙◌, append_assoc, arith}
use Rattle.rpds_red_black.proofs.Words.{reverse-append, Bor, keys_of, option_map, from_top, Node, depth_of, pairs_of, pair_of, along, near_side, far_side, given}
use Rattle.rpds_red_black.proofs.Words.{upcoming, Fits}

-- the pairs of a node, in the order of a walk
pub along_node : {K V A : Type 0} (back : Bool) (n : Node K V A) → along back (pairs_of n) ≡ along back (near_side back n).entries ++ pair_of n.entry.value ∷ along back (far_side back n).entries
along_node true n = reverse-append n.left.entries (pair_of n.entry.value ∷ n.right.entries) ∙ ap (λ z. z ++ reverse n.left.entries) (reverse-append (pair_of n.entry.value ∷ []) n.right.entries) ∙ append_assoc (reverse n.right.entries) (pair_of n.entry.value ∷ []) (reverse n.left.entries)
along_node false n = refl

-- both sides are less deep than the node
pub record AreShallower {K V A : Type 0} (back : Bool) (n : Node K V A) : Type 0 where
  pub near : (near_side back n).depth < depth_of n
  pub far : (far_side back n).depth < depth_of n

pub shallower : {K V A : Type 0} (back : Bool) (n : Node K V A) → AreShallower back n
shallower back n = grind arith

-- a walk that gives nothing has an empty stack
pub none_stacked : {K V A : Type 0} (back : Bool) (next : Option (Bor (Node K V A))) (stack : List (Bor (Node K V A))) → IsUpcoming (Fits back) next stack → from_top (given back) (upcoming next stack) ≡ [] → stack ≡ []
none_stacked back None stack room e = room
none_stacked back (Some n) stack room e = absurd (cc e)

-- the next key that a walk gives is that of the next node
pub next_key_is : {K V A : Type 0} (back : Bool) (next : Option (Bor (Node K V A))) (stack : List (Bor (Node K V A))) → option_map (λ n. n.now.entry.value.key) next ≡ slice_get (keys_of (from_top (given back) (upcoming next stack))) 0
next_key_is back next stack = grind arith
