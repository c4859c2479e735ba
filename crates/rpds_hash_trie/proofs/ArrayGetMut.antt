-- An item that is lent.
use Rattle.rpds_hash_trie.proofs.Words.{MutBor, inl, inr, ◌≡◌, ℕ, ◌<◌, Some, None, List, length, get_or, refl, sym, arith, option_map, slice_get, slice_get_past, slice_get_read, cases_lt}
use Rattle.std.proofs.Common.{Option}
use Rattle.std.specs.Option.{IsSome, IfSome, ghost_name_of}
use Rattle.std.specs.Prelude.{◌↔◌}
use borrow.Follows.Closed.{read_of}

-- a loan on an option is read the same, where it holds the same
pub read_same : {D V : Type 0} (r : Option (MutBor V)) (F' F : V → D) (v' v : D) → (IsSome r → (w : V) → F' w ≡ F w) → v' ≡ v → read_of (ghost_name_of r) F' v' ≡ read_of (ghost_name_of r) F v
read_same (Some x) F' F v' v f e = λ i. inl (x.ghost_name, λ w. f refl w i)
read_same None F' F v' v f e = λ i. inr (e i)

-- the item that is lent
pub now_is : {V : Type 0} (r : Option (MutBor V)) (xs : List V) (i : ℕ) → (IsSome r ↔ (i < length xs)) → IfSome r (λ x. x.now ≡ get_or xs i x.now) → option_map (λ (x : MutBor V). x.now) r ≡ slice_get xs i
now_is (Some x) xs i some is = sym (slice_get_read xs (length xs) i x.now refl (some.0 refl) is)
now_is None xs i some is = sym (slice_get_past xs i (grind (arith, cases_lt)))
