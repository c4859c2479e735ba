-- Entries whose values are made anew.
use Rattle.std.specs.Prelude.{◌≡◌, Result}
use Rattle.std.specs.Borrow.{Bor}
use Rattle.std.specs.List.{AllZip}
use Rattle.rpds_core.specs.Calls.{HasValueOf}
use Rattle.rpds_hash_trie.specs.HashTrie.{Stored, Trie}
use denote.Param.Members.{Shared}

-- e has the hash and the key of d, and a value that a call of f at a `&` to the value of d may return
pub record HasStoredValueOf {F K V W E : Type 0} (g : Shared F (Bor V × Unit {0}) (Result W E)) (f : F) (d : Stored K V) (e : Stored K W) : Type 0 where
  pub hash : e.0 ≡ d.0
  pub pair : HasValueOf g f d.1 e.1

-- the entries of w, place by place, have the hashes and keys of those of v, and such values
pub record HasValuesOf {F K V W E : Type 0} (g : Shared F (Bor V × Unit {0}) (Result W E)) (f : F) (v : Trie K V) (w : Trie K W) : Type 0 where
  pub same_bits : w.bits ≡ v.bits
  pub same_depth : w.depth ≡ v.depth
  pub entries : AllZip (HasStoredValueOf g f) v.entries w.entries
