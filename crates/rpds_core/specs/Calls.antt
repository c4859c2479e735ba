-- Calls of closures that look at what a container holds.
use Rattle.std.specs.Prelude.{◌≡◌, Ok, List, Option, Result}
use Rattle.std.specs.Borrow.{Bor}
use Rattle.std.specs.Fn.{Called, FnOnceReturns, FnReturnsAt}
use Rattle.std.specs.List.{AllZip}
use Rattle.std.specs.Option.{option_copied}
use denote.Param.Members.{Mut, Once, Shared}

-- a call of f at `Some` of a `&` to the value, or at `None` where there is none, may return r
abbrev pub FnOnceReturnsAtOption : {F T R : Type 0} → Once F (Option (Bor T) × Unit {0}) R → F → Option T → R → Type 0
FnOnceReturnsAtOption {F} {T} g f x r = (p : Option (Bor T)) × FnOnceReturns g f (p, tt) r × (option_copied p ≡ x)

-- a call of f at a `&` to the key and one to the value of a pair
pub record CalledAtEntry {F K V R : Type 0} (g : Mut F (Bor K × (Bor V × Unit {0})) R) (f : F) (p : K × V) (r : R) (f' : F) : Type 0 where
  pub key : Bor K
  pub value : Bor V
  pub shows : (key.now ≡ p.0) × (value.now ≡ p.1)
  pub called : Called g f (key, (value, tt)) r f'

-- q has the key of p, and a value that a call of f at a `&` to the value of p may return
pub record HasValueOf {F K V W E : Type 0} (g : Shared F (Bor V × Unit {0}) (Result W E)) (f : F) (p : K × V) (q : K × W) : Type 0 where
  pub key : q.0 ≡ p.0
  pub value : FnReturnsAt g f p.1 (Ok q.1)

-- the pairs of the second list, place by place, have the keys of the first, and such values
abbrev pub HaveValuesOf : {F K V W E : Type 0} → Shared F (Bor V × Unit {0}) (Result W E) → F → List (K × V) → List (K × W) → Type 0
HaveValuesOf g f = AllZip (HasValueOf g f)
