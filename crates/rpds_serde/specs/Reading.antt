-- What was read of a sequence and of a map. `gives` and `stays` are those of a format.
use Rattle.std.specs.Prelude.{◌≡◌, ℕ, List, [], ◌∷◌, None, ⊤}
use Rattle.serde.specs.Event.{Event, seq_begins, seq_ends, map_begins, map_ends, key_begins}
use Rattle.serde.specs.Steps.{Gives, Stays}
use Rattle.serde.specs.declared.deserializer.Deserializer.{Deserializer}

-- the items are read in turn; D is a deserializer, in its state before and behind each
abbrev pub ReadsEach : {D X : Type 0} → (D → X → D → Type 0) → List X → D → D → Type 0
ReadsEach reads [] old new = new ≡ old
ReadsEach {D} reads (x ∷ xs) old new = (mid : D) × reads old x mid × ReadsEach reads xs mid new

-- a beginning, each of the items, and an end
abbrev pub ReadsWhole : {D X : Type 0} → (D → D → Type 0) → (D → X → D → Type 0) → (D → D → Type 0) → D → List X → D → Type 0
ReadsWhole {D} begins reads ends old items new = (first last : D) × begins old first × ReadsEach reads items first last × ends last new

-- of what the `deserialize` of a type reads the kit's traits say nothing
abbrev pub Anything : {D X : Type 0} → D → X → D → Type 0
Anything old x new = ⊤

module _ {F E M : Type 0} where
  -- an item, behind a look that found it
  abbrev pub ReadsItem : {X : Type 0} → (F → F → Type 0) → (Deserializer F E M → X → Deserializer F E M → Type 0) → Deserializer F E M → X → Deserializer F E M → Type 0
  ReadsItem stays reads old x new = (found : Deserializer F E M) × Stays stays old found × reads found x new

  -- a key behind its mark, and then its value
  abbrev pub ReadsPair : {K V : Type 0} → (F → List ℕ → Event → F → Type 0) → (Deserializer F E M → K → Deserializer F E M → Type 0) → (Deserializer F E M → V → Deserializer F E M → Type 0) → Deserializer F E M → K × V → Deserializer F E M → Type 0
  ReadsPair gives key value old pair new = (found mid : Deserializer F E M) × Gives gives old key_begins found × key found pair.0 mid × value mid pair.1 new

  abbrev pub ReadsSeq : {X : Type 0} → (F → List ℕ → Event → F → Type 0) → (F → F → Type 0) → (Deserializer F E M → X → Deserializer F E M → Type 0) → Deserializer F E M → List X → Deserializer F E M → Type 0
  ReadsSeq gives stays reads = ReadsWhole (λ old new. Gives gives old (seq_begins None) new) (ReadsItem stays reads) (λ old new. Gives gives old seq_ends new)

  abbrev pub ReadsMap : {K V : Type 0} → (F → List ℕ → Event → F → Type 0) → (Deserializer F E M → K → Deserializer F E M → Type 0) → (Deserializer F E M → V → Deserializer F E M → Type 0) → Deserializer F E M → List (K × V) → Deserializer F E M → Type 0
  ReadsMap gives key value = ReadsWhole (λ old new. Gives gives old (map_begins None) new) (ReadsPair gives key value) (λ old new. Gives gives old map_ends new)
