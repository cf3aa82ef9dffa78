-- The results of the calls that read and write, by the shape of the type and by how contracts see its values.
use Rattle.std.specs.Prelude.{◌≡◌, ◌≢◌, ◌⊎◌, ◌<◌, ℕ, List, Option, Some, None, Result, Ok, Err, length, take, ⊤, IfErr}
use Rattle.coset_value.specs.Item.{Item, Items}
use Rattle.coset_value.specs.Parts.{as_tag}
use Rattle.coset_cbor.specs.Grammar.{IsItem}
use Rattle.coset_cbor.specs.ReadErrors.{IsMemory, FaultIn}
use Rattle.coset_cbor.specs.Shortest.{IsShortest}
use Rattle.coset_cbor.specs.declared.de.EndOfFile.{EndOfFile}
use Rattle.coset_cbor.specs.declared.de.Error.{Error}
use Rattle.coset_codec.specs.declared.error.CoseError.{CoseError}
use Rattle.coset_codec.specs.declared.error.CoseError.TheVariants.{DecodeFailed, DuplicateMapKey, ExtraneousData, OutOfMemory}
use Rattle.coset_codec.specs.Errors.{IsUnexpected, UnlessMemory}
use Rattle.coset_codec.specs.Shape.{Elements, ElementsFaults, Shape}

-- Reading the item v gives a value that v represents. Otherwise the error names a fault in v, or is `OutOfMemory`.
abbrev pub Reads : {T A : Type 0} → Shape A → (T → A) → Item → Result T CoseError → Type 0
Reads s view v (Ok x) = s.describes v (view x)
Reads s view v (Err e) = UnlessMemory e (s.faults v)

-- Reading the elements vs of an array gives values that they represent. Otherwise the error says that they are too few
-- or too many. If their number is right, the error names a fault in one of them. The error may also be `OutOfMemory`.
abbrev pub ReadsElements : {T A : Type 0} → Elements A → (T → A) → Items → Result T CoseError → Type 0
ReadsElements ps view vs (Ok x) = ps.describes vs (view x)
ReadsElements ps view vs (Err e) = UnlessMemory e (ElementsFaults ps vs)

-- Making the item of a value gives that item. Otherwise the error says that there is none, or is `OutOfMemory`.
abbrev pub Images : {V : Type 0} → Option Item → (V → Item) → Result V CoseError → Type 0
Images image it (Ok v) = image ≡ Some (it v)
Images image it (Err e) = UnlessMemory e (λ f. (f ≡ DuplicateMapKey) × (image ≡ None))

-- Writing a value as bytes gives the shortest encoding of its item. Otherwise the error says that there is no item, or
-- is `OutOfMemory`.
abbrev pub Writes : {V : Type 0} → Option Item → (V → List ℕ) → Result V CoseError → Type 0
Writes image bytes_of (Ok b) = (v : Item) × (image ≡ Some v) × IsShortest (bytes_of b) v
Writes image bytes_of (Err e) = UnlessMemory e (λ f. (f ≡ DuplicateMapKey) × (image ≡ None))

-- The error names a fault in the bytes, so they are no item.
abbrev pub IsByteFault : List ℕ → CoseError → Type 0
IsByteFault s e = (d : Error EndOfFile) × (e ≡ DecodeFailed d) × (IsMemory d → ⊥) × FaultIn s d

-- The error says that other bytes follow the item at the start.
abbrev pub IsExtraneous : List ℕ → CoseError → Type 0
IsExtraneous s e = (e ≡ ExtraneousData) × (n : ℕ) × (v : Item) × (n < length s) × IsItem (take n s) v

-- The bytes are not one item.
abbrev pub IsNoItem : List ℕ → Type 0
IsNoItem s = (v : Item) → IsItem s v → ⊥

-- The bytes are the item v and no other item.
abbrev pub IsOnlyItem : List ℕ → Item → Type 0
IsOnlyItem s v = IsItem s v × ((w : Item) → IsItem s w → w ≡ v)

-- The error says why the bytes are not one item.
abbrev pub IsWholeFault : List ℕ → CoseError → Type 0
IsWholeFault s e = (IsByteFault s e ⊎ IsExtraneous s e) × IsNoItem s

-- Reading the bytes s gives the one item that they are. Otherwise the error says why they are not one item, or is
-- `OutOfMemory`.
abbrev pub ReadsWhole : {T : Type 0} → (T → Item) → List ℕ → Result T CoseError → Type 0
ReadsWhole item_of s (Ok x) = IsOnlyItem s (item_of x)
ReadsWhole item_of s (Err e) = UnlessMemory e (IsWholeFault s)

-- The error names a fault in bytes that should be one item described by the shape.
abbrev pub SliceFaults : {A : Type 0} → Shape A → List ℕ → CoseError → Type 0
SliceFaults shape s e = IsByteFault s e ⊎ IsExtraneous s e ⊎ ((v : Item) × IsItem s v × shape.faults v e)

-- The bytes are one item, which represents x.
abbrev pub Describes : {A : Type 0} → Shape A → List ℕ → A → Type 0
Describes shape s x = (v : Item) × IsItem s v × shape.describes v x

-- Reading the bytes s gives a value that they describe. Otherwise the error names a fault in them, or is `OutOfMemory`.
abbrev pub ReadsSlice : {T A : Type 0} → Shape A → (T → A) → List ℕ → Result T CoseError → Type 0
ReadsSlice shape view s (Ok x) = Describes shape s (view x)
ReadsSlice shape view s (Err e) = UnlessMemory e (SliceFaults shape s)

-- The bytes describe no value.
abbrev pub DescribesNothing : {A : Type 0} → Shape A → List ℕ → Type 0
DescribesNothing {A} shape s = (x : A) → Describes shape s x → ⊥

-- If reading the bytes s is refused, they describe no value, unless the error is `OutOfMemory`.
abbrev pub RefusesSlice : {T A : Type 0} → Shape A → List ℕ → Result T CoseError → Type 0
RefusesSlice shape s r = IfErr r (λ e. UnlessMemory e (λ _. DescribesNothing shape s))

-- The error names a fault in the bytes, and they describe no value, unless the error is `OutOfMemory`.
abbrev pub IsRefused : {A : Type 0} → Shape A → List ℕ → CoseError → Type 0
IsRefused shape s e = UnlessMemory e (λ f. SliceFaults shape s f × DescribesNothing shape s)

-- If reading the item v is refused, v describes no value, unless the error is `OutOfMemory`.
abbrev pub RefusesItem : {T A : Type 0} → Shape A → Item → Result T CoseError → Type 0
RefusesItem {T} {A} s v r = IfErr r (λ e. UnlessMemory e (λ _. (x : A) → s.describes v x → ⊥))

-- The result is the item under the tag of that number. Otherwise the item has another tag or none.
abbrev pub Untags : {T : Type 0} → ℕ → Item → (T → Item) → Result T CoseError → Type 0
Untags number v item_of (Ok x) = as_tag v ≡ Some (number, item_of x)
Untags number v item_of (Err e) = IsUnexpected e × ((as_tag v ≡ None) ⊎ ((t : ℕ) × (w : Item) × (as_tag v ≡ Some (t, w)) × (t ≢ number)))

-- If the error is `OutOfMemory`, the bytes are one item. Nothing is allocated before that is known.
abbrev pub AllocatesForItems : {T : Type 0} → List ℕ → Result T CoseError → Type 0
AllocatesForItems s (Ok x) = ⊤
AllocatesForItems s (Err e) = e ≡ OutOfMemory → (v : Item) × IsItem s v
