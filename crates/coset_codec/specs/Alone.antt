-- Items that are read independently of each other.
use Rattle.std.specs.Prelude.{◌≡◌, ◌≢◌, ℕ, List, [], ◌∷◌, Result, Ok, Err}
use Rattle.coset_value.specs.Item.{Item, Items, no_items, item, array}
use Rattle.coset_value.specs.Parts.{as_array}
use Rattle.coset_codec.specs.Results.{Describes}
use Rattle.coset_codec.specs.Shape.{Shape, kind_of}
use Rattle.coset_codec.specs.declared.error.CoseError.{CoseError}
use Rattle.coset_codec.specs.declared.error.CoseError.TheVariants.{OutOfMemory}

-- [* any], seen as its elements
abbrev pub elements : Shape Items
elements = kind_of as_array array

-- The result of reading one item independently: the value that the item describes. If the item describes none, the
-- error names a fault in it.
abbrev pub IsReadAlone : {T A : Type 0} → Shape A → (T → A) → Item → Result T CoseError → Type 0
IsReadAlone s view v (Ok x) = s.describes v (view x)
IsReadAlone {T} {A} s view v (Err e) = (e ≢ OutOfMemory) × s.faults v e × ((x : A) → s.describes v x → ⊥)

-- The results of reading the items, each independently.
abbrev pub EachReadAlone : {T A : Type 0} → Shape A → (T → A) → Items → List (Result T CoseError) → Type 0
EachReadAlone s view no_items rs = rs ≡ []
EachReadAlone {T} s view (item v vs) rs =
    (r : Result T CoseError) × (qs : List (Result T CoseError)) × (rs ≡ r ∷ qs) × IsReadAlone s view v r × EachReadAlone s view vs qs

-- The bytes are an array, and rs are the results of reading its elements independently, in order.
abbrev pub AreReadAlone : {T A : Type 0} → Shape A → (T → A) → List ℕ → List (Result T CoseError) → Type 0
AreReadAlone s view b rs = (vs : Items) × Describes elements b vs × EachReadAlone s view vs rs
