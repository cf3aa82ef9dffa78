-- Reading into existing places, for types that contain others of their own type.
use Rattle.std.specs.Prelude.{◌≡◌, List, [], ◌∷◌, ◌++◌, Bool, true, false, Result, Ok, Err}
use Rattle.coset_value.specs.Item.{Item, Items, no_items, item}
use Rattle.coset_codec.specs.declared.error.CoseError.{CoseError}
use Rattle.coset_codec.specs.declared.error.CoseError.TheVariants.{OutOfMemory}
use Rattle.coset_codec.specs.declared.read.decoder.ArrayElements.{ArrayElements}
use Rattle.coset_codec.specs.Errors.{UnlessMemory}
use Rattle.coset_codec.specs.Inputs.{State, ItemAt, AreWithin}
use Rattle.coset_codec.specs.Shape.{Shape, Each, EachFaults}

-- Reads the item v into a place. On success, v represents x, which is then in the place. Otherwise the error names a
-- fault in v, or is `OutOfMemory`.
abbrev pub Fills : {A : Type 0} → Shape A → Item → A → Result (Unit {0}) CoseError → Type 0
Fills s v x (Ok u) = s.describes v x
Fills s v x (Err e) = UnlessMemory e (s.faults v)

-- Reads items into a list. On success, they represent the values that are then in the list. Otherwise the error names a
-- fault in one of them, or is `OutOfMemory`.
abbrev pub FillsEach : {A : Type 0} → Shape A → Items → List A → Result (Unit {0}) CoseError → Type 0
FillsEach s vs xs (Ok u) = Each s.describes vs xs
FillsEach s vs xs (Err e) = UnlessMemory e (EachFaults s.faults vs)

-- The list gets one more value, which is empty.
abbrev pub GetsOne : {T : Type 0} → (T → Type 0) → List T → List T → Type 0
GetsOne {T} is_empty old new = (x : T) × (new ≡ old ++ x ∷ []) × is_empty x

-- If there is another element to read, the list gets one more value, which is empty. Otherwise the list is unchanged.
abbrev pub GetsPlace : {T : Type 0} → (T → Type 0) → List T → List T → Bool → Type 0
GetsPlace is_empty old new true = GetsOne is_empty old new
GetsPlace is_empty old new false = new ≡ old

-- The next element is at t, or no element is left. If an allocation failed, the elements left are still to be read at
-- t.
abbrev pub BeginsNext : Items → State → State → ArrayElements → Result Bool CoseError → Type 0
BeginsNext vs t z m (Ok true) = (v : Item) × (others : Items) × (mid : State) × (vs ≡ item v others) × ItemAt v t mid × AreWithin m others mid z
BeginsNext vs t z m (Ok false) = (vs ≡ no_items) × AreWithin m no_items t z
BeginsNext vs t z m (Err e) = (left : Items) × AreWithin m left t z × (e ≡ OutOfMemory)
