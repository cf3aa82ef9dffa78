-- Reading a recipient: the results of reading its elements.
use Rattle.std.specs.Prelude.{◌≡◌, ◌⊎◌, ℕ, List, [], Option, Result, Ok, Err}
use Rattle.coset_value.specs.Item.{Item, Items, item}
use Rattle.coset_codec.specs.declared.error.CoseError.{CoseError}
use Rattle.coset_codec.specs.declared.read.decoder.ArrayElements.{ArrayElements}
use Rattle.coset_codec.specs.Errors.{IsUnexpected, UnlessMemory}
use Rattle.coset_codec.specs.Inputs.{State, AreWithin}
use Rattle.coset_codec.specs.Shape.{ElementsFaults, bstr, list_of, or_nil, optional_last}
use Rattle.coset_codec.specs.Sources.{Never, wrong_length_after}
use Rattle.coset_core.specs.Headers.{HeaderView, ProtectedView, header, protected}
use Rattle.coset_recipient.specs.Recipient.{RecipientView, are_some, recipient}

-- The first three elements represent these values. Otherwise the error names a fault in one of them, unless it is
-- `OutOfMemory`.
abbrev pub FillsFirst : Item → Item → Item → ProtectedView → HeaderView → Option (List ℕ) → Result (Unit {0}) CoseError → Type 0
FillsFirst v w x p u c (Ok t) = protected.describes v p × header.describes w u × (or_nil bstr).describes x c
FillsFirst v w x p u c (Err e) = UnlessMemory e (λ f. protected.faults v f ⊎ header.faults w f ⊎ (or_nil bstr).faults x f)

-- The first three elements were read, and the others are at t. Otherwise there are fewer than three elements.
abbrev pub BeginsThree : Items → ProtectedView → HeaderView → Option (List ℕ) → State → State → ArrayElements → Result (Result (Unit {0}) CoseError) CoseError
    → Type 0
BeginsThree vs p u c t z m (Ok r) =
    (v : Item) × (w : Item) × (x : Item) × (others : Items) × (vs ≡ item v (item w (item x others))) × AreWithin m others t z × FillsFirst v w x p u c r
BeginsThree vs p u c t z m (Err e) = (left : Items) × AreWithin m left t z × wrong_length_after 3 Never vs × IsUnexpected e

-- The last element, if there is one, represents these recipients. Otherwise the error names its fault or says that more
-- elements follow, unless it is `OutOfMemory`.
abbrev pub FillsLast : Items → List RecipientView → Result (Unit {0}) CoseError → Type 0
FillsLast vs rs (Ok t) = (optional_last [] are_some (list_of recipient)).describes vs rs
FillsLast vs rs (Err e) = UnlessMemory e (ElementsFaults (optional_last [] are_some (list_of recipient)) vs)
