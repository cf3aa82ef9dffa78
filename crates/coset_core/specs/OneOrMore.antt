-- Arrays that are one signature or a list of several.
use Rattle.std.specs.Prelude.{◌≡◌, ◌⊎◌, ⊤, ℕ, List, Bool, true, false, codes, Some, None, Result, Ok, Err}
use Rattle.coset_value.specs.Item.{Item, array, Items, no_items, item}
use Rattle.coset_value.specs.Parts.{as_bytes, as_array}
use Rattle.coset_codec.specs.declared.error.CoseError.{CoseError}
use Rattle.coset_codec.specs.declared.read.decoder.ArrayElements.{ArrayElements}
use Rattle.coset_codec.specs.Errors.{IsUnexpected}
use Rattle.coset_codec.specs.Inputs.{State, AreWithin}
use Rattle.coset_codec.specs.Kinds.{kind, Says}

-- The two texts of the error for elements that begin with neither a byte string nor an array.
abbrev pub SaysFirst : Items → CoseError → Type 0
SaysFirst no_items e = Says (codes "empty sig array") (codes "non-empty sig array") e
SaysFirst (item v vs) e = Says (kind v) (codes "array or bstr value") e

-- The two texts of the error for an item that is not such an array.
abbrev pub SaysOnes : Item → CoseError → Type 0
SaysOnes (array vs) e = SaysFirst vs e
SaysOnes v e = Says (kind v) (codes "array") e

-- The elements begin with a byte string if b is true, and with an array if b is false.
abbrev pub Begins : Items → Bool → Type 0
Begins no_items b = ⊥
Begins (item v vs) true = (s : List ℕ) × (as_bytes v ≡ Some s)
Begins (item v vs) false = (ws : Items) × (as_array v ≡ Some ws)

abbrev pub BeginsWithNeither : Items → Type 0
BeginsWithNeither no_items = ⊤
BeginsWithNeither (item v vs) = (as_bytes v ≡ None) × (as_array v ≡ None)

abbrev pub BeginsSo : Items → Result Bool CoseError → Type 0
BeginsSo vs (Ok b) = Begins vs b
BeginsSo vs (Err e) = BeginsWithNeither vs × IsUnexpected e × SaysFirst vs e

-- The input t is at the elements of the array v, which begin with a byte string or an array. Otherwise v is not such an
-- array, and was skipped.
abbrev pub EntersOnes : Item → State → State → Result (Bool × ArrayElements) CoseError → Type 0
EntersOnes v t z (Ok x) = (vs : Items) × (as_array v ≡ Some vs) × AreWithin x.1 vs t z × Begins vs x.0
EntersOnes v t z (Err e) = (t ≡ z) × (((as_array v ≡ None) ⊎ ((vs : Items) × (as_array v ≡ Some vs) × BeginsWithNeither vs)) × IsUnexpected e × SaysOnes v e)
