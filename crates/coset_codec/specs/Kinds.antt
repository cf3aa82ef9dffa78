-- Items of the expected kind, and the errors for other items.
use Rattle.std.specs.Prelude.{◌≡◌, ◌≢◌, ◌⊎◌, ℕ, List, [], codes, Option, Some, None, Result, Ok, Err}
use Rattle.coset_value.specs.Item.{Item, integer, bytes, float, text, boolean, null, tag, array, dict}
use Rattle.coset_value.specs.Parts.{as_bytes}
use Rattle.coset_codec.specs.declared.error.CoseError.{CoseError}
use Rattle.coset_codec.specs.declared.error.CoseError.TheVariants.{UnexpectedItem}
use Rattle.coset_codec.specs.Errors.{IsUnexpected}

-- The name of an item's kind in errors.
abbrev pub kind : Item → List ℕ
kind (integer n) = codes "int"
kind (bytes s) = codes "bstr"
kind (float x) = codes "float"
kind (text s) = codes "tstr"
kind (boolean b) = codes "bool"
kind null = codes "nul"
kind (tag t v) = codes "tag"
kind (array vs) = codes "array"
kind (dict ps) = codes "map"

-- The error says that an item is not as its place requires. Its two texts are the item found and the item expected.
abbrev pub Says : List ℕ → List ℕ → CoseError → Type 0
Says got want (UnexpectedItem g w) = (g.now ≡ got) × (w.now ≡ want)
Says got want e = ⊥

-- The result is the content of the item, which `part` finds. Otherwise the error names the item's kind and `want`.
abbrev pub TriesAs : {T A : Type 0} → (Item → Option A) → (T → A) → List ℕ → Item → Result T CoseError → Type 0
TriesAs part view want v (Ok x) = part v ≡ Some (view x)
TriesAs part view want v (Err e) = (part v ≡ None) × IsUnexpected e × Says (kind v) want e

-- The result is the content of a byte string that is not empty. Otherwise the error names the item's kind, or an empty
-- byte string.
abbrev pub TriesAsFilled : {T : Type 0} → (T → List ℕ) → Item → Result T CoseError → Type 0
TriesAsFilled view v (Ok x) = (as_bytes v ≡ Some (view x)) × (view x ≢ [])
TriesAsFilled view v (Err e) =
    ((as_bytes v ≡ None) × IsUnexpected e × Says (kind v) (codes "bstr") e)
    ⊎ ((as_bytes v ≡ Some []) × IsUnexpected e × Says (codes "empty bstr") (codes "non-empty bstr") e)

-- The two texts of the error for an item that should be a non-empty byte string.
abbrev pub SaysNonempty : Item → CoseError → Type 0
SaysNonempty v e = ((as_bytes v ≡ None) × Says (kind v) (codes "bstr") e) ⊎ ((as_bytes v ≡ Some []) × Says (codes "empty bstr") (codes "non-empty bstr") e)
