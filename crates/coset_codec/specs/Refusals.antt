-- How bytes that are not one item are refused, whatever memory there is. Also how an item without the expected tag is
-- refused.
use Rattle.std.specs.Prelude.{◌≡◌, ◌≢◌, ◌<◌, ℕ, List, Some, Result, Err, length, take, IsErrAnd}
use Rattle.coset_value.specs.Item.{Item}
use Rattle.coset_value.specs.Parts.{as_tag}
use Rattle.coset_cbor.specs.Prefixes.{AreBytes, HasNoItem}
use Rattle.coset_cbor.specs.Grammar.{IsItem}
use Rattle.coset_codec.specs.declared.error.CoseError.{CoseError}
use Rattle.coset_codec.specs.declared.error.CoseError.TheVariants.{ExtraneousData}
use Rattle.coset_codec.specs.Results.{IsByteFault}
use Rattle.coset_codec.specs.Errors.{IsUnexpected, UnlessMemory}

-- If no prefix of the bytes s is an item, the error names a fault in them.
abbrev pub NamesByteFault : {T : Type 0} → List ℕ → Result T CoseError → Type 0
NamesByteFault s r = HasNoItem s → IsErrAnd r (IsByteFault s)

-- If an item is at the start of s and more bytes follow it, the error is `ExtraneousData`.
abbrev pub NamesExtraneous : {T : Type 0} → List ℕ → Result T CoseError → Type 0
NamesExtraneous s r = AreBytes s → (n : ℕ) (v : Item) → n < length s → IsItem (take n s) v → r ≡ Err ExtraneousData

-- The error says why the bytes are not one item.
abbrev pub NamesWholeFault : {T : Type 0} → List ℕ → Result T CoseError → Type 0
NamesWholeFault s r = NamesByteFault s r × NamesExtraneous s r

-- The item is no tag of that number: it has another tag, or none.
abbrev pub IsNoTag : ℕ → Item → Type 0
IsNoTag number v = (w : Item) → as_tag v ≢ Some (number, w)

-- The result is an error. It says that an item is not as its place requires, or is `OutOfMemory`.
abbrev pub NamesUnexpected : {T : Type 0} → Result T CoseError → Type 0
NamesUnexpected r = IsErrAnd r (λ e. UnlessMemory e IsUnexpected)
