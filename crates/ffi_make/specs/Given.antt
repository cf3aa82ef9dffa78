-- The arguments of calls: bytes that should be one item, labels, and values of map pairs.
use Rattle.std.specs.Prelude.{◌≡◌, ℕ, ℤ, List, [], ◌∷◌, map, Result, Ok, Err}
use Rattle.std.specs.Str.{IsUtf8}
use Rattle.std.specs.Str.Lossy.{utf8_valid_len}
use Rattle.coset.specs.Item.{Item, integer, bytes, text}
use Rattle.coset.specs.Grammar.{IsItem}
use Rattle.coset.specs.Results.{IsWholeFault}
use Rattle.coset.specs.CoseError.{CoseError}
use Rattle.coset.specs.CoseError.TheVariants.{DecodeFailed}
use Rattle.coset.specs.Error.TheVariants.{Syntax}
use Rattle.coset.specs.Errors.{UnlessMemory}
use Rattle.coset.specs.LabelData.{LabelView, number, text_label}
use Rattle.ffi_query.specs.declared.label.Label as labels
use Rattle.ffi_query.specs.Labels.{label_view}
use Rattle.ffi_make.specs.declared.given.Entry as entries
use Rattle.ffi_make.specs.declared.given.Entry.TheVariants.{Integer, Bytes, Text, Encoded}

-- The bytes encode the item v. If there are no bytes, v is w.
abbrev pub IsAny : Item → List ℕ → Item → Type 0
IsAny w [] v = v ≡ w
IsAny w (x ∷ xs) v = IsItem (x ∷ xs) v

-- There are bytes, and they aren't one item.
abbrev pub AnyFaults : List ℕ → CoseError → Type 0
AnyFaults [] e = ⊥
AnyFaults (x ∷ xs) e = IsWholeFault (x ∷ xs) e

-- Decoding bytes as one item. If there are no bytes, the result is w.
abbrev pub ReadsAny : {T : Type 0} → Item → List ℕ → (T → Item) → Result T CoseError → Type 0
ReadsAny w b item_of (Ok x) = IsAny w b (item_of x)
ReadsAny w b item_of (Err e) = UnlessMemory e (AnyFaults b)

-- The byte string with this content.
abbrev pub byte_string : List ℕ → Item
byte_string b = bytes b

-- The item is the text string with this content, which is UTF-8.
abbrev pub IsText : List ℕ → Item → Type 0
IsText t v = (v ≡ text t) × IsUtf8 t

-- The bytes aren't UTF-8. The error has the offset at which they stop being UTF-8.
abbrev pub IsTextFault : List ℕ → CoseError → Type 0
IsTextFault t e = (IsUtf8 t → ⊥) × (e ≡ DecodeFailed (Syntax (utf8_valid_len t)))

-- The item is this label: label = int / tstr (RFC 8152, section 1.4).
abbrev pub IsKey : LabelView → Item → Type 0
IsKey (number n) v = v ≡ integer n
IsKey (text_label t) v = IsText t v

abbrev pub KeyFaults : LabelView → CoseError → Type 0
KeyFaults (number n) e = ⊥
KeyFaults (text_label t) e = IsTextFault t e

-- The view of a pair's value.
pub data EntryView : Type 0 where
  an_integer : ℤ → EntryView
  a_string : List ℕ → EntryView
  a_text : List ℕ → EntryView
  an_encoding : List ℕ → EntryView

abbrev pub entry_view : entries.Entry → EntryView
entry_view (Integer n) = an_integer n
entry_view (Bytes b) = a_string b.now
entry_view (Text t) = a_text t.now
entry_view (Encoded b) = an_encoding b.now

-- The view of a label and its value.
abbrev pub pair_view : labels.Label × entries.Entry → LabelView × EntryView
pair_view p = (label_view p.0, entry_view p.1)

abbrev pub pairs_view : List (labels.Label × entries.Entry) → List (LabelView × EntryView)
pairs_view ps = map pair_view ps

-- The item is this value.
abbrev pub IsEntry : EntryView → Item → Type 0
IsEntry (an_integer n) v = v ≡ integer n
IsEntry (a_string b) v = v ≡ bytes b
IsEntry (a_text t) v = IsText t v
IsEntry (an_encoding b) v = IsItem b v

abbrev pub EntryFaults : EntryView → CoseError → Type 0
EntryFaults (an_integer n) e = ⊥
EntryFaults (a_string b) e = ⊥
EntryFaults (a_text t) e = IsTextFault t e
EntryFaults (an_encoding b) e = IsWholeFault b e
