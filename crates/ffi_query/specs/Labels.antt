-- The values of labels (RFC 8152, sections 1.4, 3 and 7; RFC 8392, section 3).
use Rattle.std.specs.Prelude.{◌≡◌, ◌==◌, ℕ, ℤ, List, Option, Some, None, Bool, true, option_and_then, FitsSigned}
use Rattle.std.specs.Int.{w64}
use Rattle.std.specs.Ordering.{int_eq}
use Rattle.std.specs.Cmp.Lexicographic.{pointwise}
use Rattle.coset.specs.Item.{Item}
use Rattle.coset.specs.Parts.{as_integer, as_map, as_text}
use Rattle.coset.specs.Grammar.{IsItem}
use Rattle.coset.specs.Shortest.{IsShortest}
use Rattle.coset.specs.LabelData.{LabelView, number, text_label}
use Rattle.coset_seen.specs.Named.{first_value, is_same}
use Rattle.ffi_query.specs.declared.kind.Kind as kinds
use Rattle.ffi_query.specs.declared.label.Label as labels
use Rattle.ffi_query.specs.declared.label.Label.TheVariants.{Number, Text}
use Rattle.ffi_query.specs.declared.label.Map as maps
use Rattle.ffi_query.specs.declared.label.Map.TheVariants as of
use Rattle.ffi_query.specs.declared.refusal.Refusal as refusals
use Rattle.ffi_query.specs.declared.refusal.Refusal.TheVariants.{Absent, WrongType}
use Rattle.ffi_query.specs.Parts.{has_headers}
use Rattle.ffi_query.specs.Places.{bytes_in, element, string_in}

-- The view of a label.
abbrev pub label_view : labels.Label → LabelView
label_view (Number n) = number n
label_view (Text t) = text_label t.now

-- The key is this label: label = int / tstr.
abbrev pub is_label : LabelView → Item → Bool
is_label (number n) k = is_same int_eq (as_integer k) n
is_label (text_label t) k = is_same (pointwise ◌==◌) (as_text k) t

-- The value under the label in a map.
abbrev pub value_under : LabelView → Item → Option Item
value_under l v = option_and_then (first_value (is_label l)) (as_map v)

-- The value under the label in the unprotected header, which is the second element.
abbrev pub unprotected_value : LabelView → Item → Option Item
unprotected_value l v = option_and_then (value_under l) (element 1 v)

-- w is under the label in the map that the bytes b encode.
abbrev pub IsUnderIn : LabelView → List ℕ → Item → Type 0
IsUnderIn l b w = (m : Item) × IsItem b m × (value_under l m ≡ Some w)

-- w is under the label in the map that the protected bytes encode.
abbrev pub IsProtected : LabelView → Option (List ℕ) → Item → Type 0
IsProtected l None w = ⊥
IsProtected l (Some b) w = IsUnderIn l b w

-- w is under the label in one map of the item v, of kind k. The map is the protected header, which is the first
-- element, or the unprotected header, or the item itself.
abbrev pub IsUnder : kinds.Kind → maps.Map → LabelView → Item → Item → Type 0
IsUnder k of.Protected l v w = (has_headers k ≡ true) × IsProtected l (bytes_in 0 v) w
IsUnder k of.Unprotected l v w = (has_headers k ≡ true) × (unprotected_value l v ≡ Some w)
IsUnder k of.Item l v w = value_under l v ≡ Some w

-- t is the shortest encoding of the value under the label.
abbrev pub IsValueOf : kinds.Kind → maps.Map → LabelView → Item → List ℕ → Type 0
IsValueOf k m l v t = (w : Item) × IsUnder k m l v w × IsShortest t w

-- t is the content of the string under the label.
abbrev pub IsStringOf : kinds.Kind → maps.Map → LabelView → Item → List ℕ → Type 0
IsStringOf k m l v t = (w : Item) × IsUnder k m l v w × (string_in w ≡ Some t)

-- The reason why there is no such string. `Absent`: the label has no value. `WrongType`: the value isn't a string.
abbrev pub HasNoString : kinds.Kind → maps.Map → LabelView → Item → refusals.Refusal → Type 0
HasNoString k m l v Absent = (w : Item) → IsUnder k m l v w → ⊥
HasNoString k m l v WrongType = (w : Item) × IsUnder k m l v w × (string_in w ≡ None)
HasNoString k m l v r = ⊥

-- The item is the integer n, in the range of `i64`.
abbrev pub IsNumber : Item → ℤ → Type 0
IsNumber v n = (as_integer v ≡ Some n) × FitsSigned w64 n

-- n is the integer under the label.
abbrev pub IsNumberOf : kinds.Kind → maps.Map → LabelView → Item → ℤ → Type 0
IsNumberOf k m l v n = (w : Item) × IsUnder k m l v w × IsNumber w n

-- The reason why there is no such integer. `Absent`: the label has no value. `WrongType`: the value isn't an integer in
-- the range of `i64`.
abbrev pub HasNoNumber : kinds.Kind → maps.Map → LabelView → Item → refusals.Refusal → Type 0
HasNoNumber k m l v Absent = (w : Item) → IsUnder k m l v w → ⊥
HasNoNumber k m l v WrongType = (w : Item) × IsUnder k m l v w × ((n : ℤ) → IsNumber w n → ⊥)
HasNoNumber k m l v r = ⊥
