-- The places in the input b of array elements, map pairs, values and string contents.
use Rattle.std.specs.Prelude.{◌≡◌, ◌<◌, ℕ, ℤ, List, drop, length, Some, None, false, true, Result, Ok, Err}
use Rattle.coset.specs.CoseError.TheVariants.{OutOfMemory}
use Rattle.coset.specs.Results.{IsByteFault}
use Rattle.coset.specs.Grammar.{IsItem}
use Rattle.coset.specs.Item.{Item}
use Rattle.coset.specs.LabelData.{LabelView}
use Rattle.coset_cbor.specs.Prefixes.{HasNoItem}
use Rattle.ffi_query.specs.declared.elements.Span.{Span}
use Rattle.ffi_query.specs.declared.kind.Kind as kinds
use Rattle.ffi_query.specs.declared.label.Map as maps
use Rattle.ffi_query.specs.declared.label.Map.TheVariants as of
use Rattle.ffi_query.specs.declared.refusal.Refusal as refusals
use Rattle.ffi_query.specs.declared.refusal.Refusal.TheVariants.{Absent, Cose, WrongType}
use Rattle.ffi_query.specs.Labels.{IsNumber, IsUnder}
use Rattle.ffi_query.specs.Located.{IsNoContent, opens_chunks}
use Rattle.ffi_query.specs.Pairs.{pair_in}
use Rattle.ffi_query.specs.Places.{element, member_at, string_in}
use Rattle.ffi_query.specs.Spans.{IsAt}

-- The bytes of b in the span p encode the item w.
pub record IsItemAt (b : List ℕ) (p : Span) (w : Item) : Type 0 where
  pub bytes : List ℕ
  pub is_item : IsItem bytes w
  pub place : IsAt b p.at bytes
  pub len : p.len ≡ length bytes

-- The result of `item_span` for the bytes b: the place of the item that begins at that offset. `Absent`: there are
-- fewer bytes. `Cose`: no item begins there, because of this fault.
abbrev pub ReturnsItem : List ℕ → ℕ → Result Span refusals.Refusal → Type 0
ReturnsItem b at (Ok p) = (w : Item) × (p.at ≡ at) × IsItemAt b p w
ReturnsItem b at (Err Absent) = length b < at
ReturnsItem b at (Err (Cose e)) = IsByteFault (drop at b) e × HasNoItem (drop at b)
ReturnsItem b at (Err r) = ⊥

-- The item v, of kind k, has an element at index i, and p is its place.
abbrev pub IsMemberAt : List ℕ → kinds.Kind → ℕ → Item → Span → Type 0
IsMemberAt b k i v p = (w : Item) × (member_at k i v ≡ Some w) × IsItemAt b p w

-- The map v has a pair at index i, and p has the places of its key and value.
abbrev pub ArePairAt : List ℕ → ℕ → Item → Span × Span → Type 0
ArePairAt b i v p = (x : Item × Item) × (pair_in i v ≡ Some x) × IsItemAt b p.0 x.0 × IsItemAt b p.1 x.1

-- The item v, of kind k, has a value under the label l in the map m, and p is its place.
abbrev pub IsValueAt : List ℕ → kinds.Kind → maps.Map → LabelView → Item → Span → Type 0
IsValueAt b k m l v p = (w : Item) × IsUnder k m l v w × IsItemAt b p w

-- The protected header of the item v is encoded in b as a byte string in chunks.
pub record IsProtectedInChunks (b : List ℕ) (v : Item) : Type 0 where
  pub header : Item
  pub bytes : List ℕ
  pub is_header : element 0 v ≡ Some header
  pub is_item : IsItem bytes header
  pub place : (n : ℕ) × IsAt b n bytes
  pub in_chunks : opens_chunks false bytes ≡ true

-- The refusal of a search in the map m, which is a protected header whose byte string is in chunks.
abbrev pub IsInChunks : List ℕ → maps.Map → Item → refusals.Refusal → Type 0
IsInChunks b m v r = (r ≡ WrongType) × (m ≡ of.Protected) × IsProtectedInChunks b v

-- The refusal of a value that has no place. `WrongType`: there is a value. `Absent`: there is none. `Cose`: the error is
-- `OutOfMemory`.
abbrev pub IsMissedIn : kinds.Kind → maps.Map → LabelView → Item → refusals.Refusal → Type 0
IsMissedIn k m l v WrongType = (w : Item) × IsUnder k m l v w
IsMissedIn k m l v Absent = (w : Item) → IsUnder k m l v w → ⊥
IsMissedIn k m l v (Cose e) = e ≡ OutOfMemory
IsMissedIn k m l v r = ⊥

-- The reason why the value has no place. `Absent`: there is no value. `WrongType`: it is in a protected header whose byte
-- string is in chunks.
abbrev pub HasNoValueAt : List ℕ → kinds.Kind → maps.Map → LabelView → Item → refusals.Refusal → Type 0
HasNoValueAt b k m l v Absent = (w : Item) → IsUnder k m l v w → ⊥
HasNoValueAt b k m l v WrongType = ((m ≡ of.Protected) × IsProtectedInChunks b v) × ((w : Item) × IsUnder k m l v w)
HasNoValueAt b k m l v r = ⊥

-- p is the place of the content of the string v.
abbrev pub IsStringAt : List ℕ → Item → Span → Type 0
IsStringAt b v p = (s : List ℕ) × (string_in v ≡ Some s) × IsAt b p.at s × (p.len ≡ length s)

-- The reason why the content has no place. `WrongType`: the item v, encoded as b, isn't a string, or its content is in
-- chunks.
abbrev pub HasNoContent : List ℕ → Item → refusals.Refusal → Type 0
HasNoContent b v WrongType = IsNoContent b v
HasNoContent b v r = ⊥

-- The reason why there is no integer. `WrongType`: the item v isn't an integer in the range of `i64`.
abbrev pub HasNoInteger : Item → refusals.Refusal → Type 0
HasNoInteger v WrongType = (n : ℤ) → IsNumber v n → ⊥
HasNoInteger v r = ⊥

-- The reason why there is no element, or no pair. `Absent`: the index is too large, or the item v has no such list, or
-- isn't a map.
abbrev pub HasNoMember : kinds.Kind → ℕ → Item → refusals.Refusal → Type 0
HasNoMember k i v Absent = member_at k i v ≡ None
HasNoMember k i v r = ⊥

abbrev pub HasNoPair : ℕ → Item → refusals.Refusal → Type 0
HasNoPair i v Absent = pair_in i v ≡ None
HasNoPair i v r = ⊥
