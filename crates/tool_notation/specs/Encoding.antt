-- Encoded data items (RFC 8949, sections 3 and 5.3.1, and appendix C), and sequences of them (RFC 8742).
use Rattle.std.specs.Prelude.{◌≡◌, ◌<◌, ◌≤◌, ◌+◌, ◌*◌, ◌^◌, ◌%◌, ℕ, List, [], ◌∷◌, ◌++◌, length, nat_lt, if◌then◌else◌, Bool, true, ⊤, ◌⊎◌}
use Rattle.std.specs.Int.{w16, w32, w64, to_be_bytes}
use Rattle.std.specs.Str.{IsUtf8}
use Rattle.tool_notation.specs.declared.head.Major.{Major}
use Rattle.tool_notation.specs.declared.head.Major.TheVariants as majors
use Rattle.tool_notation.specs.declared.head.Width.{Width}
use Rattle.tool_notation.specs.declared.head.Width.TheVariants as widths
use Rattle.tool_notation.specs.declared.leaf.Leaf.{Leaf}
use Rattle.tool_notation.specs.declared.leaf.Leaf.TheVariants as leaves
use Rattle.tool_notation.specs.declared.list.List.{List as Kind}
use Rattle.tool_notation.specs.declared.list.List.TheVariants as kinds
use Rattle.tool_notation.specs.declared.number.Number.{Number}
use Rattle.tool_notation.specs.declared.number.Number.TheVariants as numbers

-- The bytes are a head of major type m with argument n (section 3).
pub data IsHead (m n : ℕ) : List ℕ → Type 0 where
  within : n < 24 → IsHead m n ((32 * m + n) ∷ [])
  one : n < 2 ^ 8 → IsHead m n ((32 * m + 24) ∷ n ∷ [])
  two : n < 2 ^ 16 → IsHead m n ((32 * m + 25) ∷ to_be_bytes w16 n)
  four : n < 2 ^ 32 → IsHead m n ((32 * m + 26) ∷ to_be_bytes w32 n)
  eight : n < 2 ^ 64 → IsHead m n ((32 * m + 27) ∷ to_be_bytes w64 n)

-- The bytes are a string of definite length, of major type m. A text string (type 3) is UTF-8 (section 3.1).
pub data IsString (m : ℕ) : List ℕ → Type 0 where
  definite : (head content : List ℕ) → IsHead m (length content) head → (m ≡ 3 → IsUtf8 content) → IsString m (head ++ content)

-- The bytes are strings of definite length, one after the other, all of major type m.
pub data AreStrings (m : ℕ) : List ℕ → Type 0 where
  no_strings : AreStrings m []
  one_more : (front last : List ℕ) → AreStrings m front → IsString m last → AreStrings m (front ++ last)

-- Content of indefinite length, between the initial byte of major type m and the break (section 3.2).
abbrev pub open_content : ℕ → List ℕ → List ℕ
open_content m content = (32 * m + 31) ∷ (content ++ 255 ∷ [])

-- The bytes are so many well-formed items, one after the other.
pub data AreItems : ℕ → List ℕ → Type 0 where
  no_items : AreItems 0 []
  both : (j k : ℕ) (front back : List ℕ) → AreItems j front → AreItems k back → AreItems (j + k) (front ++ back)
  integer : (m n : ℕ) (head : List ℕ) → m < 2 → IsHead m n head → AreItems 1 head
  string : (m : ℕ) (bytes : List ℕ) → 2 ≤ m → m ≤ 3 → IsString m bytes → AreItems 1 bytes
  open_string : (m : ℕ) (chunks : List ℕ) → 2 ≤ m → m ≤ 3 → AreStrings m chunks → AreItems 1 (open_content m chunks)
  array : (n : ℕ) (head content : List ℕ) → IsHead 4 n head → AreItems n content → AreItems 1 (head ++ content)
  open_array : (n : ℕ) (content : List ℕ) → AreItems n content → AreItems 1 (open_content 4 content)
  -- keys and values take turns
  pairs : (n : ℕ) (head content : List ℕ) → IsHead 5 n head → AreItems (n * 2) content → AreItems 1 (head ++ content)
  open_pairs : (n : ℕ) (content : List ℕ) → AreItems (n * 2) content → AreItems 1 (open_content 5 content)
  tagged : (n : ℕ) (head content : List ℕ) → IsHead 6 n head → AreItems 1 content → AreItems 1 (head ++ content)
  simple : (n : ℕ) → n < 24 → AreItems 1 ((224 + n) ∷ [])
  simple_byte : (n : ℕ) → 32 ≤ n → n < 256 → AreItems 1 (248 ∷ n ∷ [])
  half : (bits : ℕ) → bits < 2 ^ 16 → AreItems 1 (249 ∷ to_be_bytes w16 bits)
  single : (bits : ℕ) → bits < 2 ^ 32 → AreItems 1 (250 ∷ to_be_bytes w32 bits)
  double : (bits : ℕ) → bits < 2 ^ 64 → AreItems 1 (251 ∷ to_be_bytes w64 bits)

-- The bytes are a sequence of at least one item.
abbrev pub IsSequence : List ℕ → Type 0
IsSequence bytes = (n : ℕ) × (0 < n) × AreItems n bytes

-- ---- Only contracts of private functions cite the rest of this file.

-- What a call adds at the end of the bytes has P.
abbrev pub Adds : (List ℕ → Type 0) → List ℕ → List ℕ → Type 0
Adds P old new = (added : List ℕ) × (new ≡ old ++ added) × P added

-- The major type of a byte string or of a text string.
abbrev pub IsStringType : ℕ → Type 0
IsStringType m = (2 ≤ m) × (m ≤ 3)

-- The bytes are the initial byte of a string of indefinite length, and its chunks so far.
abbrev pub AreChunks : ℕ → List ℕ → Type 0
AreChunks m bytes = (chunks : List ℕ) × (bytes ≡ (32 * m + 31) ∷ chunks) × AreStrings m chunks

-- The number of a major type.
abbrev pub type_of : Major → ℕ
type_of majors.Unsigned = 0
type_of majors.Negative = 1
type_of majors.Bytes = 2
type_of majors.Text = 3
type_of majors.Array = 4
type_of majors.Map = 5
type_of majors.Tag = 6
type_of majors.Simple = 7

-- A head of this width has room for the argument.
abbrev pub has_room : Width → ℕ → Bool
has_room widths.Least n = true
has_room widths.One n = nat_lt n 256
has_room widths.Two n = nat_lt n 65536
has_room widths.Four n = nat_lt n 4294967296
has_room widths.Eight n = true

-- The least width that has room for the argument.
abbrev pub least_width : ℕ → Width
least_width n =
    if nat_lt n 24 then widths.Least
    else if nat_lt n 256 then widths.One
    else if nat_lt n 65536 then widths.Two
    else if nat_lt n 4294967296 then widths.Four
    else widths.Eight

-- This width, or the least one that has room for the argument.
abbrev pub settled : Width → ℕ → Width
settled widths.Least n = least_width n
settled w n = w

-- The head with the lowest bits of the argument that the width has room for.
abbrev pub head_in : Width → ℕ → ℕ → List ℕ
head_in widths.Least m n = (32 * m + n % 24) ∷ []
head_in widths.One m n = (32 * m + 24) ∷ n % 256 ∷ []
head_in widths.Two m n = (32 * m + 25) ∷ to_be_bytes w16 (n % 65536)
head_in widths.Four m n = (32 * m + 26) ∷ to_be_bytes w32 (n % 4294967296)
head_in widths.Eight m n = (32 * m + 27) ∷ to_be_bytes w64 n

-- The head of this type and argument, in this width or in the least one.
abbrev pub head_of : Major → ℕ → Width → List ℕ
head_of major n w = head_in (settled w n) (type_of major) n

-- The width of a float.
abbrev pub IsFloatWidth : Width → Type 0
IsFloatWidth w = (w ≡ widths.Two) ⊎ ((w ≡ widths.Four) ⊎ (w ≡ widths.Eight))

-- The bits of a float are in 64 bits, and its width is one of a float.
abbrev pub IsFloat : (ℕ × Width) → Type 0
IsFloat float = (float.0 < 2 ^ 64) × IsFloatWidth float.1

-- The number of a simple value (section 3.3).
abbrev pub IsSimple : ℕ → Type 0
IsSimple n = (n < 24) ⊎ ((32 ≤ n) × (n < 256))

-- An integer has major type 0 or 1.
abbrev pub IsNumber : Number → Type 0
IsNumber (numbers.Integer m n) = type_of m < 2
IsNumber n = ⊤

-- The number of items in an element of a list.
abbrev pub items_in : Kind → ℕ
items_in kinds.Array = 1
items_in kinds.Map = 2
items_in kinds.Embedded = 1

-- So many elements of a list are added.
abbrev pub AddsElements : Kind → ℕ → List ℕ → List ℕ → Type 0
AddsElements list n = Adds (AreItems (n * items_in list))

-- The major type of a list.
abbrev pub list_type : Kind → ℕ
list_type kinds.Array = 4
list_type kinds.Map = 5
list_type kinds.Embedded = 2

-- The list is an array or a map.
abbrev pub HasHead : Kind → Type 0
HasHead kinds.Array = ⊤
HasHead kinds.Map = ⊤
HasHead kinds.Embedded = ⊥

-- An item is added, or the head of a tag.
abbrev pub AddsLeaf : Leaf → List ℕ → List ℕ → Type 0
AddsLeaf (leaves.Whole rest) old new = Adds (AreItems 1) old new
AddsLeaf (leaves.Tag content) old new = (n : ℕ) × Adds (IsHead 6 n) old new
