-- The views of labels, and the orders of their encodings as functions. `NameOrder.antt` proves that the encodings
-- compare like this.
use Rattle.std.specs.Prelude.{◌≡◌, ◌↔◌, IsTrue, ℕ, ◌+◌, ◌^◌, ◌<◌, ℤ, pos, negsuc, List, [], Bool, length, nat_lt, if◌then◌else◌}
use Rattle.std.specs.declared.cmp.Ordering.{Ordering}
use Rattle.std.specs.Ordering.{nat_cmp, on, ordering_then, then_cmp, is_eq}
use Rattle.std.specs.Cmp.Lexicographic.{slice_cmp}
use Rattle.coset_value.specs.Item.{Item, integer, text}
use Rattle.coset_cbor.specs.Shortest.{IsShortest}

-- The view of a label: a number, or a text as its UTF-8 bytes.
pub data LabelView : Type 0 where
  number : ℤ → LabelView
  text_label : List ℕ → LabelView

-- The view of a label from a registry with a private-use range: an assigned number, a private-use number, or a text.
pub data RegisteredLabelView : Type 0 where
  assigned : ℤ → RegisteredLabelView
  private_use : ℤ → RegisteredLabelView
  text_name : List ℕ → RegisteredLabelView

-- The label as a number or a text. It doesn't distinguish an assigned number from the same number for private use.
abbrev pub as_label : RegisteredLabelView → LabelView
as_label (assigned i) = number i
as_label (private_use i) = number i
as_label (text_name s) = text_label s

-- 1 for a private-use number, else 0. This rank puts an assigned number before the same number for private use.
abbrev pub private_rank : RegisteredLabelView → ℕ
private_rank (assigned i) = 0
private_rank (private_use i) = 1
private_rank (text_name s) = 0

-- The data item of a label.
abbrev pub label_item : LabelView → Item
label_item (number i) = integer i
label_item (text_label s) = text s

-- The major type of a label's head (RFC 8949, section 3).
abbrev pub major_type : LabelView → ℕ
major_type (number (pos n)) = 0
major_type (number (negsuc n)) = 1
major_type (text_label s) = 3

-- The argument of a label's head.
abbrev pub argument : LabelView → ℕ
argument (number (pos n)) = n
argument (number (negsuc n)) = n
argument (text_label s) = length s

-- The bytes after the head.
abbrev pub content : LabelView → List ℕ
content (number i) = []
content (text_label s) = s

-- Compares labels by major type, then by argument, then by the bytes after the head.
abbrev pub label_cmp : LabelView → LabelView → Ordering
label_cmp = then_cmp (on major_type nat_cmp) (then_cmp (on argument nat_cmp) (on content (slice_cmp nat_cmp)))

-- Returns true if the two labels are equal.
abbrev pub same_label : LabelView → LabelView → Bool
same_label a b = is_eq (label_cmp a b)

-- Compares labels of a registry by number or text. An assigned number comes before the same number for private use.
abbrev pub registered_cmp : RegisteredLabelView → RegisteredLabelView → Ordering
registered_cmp = then_cmp (on as_label label_cmp) (on private_rank nat_cmp)

-- The label's argument fits a head.
abbrev pub ArgumentFits : LabelView → Type 0
ArgumentFits a = argument a < 2 ^ 64

-- The length in bytes of the shortest head with this argument.
abbrev pub head_length : ℕ → ℕ
head_length n = if nat_lt n 24 then 1 else (if nat_lt n (2 ^ 8) then 2 else (if nat_lt n (2 ^ 16) then 3 else (if nat_lt n (2 ^ 32) then 5 else 9)))

-- The length in bytes of a label's shortest encoding.
abbrev pub encoded_length : LabelView → ℕ
encoded_length a = head_length (argument a) + length (content a)

-- Compares labels by the length of their encodings first, then by the bytes.
abbrev pub canonical_cmp : LabelView → LabelView → Ordering
canonical_cmp = then_cmp (on encoded_length nat_cmp) label_cmp

-- Compares encodings by length first, then by their bytes.
abbrev pub length_first_cmp : List ℕ → List ℕ → Ordering
length_first_cmp = then_cmp (on length nat_cmp) (slice_cmp nat_cmp)

-- r is the result of comparing the shortest encodings of the two labels by R. A label in CBOR's range has exactly one
-- shortest encoding.
abbrev pub ComparesEncodings : (List ℕ → List ℕ → Ordering) → LabelView → LabelView → Ordering → Type 0
ComparesEncodings R a b r = (s t : List ℕ) → IsShortest s (label_item a) → IsShortest t (label_item b) → r ≡ R s t

-- r is the byte order of the shortest encodings of two labels of a registry. If the encodings are equal, an assigned
-- number comes before a private-use number.
abbrev pub ComparesRegistered : RegisteredLabelView → RegisteredLabelView → Ordering → Type 0
ComparesRegistered a b = ComparesEncodings (λ s t. ordering_then (slice_cmp nat_cmp s t) (nat_cmp (private_rank a) (private_rank b))) (as_label a) (as_label b)

-- R returns `Equal` exactly when the two values are equal.
abbrev pub TellsApart : {A : Type 0} → (A → A → Ordering) → Type 0
TellsApart {A} R = (a b : A) → IsTrue (is_eq (R a b)) ↔ (a ≡ b)
