-- The position of a fault in bytes (RFC 8949, section 5.3.1 and appendices C and F). A fault splits the bytes in two.
-- After the bytes before it, c, an item or a chunk is due. The bytes from the fault on, t, begin with something that
-- cannot be there.
use Rattle.std.specs.Prelude.{◌≡◌, ◌≢◌, ℕ, zero, suc, ◌+◌, ◌*◌, ◌/◌, ◌%◌, ◌^◌, ◌<◌, ◌≤◌, ◌⊎◌, Bool, true, false, not, List, [], ◌∷◌, ◌++◌, length, take}
use Rattle.std.specs.Str.{IsUtf8}
use Rattle.coset_value.specs.Item.{Items, items_count}
use Rattle.coset_cbor.specs.Grammar.{IsHead, IsHeaded, EachInOrder, IsDefinite, string_type, AreEncodings}
use Rattle.coset_cbor.specs.declared.fault.Fault.{Fault}
use Rattle.coset_cbor.specs.declared.fault.Fault.TheVariants.{End, Syntax, Simple, Deep}

abbrev pub is_even : ℕ → Bool
is_even zero = true
is_even (suc n) = not (is_even n)

-- ---- the bytes before a fault

-- o is an incomplete array, map or tag: its head, and then some of its elements, maybe none. The flag is true if the
-- break may follow o.
pub data Opens : List ℕ → Bool → Type 0 where
  in_array : (n : ℕ) (vs : Items) (c o : List ℕ) → items_count vs < n → AreEncodings vs c → IsHeaded 4 n c o → Opens o false
  in_map : (n : ℕ) (vs : Items) (c o : List ℕ) → items_count vs < 2 * n → AreEncodings vs c → IsHeaded 5 n c o → Opens o false
  in_tag : (t : ℕ) (o : List ℕ) → IsHead 6 t o → Opens o false
  in_open_array : (vs : Items) (c : List ℕ) → AreEncodings vs c → Opens (0x9F ∷ c) true
  in_open_map : (vs : Items) (c : List ℕ) → AreEncodings vs c → Opens (0xBF ∷ c) (is_even (items_count vs))

-- An item is due after c, inside that many open arrays, maps and tags. The flag is true if the break may be there
-- instead.
pub data Due : List ℕ → ℕ → Bool → Type 0 where
  at_start : Due [] 0 false
  innermost : (o : List ℕ) (e : Bool) → Opens o e → Due o 1 e
  outer : (o c : List ℕ) (d : ℕ) (e f : Bool) → Opens o f → Due c (suc d) e → Due (o ++ c) (suc (suc d)) e

-- A chunk of an indefinite-length string, or the break, is due after c.
pub record DueChunk (is_text : Bool) (c : List ℕ) : Type 0 where
  pub before : List ℕ
  pub level : ℕ
  pub flag : Bool
  pub due : Due before level flag
  pub chunks : List (List ℕ)
  pub encodings : List ℕ
  pub are_chunks : EachInOrder (IsDefinite is_text) chunks encodings
  pub parts : c ≡ before ++ ((32 * string_type is_text + 31) ∷ encodings)

-- An item or a chunk is due after c.
abbrev pub IsDue : List ℕ → Type 0
IsDue c = ((d : ℕ) × (e : Bool) × Due c d e) ⊎ ((is_text : Bool) × DueChunk is_text c)

-- ---- the bytes from a fault on

-- Fewer bytes follow than the initial byte announces for its argument.
abbrev pub LacksArgument : List ℕ → Type 0
LacksArgument [] = ⊥
LacksArgument (x ∷ t) = (k : ℕ) × (k < 4) × (x % 32 ≡ 24 + k) × (length t < 2 ^ k)

-- Fewer bytes follow the head than its content needs: one for each byte or item, two for each pair.
pub record LacksContent (t : List ℕ) : Type 0 where
  pub m : ℕ
  pub n : ℕ
  pub rest : List ℕ
  pub headed : IsHeaded m n rest t
  pub lacks : ((2 ≤ m) × (m ≤ 4) × (length rest < n)) ⊎ ((m ≡ 5) × (length rest < 2 * n))

-- The input ends too early.
abbrev pub Ends : List ℕ → Type 0
Ends t = (t ≡ []) ⊎ (LacksArgument t ⊎ LacksContent t)

-- The additional information is 28 to 30, which are reserved.
abbrev pub HasReservedInfo : List ℕ → Type 0
HasReservedInfo [] = ⊥
HasReservedInfo (x ∷ t) = (28 ≤ x % 32) × (x % 32 ≤ 30)

-- The additional information is 31 in an integer or a tag, which have no indefinite form.
abbrev pub HasNoLength : List ℕ → Type 0
HasNoLength [] = ⊥
HasNoLength (x ∷ t) = (x % 32 ≡ 31) × ((x / 32 ≡ 0) ⊎ ((x / 32 ≡ 1) ⊎ (x / 32 ≡ 6)))

-- A simple value below 32 takes two bytes, which is not well-formed.
abbrev pub IsLowSimple : List ℕ → Type 0
IsLowSimple [] = ⊥
IsLowSimple (x ∷ []) = ⊥
IsLowSimple (x ∷ y ∷ t) = (x ≡ 0xF8) × (y < 32)

-- The break is at the start.
abbrev pub BeginsBreak : List ℕ → Type 0
BeginsBreak [] = ⊥
BeginsBreak (x ∷ t) = x ≡ 255

-- No item begins as t does. A break counts as well, unless the break may be here (e is true).
abbrev pub NoItem : Bool → List ℕ → Type 0
NoItem e t = HasReservedInfo t ⊎ (HasNoLength t ⊎ (IsLowSimple t ⊎ (BeginsBreak t × (e ≡ false))))

-- Neither a chunk of the string's type nor the break begins as the bytes do.
abbrev pub NoChunk : Bool → List ℕ → Type 0
NoChunk is_text [] = ⊥
NoChunk is_text (x ∷ t) = (x ≢ 255) × ((x / 32 ≡ string_type is_text) × (x % 32 ≤ 27) → ⊥)

-- A text string has all its bytes, and these are not UTF-8.
pub record IsBadTextString (t : List ℕ) : Type 0 where
  pub n : ℕ
  pub rest : List ℕ
  pub headed : IsHeaded 3 n rest t
  pub there : n ≤ length rest
  pub bad : IsUtf8 (take n rest) → ⊥

-- A simple value other than false, true and null begins here.
abbrev pub IsNotSupported : List ℕ → Type 0
IsNotSupported [] = ⊥
IsNotSupported (x ∷ t) = ((224 ≤ x) × (x ≤ 243)) ⊎ ((x ≡ 247) ⊎ ((x ≡ 0xF8) × (y : ℕ) × (r : List ℕ) × (t ≡ y ∷ r) × (32 ≤ y)))

-- An array, a map or a tag begins here.
abbrev pub Nests : List ℕ → Type 0
Nests [] = ⊥
Nests (x ∷ t) = (4 ≤ x / 32) × (x / 32 ≤ 6)

-- ---- the faults

abbrev pub EndAt : List ℕ → List ℕ → Type 0
EndAt c t = IsDue c × Ends t

abbrev pub SyntaxAt : List ℕ → List ℕ → Type 0
SyntaxAt c t = ((d : ℕ) × (e : Bool) × Due c d e × NoItem e t) ⊎ (((is_text : Bool) × DueChunk is_text c × NoChunk is_text t) ⊎ (IsDue c × IsBadTextString t))

abbrev pub SimpleAt : List ℕ → List ℕ → Type 0
SimpleAt c t = (d : ℕ) × (e : Bool) × Due c d e × IsNotSupported t

abbrev pub DeepAt : ℕ → List ℕ → List ℕ → Type 0
DeepAt d c t = (e : Bool) × Due c d e × Nests t

-- The fault is in s, for a reader that goes d levels deep. `left` counts the bytes from the fault on.
abbrev pub FaultAt : ℕ → List ℕ → Fault → Type 0
FaultAt d s End = (c : List ℕ) × (t : List ℕ) × (s ≡ c ++ t) × EndAt c t
FaultAt d s (Syntax left) = (c : List ℕ) × (t : List ℕ) × (s ≡ c ++ t) × (left ≡ length t) × SyntaxAt c t
FaultAt d s (Simple left) = (c : List ℕ) × (t : List ℕ) × (s ≡ c ++ t) × (left ≡ length t) × SimpleAt c t
FaultAt d s Deep = (c : List ℕ) × (t : List ℕ) × (s ≡ c ++ t) × DeepAt d c t
