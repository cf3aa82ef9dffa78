-- Every encoding that the standard allows for an item (RFC 8949, section 3). An encoding is a list of bytes.
-- `IsEncoding v b` says that b is an encoding of v.
use Rattle.std.specs.Prelude.{◌≡◌, ℕ, ◌+◌, ◌*◌, ◌^◌, ◌<◌, ◌≤◌, ◌⊎◌, ⊤, ℤ, pos, negsuc, Bool, true, false, List, [], ◌∷◌, ◌++◌, length}
use Rattle.std.specs.Int.{w8, w16, w32, w64, to_be_bytes}
use Rattle.std.specs.Str.{IsUtf8}
use Rattle.coset_value.specs.Item.{Bits, half, single, double, Item, integer, bytes, float, text, boolean, null, tag, array, dict, Items, no_items, item, Pairs}
use Rattle.coset_value.specs.Item.{no_pairs, pair, items_count, pairs_count, depth}

-- ---- heads (RFC 8949, section 3)

-- The width of a head's argument: within the initial byte, or one, two, four or eight bytes after it.
pub data HeadWidth : Type 0 where
  within one two four eight : HeadWidth

-- The argument n fits that width.
abbrev pub Holds : HeadWidth → ℕ → Type 0
Holds within n = n < 24
Holds one n = n < 2 ^ 8
Holds two n = n < 2 ^ 16
Holds four n = n < 2 ^ 32
Holds eight n = n < 2 ^ 64

-- The head of major type m with an argument n of that width, most significant byte first.
abbrev pub head_in : HeadWidth → ℕ → ℕ → List ℕ
head_in within m n = (32 * m + n) ∷ []
head_in one m n = (32 * m + 24) ∷ to_be_bytes w8 n
head_in two m n = (32 * m + 25) ∷ to_be_bytes w16 n
head_in four m n = (32 * m + 26) ∷ to_be_bytes w32 n
head_in eight m n = (32 * m + 27) ∷ to_be_bytes w64 n

-- h is a head of major type m with argument n, of any width that holds n.
pub record IsHead (m n : ℕ) (h : List ℕ) : Type 0 where
  pub width : HeadWidth
  pub holds : Holds width n
  pub spelled : h ≡ head_in width m n

-- b is a head of major type m with argument n, followed by s.
pub record IsHeaded (m n : ℕ) (s b : List ℕ) : Type 0 where
  pub head : List ℕ
  pub is_head : IsHead m n head
  pub parts : b ≡ head ++ s

-- b is an initial byte of major type m that announces no length, then s, then the break (RFC 8949, section 3.2).
abbrev pub IsIndefinite : ℕ → List ℕ → List ℕ → Type 0
IsIndefinite m s b = b ≡ (32 * m + 31) ∷ (s ++ 255 ∷ [])

-- ---- strings (RFC 8949, sections 3.1 and 3.2.3); the flag is true for text strings (type 3), false for byte strings
-- (type 2)

-- b consists of one part for each element, in order. R relates each element to its part.
abbrev pub EachInOrder : {A : Type 0} → (A → List ℕ → Type 0) → List A → List ℕ → Type 0
EachInOrder R [] b = b ≡ []
EachInOrder R (x ∷ xs) b = (c : List ℕ) × (d : List ℕ) × R x c × EachInOrder R xs d × (b ≡ c ++ d)

-- The contents of the chunks, joined.
abbrev pub joined_chunks : List (List ℕ) → List ℕ
joined_chunks [] = []
joined_chunks (x ∷ xs) = x ++ joined_chunks xs

-- The content of a text string is UTF-8. The content of a byte string is any bytes.
abbrev pub IsStringContent : Bool → List ℕ → Type 0
IsStringContent false s = ⊤
IsStringContent true s = IsUtf8 s

abbrev pub string_type : Bool → ℕ
string_type false = 2
string_type true = 3

-- b is a head with the length of s, followed by s.
abbrev pub IsDefinite : Bool → List ℕ → List ℕ → Type 0
IsDefinite is_text s b = IsStringContent is_text s × IsHeaded (string_type is_text) (length s) s b

-- b encodes the string s, whole or in chunks up to the break. Each chunk has its own length, and a chunk of a text
-- string is UTF-8 by itself.
abbrev pub IsStringEncoding : Bool → List ℕ → List ℕ → Type 0
IsStringEncoding is_text s b = IsDefinite is_text s b ⊎
    ((ss : List (List ℕ)) × (c : List ℕ) × (joined_chunks ss ≡ s) × EachInOrder (IsDefinite is_text) ss c × IsIndefinite (string_type is_text) c b)

-- ---- items

-- `pos n` is n, of major type 0; `negsuc n` is -1 - n, of major type 1 (RFC 8949, section 3.1).
abbrev pub IsIntegerEncoding : ℤ → List ℕ → Type 0
IsIntegerEncoding (pos n) b = IsHead 0 n b
IsIntegerEncoding (negsuc n) b = IsHead 1 n b

-- A float in its own width (RFC 8949, section 3.3).
abbrev pub IsFloatEncoding : Bits → List ℕ → Type 0
IsFloatEncoding (half n) b = (n < 2 ^ 16) × (b ≡ 0xF9 ∷ to_be_bytes w16 n)
IsFloatEncoding (single n) b = (n < 2 ^ 32) × (b ≡ 0xFA ∷ to_be_bytes w32 n)
IsFloatEncoding (double n) b = (n < 2 ^ 64) × (b ≡ 0xFB ∷ to_be_bytes w64 n)

-- The values false and true (RFC 8949, section 3.3).
abbrev pub IsBoolEncoding : Bool → List ℕ → Type 0
IsBoolEncoding false b = b ≡ 0xF4 ∷ []
IsBoolEncoding true b = b ≡ 0xF5 ∷ []

-- b is s after a head of major type m with argument n, or s between an initial byte of m and the break.
abbrev pub EnclosesContent : ℕ → ℕ → List ℕ → List ℕ → Type 0
EnclosesContent m n s b = IsHeaded m n s b ⊎ IsIndefinite m s b

abbrev mutual
  -- b is an encoding of the item.
  pub IsEncoding : Item → List ℕ → Type 0
  IsEncoding (integer n) b = IsIntegerEncoding n b
  IsEncoding (bytes s) b = IsStringEncoding false s b
  IsEncoding (float x) b = IsFloatEncoding x b
  IsEncoding (text s) b = IsStringEncoding true s b
  IsEncoding (boolean x) b = IsBoolEncoding x b
  IsEncoding null b = b ≡ 0xF6 ∷ []
  IsEncoding (tag t v) b = (c : List ℕ) × IsEncoding v c × IsHeaded 6 t c b
  IsEncoding (array vs) b = (c : List ℕ) × AreEncodings vs c × EnclosesContent 4 (items_count vs) c b
  IsEncoding (dict ps) b = (c : List ℕ) × ArePairEncodings ps c × EnclosesContent 5 (pairs_count ps) c b

  -- b encodes the items one after the other.
  pub AreEncodings : Items → List ℕ → Type 0
  AreEncodings no_items b = b ≡ []
  AreEncodings (item v vs) b = (c : List ℕ) × (d : List ℕ) × IsEncoding v c × AreEncodings vs d × (b ≡ c ++ d)

  -- b encodes the keys and values pair by pair.
  pub ArePairEncodings : Pairs → List ℕ → Type 0
  ArePairEncodings no_pairs b = b ≡ []
  ArePairEncodings (pair k v ps) b = (c : List ℕ) × (d : List ℕ) × (e : List ℕ) × IsEncoding k c × IsEncoding v d × ArePairEncodings ps e × (b ≡ c ++ (d ++ e))

-- b is an encoding of v, in which arrays, maps and tags nest at most 256 deep.
abbrev pub IsItem : List ℕ → Item → Type 0
IsItem b v = IsEncoding v b × (depth v ≤ 256)
