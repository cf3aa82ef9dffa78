-- The definite encoding of an item, with heads of the least width for their arguments, as a function. For an item
-- within CBOR's ranges, it is the only shortest encoding (the laws `laws::least_encoding_is_shortest` and
-- `laws::least_heads_are_shortest`).
use Rattle.std.specs.Prelude.{◌≡◌, ℕ, ◌^◌, ℤ, pos, negsuc, Bool, true, false, List, [], ◌∷◌, ◌++◌, length, nat_lt, if◌then◌else◌}
use Rattle.std.specs.Int.{w16, w32, w64, to_be_bytes}
use Rattle.coset_value.specs.Item.{Bits, half, single, double, Item, integer, bytes, float, text, boolean, null, tag, array, dict, Items, no_items, item, Pairs}
use Rattle.coset_value.specs.Item.{no_pairs, pair, items_count, pairs_count}
use Rattle.coset_cbor.specs.Grammar.{HeadWidth, within, one, two, four, eight, head_in}

abbrev pub least_width : ℕ → HeadWidth
least_width n = if nat_lt n 24 then within else (if nat_lt n (2 ^ 8) then one
    else (if nat_lt n (2 ^ 16) then two else (if nat_lt n (2 ^ 32) then four else eight)))

-- The head of least width with this major type and argument.
unfoldable pub least_head : ℕ → ℕ → List ℕ
least_head m n = head_in (least_width n) m n

abbrev pub integer_encoding : ℤ → List ℕ
integer_encoding (pos n) = least_head 0 n
integer_encoding (negsuc n) = least_head 1 n

abbrev pub float_encoding : Bits → List ℕ
float_encoding (half n) = 0xF9 ∷ to_be_bytes w16 n
float_encoding (single n) = 0xFA ∷ to_be_bytes w32 n
float_encoding (double n) = 0xFB ∷ to_be_bytes w64 n

abbrev pub bool_encoding : Bool → List ℕ
bool_encoding false = 0xF4 ∷ []
bool_encoding true = 0xF5 ∷ []

abbrev mutual
  pub least_encoding : Item → List ℕ
  least_encoding (integer n) = integer_encoding n
  least_encoding (bytes s) = least_head 2 (length s) ++ s
  least_encoding (float x) = float_encoding x
  least_encoding (text s) = least_head 3 (length s) ++ s
  least_encoding (boolean b) = bool_encoding b
  least_encoding null = 0xF6 ∷ []
  least_encoding (tag t v) = least_head 6 t ++ least_encoding v
  least_encoding (array vs) = least_head 4 (items_count vs) ++ least_encodings vs
  least_encoding (dict ps) = least_head 5 (pairs_count ps) ++ least_pair_encodings ps

  pub least_encodings : Items → List ℕ
  least_encodings no_items = []
  least_encodings (item v vs) = least_encoding v ++ least_encodings vs

  pub least_pair_encodings : Pairs → List ℕ
  least_pair_encodings no_pairs = []
  least_pair_encodings (pair k v ps) = least_encoding k ++ (least_encoding v ++ least_pair_encodings ps)

-- new is old with something appended.
abbrev pub Extends : List ℕ → List ℕ → Type 0
Extends old new = (more : List ℕ) × (new ≡ old ++ more)
