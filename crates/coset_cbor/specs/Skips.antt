-- Skipping items that are known to be there. Only contracts of private functions cite this file.
use Rattle.std.specs.Prelude.{◌≡◌, ℕ, zero, suc, ◌+◌, List, ◌++◌, Ok, pos, negsuc}
use Rattle.coset_value.specs.Item.{Item, integer, bytes, float, text, boolean, null, tag, array, dict}
use Rattle.coset_cbor.specs.declared.head.MajorType.{MajorType}
use Rattle.coset_cbor.specs.declared.head.MajorType.TheVariants as major_types
use Rattle.coset_cbor.specs.Grammar.{IsItem}
use Rattle.coset_cbor.specs.Reading.{item_at}

-- n items are at the start of s, and a follows them.
unfoldable pub IsPast : ℕ → List ℕ → List ℕ → Type 0
IsPast zero s a = s ≡ a
IsPast (suc n) s a = (x : Item × List ℕ) × (item_at 256 s ≡ Ok x) × IsPast n x.1 a

-- How many items a head of that major type and number announces.
abbrev pub announced_items : MajorType → ℕ → ℕ
announced_items major_types.Unsigned n = 0
announced_items major_types.Negative n = 0
announced_items major_types.Bytes n = 0
announced_items major_types.Text n = 0
announced_items major_types.Array n = n
announced_items major_types.Map n = n + n
announced_items major_types.Tag n = 1
announced_items major_types.Simple n = 0

-- How many bytes of content a head of that major type and number announces.
abbrev pub announced_bytes : MajorType → ℕ → ℕ
announced_bytes major_types.Unsigned n = 0
announced_bytes major_types.Negative n = 0
announced_bytes major_types.Bytes n = n
announced_bytes major_types.Text n = n
announced_bytes major_types.Array n = 0
announced_bytes major_types.Map n = 0
announced_bytes major_types.Tag n = 0
announced_bytes major_types.Simple n = 0

-- An item is at the start of b.
pub record BeginsItem (b : List ℕ) : Type 0 where
  pub item : Item
  pub front : List ℕ
  pub rest : List ℕ
  pub parts : b ≡ front ++ rest
  pub is_item : IsItem front item

-- The major type of the head with which an item begins.
abbrev pub item_major_type : Item → MajorType
item_major_type (integer (pos n)) = major_types.Unsigned
item_major_type (integer (negsuc n)) = major_types.Negative
item_major_type (bytes s) = major_types.Bytes
item_major_type (float x) = major_types.Simple
item_major_type (text s) = major_types.Text
item_major_type (boolean b) = major_types.Simple
item_major_type null = major_types.Simple
item_major_type (tag t v) = major_types.Tag
item_major_type (array vs) = major_types.Array
item_major_type (dict ps) = major_types.Map
