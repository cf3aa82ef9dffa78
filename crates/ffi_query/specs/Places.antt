-- The elements of an item.
use Rattle.std.specs.Prelude.{ℕ, zero, suc, List, Option, Some, None, option_and_then}
use Rattle.coset.specs.Item.{Item, bytes, text, Items, no_items, item}
use Rattle.coset.specs.Parts.{as_array, as_bytes}
use Rattle.ffi_query.specs.declared.kind.Kind as kinds
use Rattle.ffi_query.specs.declared.kind.Kind.TheVariants.{Sign, Mac, Encrypt, Recipient, KeySet, Any}

-- The element at index n.
abbrev pub nth : ℕ → Items → Option Item
nth n no_items = None
nth zero (item v vs) = Some v
nth (suc n) (item v vs) = nth n vs

-- The element at index n of an array.
abbrev pub element : ℕ → Item → Option Item
element n v = option_and_then (nth n) (as_array v)

-- The content of the byte string at index n.
abbrev pub bytes_in : ℕ → Item → Option (List ℕ)
bytes_in n v = option_and_then as_bytes (element n v)

-- The content of a byte string or a text string.
abbrev pub string_in : Item → Option (List ℕ)
string_in (bytes s) = Some s
string_in (text s) = Some s
string_in v = None

-- The elements of the nested array at index n.
abbrev pub array_in : ℕ → Item → Option Items
array_in n v = option_and_then as_array (element n v)

-- The signatures of a message, the recipients of a message or of a recipient, the keys of a set (RFC 8152, sections
-- 4.1, 5.1, 6.1 and 7), or the elements of any array.
abbrev pub members : kinds.Kind → Item → Option Items
members (Sign f) v = array_in 3 v
members (Encrypt f) v = array_in 3 v
members Recipient v = array_in 3 v
members (Mac f) v = array_in 4 v
members KeySet v = as_array v
members Any v = as_array v
members k v = None

-- The signature, recipient, key or element at index i.
abbrev pub member_at : kinds.Kind → ℕ → Item → Option Item
member_at k i v = option_and_then (nth i) (members k v)
