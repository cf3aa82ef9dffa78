-- The type of a token (RFC 9596).
use Rattle.std.specs.Prelude.{ℕ, ℤ, pos, List, Option, Some, None, Bool, option_map}
use Rattle.std.specs.List.{list_any}
use Rattle.std.specs.Map.{lookup}
use Rattle.std.specs.Str.{str_eq_ignore_ascii_case}
use Rattle.coset.specs.Headers.{HeaderView, fields_in}
use Rattle.coset.specs.Item.{Item, integer, text}
use Rattle.coset.specs.LabelData.{number, same_label}
use Rattle.coset.specs.Registry.{first_numbered}
use Rattle.coset_iana.specs.CoapContentFormat as formats
use Rattle.coset_iana.specs.declared.content_formats.CoapContentFormat.{CoapContentFormat}
use Rattle.coset_iana.specs.declared.content_formats.TheConstants.{COAP_CONTENT_FORMATS}
use Rattle.cwt_verify.specs.Headers.{is_there_and}

-- The CoAP content format with this number.
unfoldable pub format_of : ℤ → Option CoapContentFormat
format_of i = first_numbered formats.number COAP_CONTENT_FORMATS i

-- The media type that an item names: a text itself, or the content format with a number.
abbrev pub type_name : Item → Option (List ℕ)
type_name (text s) = Some s
type_name (integer i) = option_map formats.name (format_of i)
type_name v = None

-- Returns true if the name is one of the types. Upper and lower case are the same.
abbrev pub is_one_of : List (List ℕ) → List ℕ → Bool
is_one_of types name = list_any (λ t. str_eq_ignore_ascii_case name t) types

-- The type that a header names: the value of label 16.
abbrev pub typ_in : HeaderView → Option Item
typ_in h = lookup (same_label (number (pos 16))) (fields_in h).rest

abbrev pub names_type : List (List ℕ) → Item → Bool
names_type types v = is_there_and (is_one_of types) (type_name v)

-- Returns true if the header names one of the types.
abbrev pub has_type : List (List ℕ) → HeaderView → Bool
has_type types h = is_there_and (names_type types) (typ_in h)
