-- Items that a head encodes alone: integers, floats and simple values.
use Rattle.std.specs.Prelude.{ℕ, ℤ, List, Option, Some, None, Result, Ok, Err, option_map, pos, negsuc}
use Rattle.coset_value.specs.Item.{Bits, Item, integer, bytes, float, text, boolean, null, tag, array, dict}
use Rattle.coset_cbor.specs.declared.fault.Fault.{Fault}
use Rattle.coset_cbor.specs.declared.head.MajorType.{MajorType}
use Rattle.coset_cbor.specs.declared.head.MajorType.TheVariants as major_types
use Rattle.coset_cbor.specs.Heads.{Argument}
use Rattle.coset_cbor.specs.Reading.{number_of, simple_at}

-- The item, if it is one of these.
abbrev pub as_scalar : Item → Option Item
as_scalar (integer n) = Some (integer n)
as_scalar (bytes s) = None
as_scalar (float x) = Some (float x)
as_scalar (text s) = None
as_scalar (boolean b) = Some (boolean b)
as_scalar null = Some null
as_scalar (tag t v) = None
as_scalar (array vs) = None
as_scalar (dict ps) = None

-- The width and the bits of a float.
abbrev pub as_float : Item → Option Bits
as_float (float x) = Some x
as_float v = None

-- Only contracts of private functions cite the rest of this file.

abbrev pub read_of : Result (Item × List ℕ) Fault → Option Item
read_of (Ok x) = Some x.0
read_of (Err f) = None

-- The integer, float or simple value that a head encodes, or `None`.
abbrev pub scalar_by : ℕ → Argument → MajorType → List ℕ → Option Item
scalar_by left a major_types.Unsigned s = option_map (λ n. integer (pos n)) (number_of a)
scalar_by left a major_types.Negative s = option_map (λ n. integer (negsuc n)) (number_of a)
scalar_by left a major_types.Bytes s = None
scalar_by left a major_types.Text s = None
scalar_by left a major_types.Array s = None
scalar_by left a major_types.Map s = None
scalar_by left a major_types.Tag s = None
scalar_by left a major_types.Simple s = read_of (simple_at left a s)

-- The number of an integer, from its head.
abbrev pub integer_by : Option ℕ → MajorType → Option ℤ
integer_by o major_types.Unsigned = option_map (λ n. pos n) o
integer_by o major_types.Negative = option_map (λ n. negsuc n) o
integer_by o major_types.Bytes = None
integer_by o major_types.Text = None
integer_by o major_types.Array = None
integer_by o major_types.Map = None
integer_by o major_types.Tag = None
integer_by o major_types.Simple = None

-- The number of a tag, from its head.
abbrev pub tag_by : Argument → MajorType → Option ℕ
tag_by a major_types.Unsigned = None
tag_by a major_types.Negative = None
tag_by a major_types.Bytes = None
tag_by a major_types.Text = None
tag_by a major_types.Array = None
tag_by a major_types.Map = None
tag_by a major_types.Tag = number_of a
tag_by a major_types.Simple = None
