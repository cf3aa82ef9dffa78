-- The members of a key that its type defines (RFC 9052, section 7; RFC 9053, section 7). The value of a member is that
-- of the first param with its label.
use Rattle.std.specs.Prelude.{ℕ, ℤ, Bool, List, Option}
use Rattle.std.specs.Option.{option_and_then}
use Rattle.coset.specs.Item.{Items}
use Rattle.coset.specs.Keys.{KeyView}
use Rattle.coset.specs.LabelData.{number}
use Rattle.coset.specs.Parts.{as_array, as_bool, as_bytes, as_integer}
use Rattle.coset.specs.Sec1.{param}

-- The member's bytes, if it is a byte string.
abbrev pub bytes_of : ℤ → KeyView → Option (List ℕ)
bytes_of l k = option_and_then as_bytes (param (number l) k)

-- The member's number, if it is an integer.
abbrev pub integer_of : ℤ → KeyView → Option ℤ
integer_of l k = option_and_then as_integer (param (number l) k)

-- The member's bool, if it is one.
abbrev pub bool_of : ℤ → KeyView → Option Bool
bool_of l k = option_and_then as_bool (param (number l) k)

-- The member's elements, if it is an array.
abbrev pub array_of : ℤ → KeyView → Option Items
array_of l k = option_and_then as_array (param (number l) k)
