-- The members that a key must have or must not have, by its type (RFC 9052, section 7; RFC 9053, section 7).
use Rattle.std.specs.Prelude.{◌&&◌, ◌||◌, ℤ, pos, List, [], ◌∷◌, Option, None, Bool, true, false, not, int_lt, is_some}
use Rattle.std.specs.List.{list_all, list_any}
use Rattle.std.specs.Option.{option_map_or}
use Rattle.coset.specs.Item.{Item}
use Rattle.coset.specs.Keys.{KeyView}
use Rattle.coset.specs.LabelData.{LabelView, number, text_label, same_label}
use Rattle.coset.specs.Parts.{as_array, as_bool, as_bytes, as_integer, as_text}
use Rattle.coset.specs.Registry.{first_numbered, minus}
use Rattle.coset.specs.Sec1.{param}
use Rattle.coset_iana.specs.KeyType as types
use Rattle.coset_iana.specs.declared.keys.KeyType.{KeyType}
use Rattle.coset_iana.specs.declared.keys.KeyType.TheVariants as kty
use Rattle.coset_iana.specs.declared.keys.TheConstants.{KEY_TYPES}
use Rattle.cwt_confirm.specs.declared.key.Kind.{Kind}
use Rattle.cwt_confirm.specs.declared.key.Kind.TheVariants.{Name, Bytes, Coordinate, Unsigned, Array}

-- Returns true if the item is of this kind.
abbrev pub is_of_kind : Kind → Item → Bool
is_of_kind Name v = is_some (as_integer v) || is_some (as_text v)
is_of_kind Bytes v = is_some (as_bytes v)
is_of_kind Coordinate v = is_some (as_bytes v) || is_some (as_bool v)
is_of_kind Unsigned v = option_map_or (λ i. not (int_lt i (pos 0))) (as_integer v) false
is_of_kind Array v = is_some (as_array v)

-- Returns true if the key has a member of this kind with this label.
abbrev pub has_member : ℤ → Kind → KeyView → Bool
has_member l kind k = option_map_or (is_of_kind kind) (param (number l) k) false

-- The labels and kinds of the members that a public or symmetric key of a type must have.
abbrev pub required : KeyType → List (ℤ × Kind)
-- RFC 9053, section 7.2: crv and x
required kty.OKP = (minus 1, Name) ∷ (minus 2, Bytes) ∷ []
-- RFC 9053, section 7.1.1: crv, x and y
required kty.EC2 = (minus 1, Name) ∷ (minus 2, Bytes) ∷ (minus 3, Coordinate) ∷ []
-- RFC 8230, section 4: n and e
required kty.RSA = (minus 1, Bytes) ∷ (minus 2, Bytes) ∷ []
-- RFC 9053, section 7.3: k
required kty.Symmetric = (minus 1, Bytes) ∷ []
-- RFC 8778: pub
required kty.HSS_LMS = (minus 1, Bytes) ∷ []
-- RFC 9021, section 6.3: N, q, the t-values, and both matrices with the permutation of the first
required kty.WalnutDSA = (minus 1, Unsigned) ∷ (minus 2, Unsigned) ∷ (minus 3, Array) ∷ (minus 4, Array) ∷ (minus 5, Array) ∷ (minus 6, Array) ∷ []
-- pub
required kty.AKP = (minus 1, Bytes) ∷ []
required kty.Reserved = []

-- The labels of the private members of a key of a type.
abbrev pub private : KeyType → List ℤ
-- d (RFC 9053, sections 7.1.1 and 7.2)
private kty.OKP = minus 4 ∷ []
private kty.EC2 = minus 4 ∷ []
-- d, p, q, dP, dQ, qInv, other, r_i, d_i and t_i (RFC 8230, section 4)
private kty.RSA = minus 3 ∷ minus 4 ∷ minus 5 ∷ minus 6 ∷ minus 7 ∷ minus 8 ∷ minus 9 ∷ minus 10 ∷ minus 11 ∷ minus 12 ∷ []
-- priv
private kty.AKP = minus 2 ∷ []
private t = []

-- ---- a key

-- The type with this label, if IANA assigned it.
abbrev pub type_labelled : LabelView → Option KeyType
type_labelled (number i) = first_numbered types.number KEY_TYPES i
type_labelled (text_label s) = None

abbrev pub type_of : KeyView → Option KeyType
type_of k = type_labelled k.kty

-- Returns true if the key names its algorithm, or has a type that doesn't require it.
abbrev pub has_algorithm : KeyType → KeyView → Bool
has_algorithm kty.AKP k = is_some k.alg
has_algorithm t k = true

abbrev pub has_members : KeyType → KeyView → Bool
has_members t k = list_all (λ r. has_member r.0 r.1 k) (required t)

abbrev pub has_required : KeyType → KeyView → Bool
has_required t k = has_algorithm t k && has_members t k

-- Returns true if IANA assigned the key's type, and the key has each member that the type requires.
abbrev pub is_complete : KeyView → Bool
is_complete k = option_map_or (λ t. has_required t k) (type_of k) false

abbrev pub has_private : KeyType → KeyView → Bool
has_private t k = list_any (λ l. is_some (param (number l) k)) (private t)

-- Returns true if the key has a private member.
abbrev pub is_private : KeyView → Bool
is_private k = option_map_or (λ t. has_private t k) (type_of k) false

abbrev pub is_symmetric : KeyView → Bool
is_symmetric k = same_label k.kty (number (types.number kty.Symmetric))
