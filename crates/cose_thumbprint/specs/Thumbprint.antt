-- The input of a COSE key thumbprint: the map of a key's type and its required members (RFC 9679, sections 3 and 4).
use Rattle.std.specs.Prelude.{◌≡◌, ℕ, ℤ, pos, List, [], ◌∷◌, map, Bool, true, false, cond, Option, Some, None, Result, Ok, Err, Vec}
use Rattle.std.specs.Global.{Global}
use Rattle.std.specs.Map.{lookup}
use Rattle.coset.specs.Item.{Item, integer, bytes, boolean, dict, Pairs, pair}
use Rattle.coset.specs.Keys.{KeyView}
use Rattle.coset.specs.LabelData.{LabelView, number, label_item, same_label}
use Rattle.coset.specs.Registry.{minus}
use Rattle.coset.specs.Sec1.{param}
use Rattle.coset.specs.Shortest.{IsShortest}
use Rattle.coset.specs.View.{pairs_of}
use Rattle.cose_thumbprint.specs.declared.error.ThumbprintError.{ThumbprintError}
use Rattle.cose_thumbprint.specs.declared.error.ThumbprintError.TheVariants.{OtherKeyType, MissingMember, InvalidMemberType, CompressedPoint, OutOfMemory}

-- The data type of a required member (RFC 9679, section 4; RFC 8152, section 13).
pub data DataType : Type 0 where
  byte_string : DataType
  -- an integer
  curve : DataType
  -- a byte string; a bool is the sign of a compressed point
  coordinate : DataType

-- A required member: its label and its data type.
abbrev pub Required : Type 0
Required = ℤ × DataType

-- ---- the required members other than kty, in the order of their encodings

-- crv and x of an octet key pair.
abbrev pub okp : List Required
okp = (minus 1, curve) ∷ (minus 2, byte_string) ∷ []

-- crv, x and y of an elliptic curve key with two coordinates.
abbrev pub ec2 : List Required
ec2 = (minus 1, curve) ∷ (minus 2, byte_string) ∷ (minus 3, coordinate) ∷ []

-- n and e of an RSA key.
abbrev pub rsa : List Required
rsa = (minus 1, byte_string) ∷ (minus 2, byte_string) ∷ []

-- k of a symmetric key, or pub of an HSS/LMS key.
abbrev pub single : List Required
single = (minus 1, byte_string) ∷ []

-- The key types that have thumbprints, by their numbers: OKP, EC2, RSA, Symmetric and HSS-LMS.
abbrev pub key_types : List (ℤ × List Required)
key_types = (pos 1, okp) ∷ (pos 2, ec2) ∷ (pos 3, rsa) ∷ (pos 4, single) ∷ (pos 5, single) ∷ []

-- The required members of a key type, or `None` if it has no thumbprint.
abbrev pub required : LabelView → Option (List Required)
required kty = lookup (λ n. same_label (number n) kty) key_types

-- ---- the members of a key

-- Returns true if the item is of the data type.
abbrev pub has_type : DataType → Item → Bool
has_type byte_string (bytes s) = true
has_type curve (integer n) = true
has_type coordinate (bytes s) = true
has_type t v = false

-- The error for an item that isn't of the data type.
abbrev pub other_type : DataType → Item → ThumbprintError
other_type coordinate (boolean sign) = CompressedPoint
other_type t v = InvalidMemberType

-- An item that must be of the data type.
abbrev pub typed : DataType → Item → Result Item ThumbprintError
typed t v = cond (has_type t v) (Ok v) (Err (other_type t v))

-- An item that must be there.
abbrev pub present : Option Item → Result Item ThumbprintError
present None = Err MissingMember
present (Some v) = Ok v

-- Applies a step to the result of an earlier one, or returns its error.
abbrev pub then_on : {A B : Type 0} → Result A ThumbprintError → (A → Result B ThumbprintError) → Result B ThumbprintError
then_on (Ok x) step = step x
then_on (Err e) step = Err e

-- The label and value of a required member. The value is that of the first param with the label.
abbrev pub member : KeyView → Required → Result (ℤ × Item) ThumbprintError
member k m = then_on (then_on (present (param (number m.0) k)) (typed m.1)) (λ v. Ok (m.0, v))

-- The labels and values of required members, or the error of the first one that has an error.
abbrev pub members : KeyView → List Required → Result (List (ℤ × Item)) ThumbprintError
members k [] = Ok []
members k (m ∷ ms) = then_on (member k m) (λ e. then_on (members k ms) (λ es. Ok (e ∷ es)))

-- The pairs of these members.
abbrev pub pairs : List (ℤ × Item) → Pairs
pairs es = pairs_of (map (λ e. (integer e.0, e.1)) es)

-- The map of kty, with label 1, and these members.
abbrev pub map_of : LabelView → List (ℤ × Item) → Item
map_of kty es = dict (pair (integer (pos 1)) (label_item kty) (pairs es))

-- The map of the key type and the key's members of these labels.
abbrev pub map_of_members : LabelView → KeyView → List Required → Result Item ThumbprintError
map_of_members kty k ms = then_on (members k ms) (λ es. Ok (map_of kty es))

-- The map for a key type with these required members.
abbrev pub map_if_any : KeyView → Option (List Required) → Result Item ThumbprintError
map_if_any k None = Err OtherKeyType
map_if_any k (Some ms) = map_of_members k.kty k ms

-- The map that the input encodes, or the reason why the key has no thumbprint.
abbrev pub required_map : KeyView → Result Item ThumbprintError
required_map k = map_if_any k (required k.kty)

-- ---- the result

-- The result is the shortest encoding of the map, or the reason why there is none. If there is a map, the only error is
-- `OutOfMemory`.
abbrev pub GivesInput : Result Item ThumbprintError → Result (Vec ℕ Global) ThumbprintError → Type 0
GivesInput (Ok v) (Ok b) = IsShortest b.items v
GivesInput (Ok v) (Err e) = e ≡ OutOfMemory
GivesInput (Err e) (Ok b) = ⊥
GivesInput (Err e) (Err f) = f ≡ e

-- The bytes are the thumbprint input of the key.
abbrev pub IsInput : Vec ℕ Global → KeyView → Type 0
IsInput b k = GivesInput (required_map k) (Ok b)
