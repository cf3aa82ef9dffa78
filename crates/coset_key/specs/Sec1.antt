-- Points of elliptic curves as octet strings (SEC 1, sections 2.3.3 and 2.3.4; RFC 8152, section 13.1.1).
use Rattle.std.specs.Prelude.{◌≡◌, ◌≢◌, ◌⊎◌, ◌==◌, ◌%◌, ℕ, List, [], ◌∷◌, ◌++◌, length, Bool, true, false, cond, codes, Option, Some, Result, Ok, Err, Vec, ⊤}
use Rattle.std.specs.Global.{Global}
use Rattle.std.specs.Map.{lookup}
use Rattle.coset_value.specs.Item.{Item, bytes, boolean}
use Rattle.coset_iana.specs.KeyType as kinds
use Rattle.coset_iana.specs.declared.keys.EllipticCurve.{EllipticCurve}
use Rattle.coset_iana.specs.declared.keys.KeyType.TheVariants.{EC2}
use Rattle.coset_codec.specs.declared.error.CoseError.TheVariants as errors
use Rattle.coset_codec.specs.declared.error.CallError.{CallError}
use Rattle.coset_codec.specs.declared.error.CallError.TheVariants.{Coset, Caller}
use Rattle.coset_label.specs.LabelData.{LabelView, number, same_label}
use Rattle.coset_key.specs.Keys.{KeyView, key_view}
use Rattle.coset_key.specs.KeyBuilt.{ec2_key, x_label, y_label}
use Rattle.coset_key.specs.declared.key.CoseKey.{CoseKey}
use Rattle.coset_key.specs.declared.sec1.ParseSec1OctetStringError.{ParseSec1OctetStringError}
use Rattle.coset_key.specs.declared.sec1.ToSec1OctetStringError.{ToSec1OctetStringError}
use Rattle.coset_key.specs.declared.sec1.ToSec1OctetStringError.TheVariants.{NotEcKey, MissingCoordinate, InvalidCoordinateType, UnequalCoordinateLength}
use Rattle.coset_key.specs.declared.sec1.ToSec1OctetStringError.TheVariants.{OutOfMemory}

-- A point: its x coordinate, and y or the sign of y.
pub data Point : Type 0 where
  compressed : Bool → List ℕ → Point
  uncompressed : List ℕ → List ℕ → Point

-- The octets of a point: 02 or 03 for the sign, then x; or 04, then x and y.
abbrev pub octets : Point → List ℕ
octets (compressed false x) = 2 ∷ x
octets (compressed true x) = 3 ∷ x
octets (uncompressed x y) = 4 ∷ x ++ y

-- The coordinates have the same length.
abbrev pub HaveEqualLength : Point → Type 0
HaveEqualLength (compressed sign x) = ⊤
HaveEqualLength (uncompressed x y) = length x ≡ length y

-- The octet string encodes this point.
abbrev pub EncodesPoint : List ℕ → Point → Type 0
EncodesPoint s p = (octets p ≡ s) × HaveEqualLength p

-- The octet string is empty, begins with an octet other than 02, 03 and 04, or has an odd number of octets after 04.
abbrev pub IsMalformed : List ℕ → Type 0
IsMalformed [] = ⊤
IsMalformed (b ∷ rest) = ((b ≢ 2) × (b ≢ 3) × (b ≢ 4)) ⊎ ((b ≡ 4) × (length rest % 2 ≡ 1))

-- ---- from a key

-- The point with this x. The item is y, or a bool for its sign.
abbrev pub point : List ℕ → Item → Result Point ToSec1OctetStringError
point x (boolean sign) = Ok (compressed sign x)
point x (bytes y) = cond (length x == length y) (Ok (uncompressed x y)) (Err UnequalCoordinateLength)
point x v = Err InvalidCoordinateType

-- The point with these coordinates, if both are present.
abbrev pub coordinates_point : Option Item → Option Item → Result Point ToSec1OctetStringError
coordinates_point (Some (bytes x)) (Some y) = point x y
coordinates_point (Some v) (Some y) = Err InvalidCoordinateType
coordinates_point o q = Err MissingCoordinate

-- The value of the first param with this label.
abbrev pub param : LabelView → KeyView → Option Item
param l k = lookup (same_label l) k.params

-- The point of an elliptic curve key with two coordinates, or the reason why there is none.
abbrev pub key_point : KeyView → Result Point ToSec1OctetStringError
key_point k = cond (same_label k.kty (number (kinds.number EC2))) (coordinates_point (param x_label k) (param y_label k)) (Err NotEcKey)

-- The result is the point's octet string, or the reason why there is no point. For a point the only error is
-- `OutOfMemory`.
abbrev pub GivesOctets : Result Point ToSec1OctetStringError → Result (Vec ℕ Global) ToSec1OctetStringError → Type 0
GivesOctets (Ok p) (Ok b) = b.items ≡ octets p
GivesOctets (Ok p) (Err e) = e ≡ OutOfMemory
GivesOctets (Err e) (Ok b) = ⊥
GivesOctets (Err e) (Err f) = f ≡ e

-- ---- to a key

-- The key of a point.
abbrev pub point_key : EllipticCurve → Point → KeyView
point_key curve (compressed sign x) = ec2_key curve x (boolean sign)
point_key curve (uncompressed x y) = ec2_key curve x (bytes y)

-- The result is the key of the point that the octet string encodes. The caller's error means that the string is
-- malformed. The only other error is `OutOfMemory`, for a string that isn't malformed.
abbrev pub ParsesSec1 : EllipticCurve → List ℕ → Result CoseKey (CallError ParseSec1OctetStringError) → Type 0
ParsesSec1 curve s (Ok k) = (p : Point) × EncodesPoint s p × (key_view k ≡ point_key curve p)
ParsesSec1 curve s (Err (Coset e)) = (e ≡ errors.OutOfMemory) × (IsMalformed s → ⊥)
ParsesSec1 curve s (Err (Caller e)) = IsMalformed s

-- ---- texts

abbrev pub to_sec1_error_text : ToSec1OctetStringError → Option (List ℕ)
to_sec1_error_text NotEcKey = Some (codes "not an EC key")
to_sec1_error_text MissingCoordinate = Some (codes "missing coordinate")
to_sec1_error_text InvalidCoordinateType = Some (codes "invalid coordinate type")
to_sec1_error_text UnequalCoordinateLength = Some (codes "unequal coordinate lengths")
to_sec1_error_text OutOfMemory = Some (codes "out of memory")

abbrev pub parse_sec1_error_text : ParseSec1OctetStringError → Option (List ℕ)
parse_sec1_error_text e = Some (codes "ParseSec1OctetStringError")
