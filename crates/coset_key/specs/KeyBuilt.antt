-- The keys that the builder's calls make (RFC 8152, sections 7.1 and 13): a key of some type, or a key with one field
-- set.
use Rattle.std.specs.Prelude.{◌≡◌, ◌⊎◌, ℕ, ℤ, pos, int_lt, true, List, [], ◌∷◌, ◌++◌, Some}
use Rattle.std.specs.BTreeSet.{insert_key}
use Rattle.coset_value.specs.Item.{Item, integer, bytes}
use Rattle.coset_iana.specs.AkpKeyParameter as akp
use Rattle.coset_iana.specs.Ec2KeyParameter as ec2
use Rattle.coset_iana.specs.EllipticCurve as curves
use Rattle.coset_iana.specs.KeyType as kinds
use Rattle.coset_iana.specs.SymmetricKeyParameter as symmetric
use Rattle.coset_iana.specs.Algorithm as algorithms
use Rattle.coset_iana.specs.declared.key_parameters.AkpKeyParameter.TheVariants.{Pub}
use Rattle.coset_iana.specs.declared.key_parameters.Ec2KeyParameter.TheVariants as coordinates
use Rattle.coset_iana.specs.declared.key_parameters.SymmetricKeyParameter.TheVariants.{K}
use Rattle.coset_iana.specs.declared.keys.EllipticCurve.{EllipticCurve}
use Rattle.coset_iana.specs.declared.keys.KeyType.{KeyType}
use Rattle.coset_iana.specs.declared.keys.KeyType.TheVariants.{OKP, EC2, Symmetric, AKP}
use Rattle.coset_label.specs.LabelData.{LabelView, number, RegisteredLabelView, assigned, label_cmp}
use Rattle.coset_key.specs.Keys.{KeyView, empty_key}
use Rattle.coset_key.specs.MlDsa.{algorithm_of}
use Rattle.coset_key.specs.declared.ml_dsa.MlDsaVariant.{MlDsaVariant}

-- ---- keys of a type

-- A key of this type, without any other field or param.
abbrev pub key_of_type : KeyType → KeyView
key_of_type t = record empty_key { kty = number (kinds.number t) }

-- A key of this type with these params.
abbrev pub key_with : KeyType → List (LabelView × Item) → KeyView
key_with t params = record (key_of_type t) { params = params }

-- An octet key pair.
abbrev pub okp_key : KeyView
okp_key = key_of_type OKP

-- The labels of a curve, of a point's coordinates, and of a private key.
abbrev pub curve_label : LabelView
curve_label = number (ec2.number coordinates.Crv)

abbrev pub x_label : LabelView
x_label = number (ec2.number coordinates.X)

abbrev pub y_label : LabelView
y_label = number (ec2.number coordinates.Y)

abbrev pub d_label : LabelView
d_label = number (ec2.number coordinates.D)

-- The params of a point on a curve. The item `y` is a byte string, or a bool for its sign.
abbrev pub point_params : EllipticCurve → List ℕ → Item → List (LabelView × Item)
point_params curve x y = (curve_label, integer (curves.number curve)) ∷ (x_label, bytes x) ∷ (y_label, y) ∷ []

-- An elliptic curve key with two coordinates.
abbrev pub ec2_key : EllipticCurve → List ℕ → Item → KeyView
ec2_key curve x y = key_with EC2 (point_params curve x y)

-- An elliptic curve key with two coordinates and the private key.
abbrev pub ec2_private_key : EllipticCurve → List ℕ → List ℕ → List ℕ → KeyView
ec2_private_key curve x y d = key_with EC2 (point_params curve x (bytes y) ++ (d_label, bytes d) ∷ [])

-- A public ML-DSA key.
abbrev pub ml_dsa_key : MlDsaVariant → List ℕ → KeyView
ml_dsa_key variant k = record (key_with AKP ((number (akp.number Pub), bytes k) ∷ [])) { alg = Some (assigned (algorithms.number (algorithm_of variant))) }

-- A symmetric key.
abbrev pub symmetric_key : List ℕ → KeyView
symmetric_key k = key_with Symmetric ((number (symmetric.number K), bytes k) ∷ [])

-- ---- keys with one field set

-- The key with this type, and otherwise unchanged.
abbrev pub with_kty : LabelView → KeyView → KeyView
with_kty t k = record k { kty = t }

-- The key with this identifier, and otherwise unchanged.
abbrev pub with_key_id : List ℕ → KeyView → KeyView
with_key_id b k = record k { key_id = b }

-- The key with this algorithm, and otherwise unchanged.
abbrev pub with_algorithm : RegisteredLabelView → KeyView → KeyView
with_algorithm a k = record k { alg = Some a }

-- The key with this Base IV, and otherwise unchanged.
abbrev pub with_base_iv : List ℕ → KeyView → KeyView
with_base_iv b k = record k { base_iv = b }

-- The key with this operation inserted at its place, unless it has the operation already.
abbrev pub push_operation : LabelView → KeyView → KeyView
push_operation l k = record k { key_ops = insert_key label_cmp k.key_ops l }

-- The key with one more pair, after its other params.
abbrev pub push_param : LabelView → Item → KeyView → KeyView
push_param l v k = record k { params = k.params ++ (l, v) ∷ [] }

-- The label is none of 0 to 5. IANA reserves 0, and assigns 1 to 5 to the parameters that keys of all types share.
abbrev pub IsOtherLabel : ℤ → Type 0
IsOtherLabel n = (int_lt n (pos 0) ≡ true) ⊎ (int_lt (pos 5) n ≡ true)
