-- Numbers without a name in IANA registries (RFC 8152, section 16).
use Rattle.std.specs.Prelude.{◌≡◌, ◌⊎◌, ℤ, Bool, Option, Some, None, false}
use Rattle.coset.specs.Item.{Item}
use Rattle.coset.specs.Parts.{as_integer}
use Rattle.coset.specs.Registry.{first_numbered}
use Rattle.coset.specs.WithPrivateRange.{is_private_use}
use Rattle.coset_iana.specs.Algorithm as algorithms
use Rattle.coset_iana.specs.CoapContentFormat as formats
use Rattle.coset_iana.specs.CwtClaimName as claims
use Rattle.coset_iana.specs.HeaderParameter as parameters
use Rattle.coset_iana.specs.KeyOperation as operations
use Rattle.coset_iana.specs.KeyType as key_types
use Rattle.coset_iana.specs.declared.algorithms.TheConstants.{ALGORITHMS}
use Rattle.coset_iana.specs.declared.claims.TheConstants.{CWT_CLAIM_NAMES}
use Rattle.coset_iana.specs.declared.content_formats.TheConstants.{COAP_CONTENT_FORMATS}
use Rattle.coset_iana.specs.declared.headers.TheConstants.{HEADER_PARAMETERS}
use Rattle.coset_iana.specs.declared.keys.TheConstants.{KEY_OPERATIONS, KEY_TYPES}

-- None of the registry's values has this number.
abbrev pub HasNoName : {T : Type 0} → (ℤ → Option T) → ℤ → Type 0
HasNoName value_of z = value_of z ≡ None

-- None of the registry's values has this number, and it is outside the registry's private range.
abbrev pub IsOutside : {T : Type 0} → (ℤ → Option T) → (ℤ → Bool) → ℤ → Type 0
IsOutside value_of is_private z = HasNoName value_of z × (is_private z ≡ false)

-- An integer without a name in the registry of content formats, of key types, or of key operations.
abbrev pub IsUnassigned : Item → Type 0
IsUnassigned v =
    (z : ℤ) × (as_integer v ≡ Some z)
    × (HasNoName (first_numbered formats.number COAP_CONTENT_FORMATS) z
    ⊎ (HasNoName (first_numbered key_types.number KEY_TYPES) z ⊎ HasNoName (first_numbered operations.number KEY_OPERATIONS) z))

-- An integer without a name in the registry of algorithms, of header parameters, or of claims, and outside the private
-- range of that registry.
abbrev pub IsUnassignedAndNotPrivate : Item → Type 0
IsUnassignedAndNotPrivate v =
    (z : ℤ) × (as_integer v ≡ Some z)
    × (IsOutside (first_numbered algorithms.number ALGORITHMS) is_private_use z
    ⊎ (IsOutside (first_numbered parameters.number HEADER_PARAMETERS) is_private_use z
    ⊎ IsOutside (first_numbered claims.number CWT_CLAIM_NAMES) is_private_use z))
