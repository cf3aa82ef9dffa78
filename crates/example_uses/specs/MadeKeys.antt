-- Keys that are made (RFC 8152, section 13.2).
use Rattle.std.specs.Prelude.{ℕ, List, [], ◌∷◌}
use Rattle.coset_value.specs.Item.{bytes, integer}
use Rattle.coset_iana.specs.EllipticCurve as curves
use Rattle.coset_iana.specs.OkpKeyParameter as parameters
use Rattle.coset_iana.specs.declared.key_parameters.OkpKeyParameter.TheVariants.{Crv, X}
use Rattle.coset_iana.specs.declared.keys.EllipticCurve.TheVariants.{Ed25519}
use Rattle.coset_iana.specs.declared.keys.KeyType.TheVariants.{OKP}
use Rattle.coset_label.specs.LabelData.{number}
use Rattle.coset_key.specs.Keys.{KeyView}
use Rattle.coset_key.specs.KeyBuilt.{key_with, with_key_id}

-- {1: OKP, 2: key_id, -1: Ed25519, -2: x}
abbrev pub ed25519_key : List ℕ → List ℕ → KeyView
ed25519_key key_id x =
    with_key_id key_id (key_with OKP ((number (parameters.number Crv), integer (curves.number Ed25519)) ∷ (number (parameters.number X), bytes x) ∷ []))
