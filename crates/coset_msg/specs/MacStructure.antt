-- The structure that is authenticated (RFC 8152, section 6.3).
use Rattle.std.specs.Prelude.{◌≡◌, ℕ, List, [], ◌∷◌, Option, None, option_map, codes}
use Rattle.coset_value.specs.Item.{Item}
use Rattle.coset_core.specs.Headers.{ProtectedView, protected_bytes}
use Rattle.coset_core.specs.Structure.{structure}
use Rattle.coset_msg.specs.declared.mac_structure.MacContext.{MacContext}
use Rattle.coset_msg.specs.declared.mac_structure.MacContext.TheVariants.{CoseMac, CoseMac0}

-- context : "MAC" / "MAC0"
abbrev pub mac_text : MacContext → List ℕ
mac_text CoseMac = codes "MAC"
mac_text CoseMac0 = codes "MAC0"

-- MAC_structure: the context, protected : bstr, external_aad : bstr, payload : bstr
abbrev pub mac_structure : MacContext → List ℕ → List ℕ → List ℕ → Item
mac_structure context protected external_aad payload = structure (mac_text context) (protected ∷ external_aad ∷ payload ∷ [])

-- The structure over the protected bytes of a header. `None` if the header has no protected bytes.
abbrev pub mac_item : MacContext → ProtectedView → List ℕ → List ℕ → Option Item
mac_item context p external_aad payload = option_map (λ b. mac_structure context b external_aad payload) (protected_bytes p)

-- The two headers give the same structure, in each context and for any `external_aad` and payload.
abbrev pub AuthenticatesSame : ProtectedView → ProtectedView → Type 0
AuthenticatesSame p q = (context : MacContext) (external_aad payload : List ℕ)
    → mac_item context p external_aad payload ≡ mac_item context q external_aad payload

-- The header gives a structure, in each context and for any `external_aad` and payload.
abbrev pub Authenticates : ProtectedView → Type 0
Authenticates p = (context : MacContext) (external_aad payload : List ℕ) → mac_item context p external_aad payload ≡ None → ⊥
