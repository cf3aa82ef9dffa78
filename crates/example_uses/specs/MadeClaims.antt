-- Claims that are made (RFC 8392, section 3).
use Rattle.std.specs.Prelude.{ℕ, ℤ, List, [], ◌∷◌, Some, pos, true}
use Rattle.coset_value.specs.Item.{bytes, integer, boolean}
use Rattle.coset_iana.specs.CwtClaimName as claim_names
use Rattle.coset_iana.specs.declared.claims.CwtClaimName.TheVariants.{Nonce}
use Rattle.coset_label.specs.LabelData.{assigned, private_use, text_name}
use Rattle.coset_claims.specs.Claims.{ClaimsView, no_claims}
use Rattle.coset_claims.specs.Timestamp.{whole_seconds}
use Rattle.example_uses.specs.declared.made_claims.TheConstants.{ROLE}

-- {1: issuer, 3: audience, 4: expires, 10: nonce, -70001: role, name: true}
abbrev pub claims_for : List ℕ → List ℕ → ℤ → List ℕ → ℕ → List ℕ → ClaimsView
claims_for issuer audience expires nonce role name = record no_claims {
  issuer = Some issuer;
  audience = Some audience;
  expiration_time = Some (whole_seconds expires);
  rest =
      (assigned (claim_names.number Nonce), bytes nonce)
      ∷ (private_use ROLE, integer (pos role))
      ∷ (text_name name, boolean true)
      ∷ [];
}
