-- The names of the registered claims (RFC 8392, section 3.1), as IANA assigns them.
use Rattle.coset_iana.specs.CwtClaimName as claim_names
use Rattle.coset_iana.specs.declared.claims.CwtClaimName.TheVariants.{Iss, Sub, Aud, Exp, Nbf, Iat, Cti}
use Rattle.coset_label.specs.LabelData.{RegisteredLabelView, assigned}

-- Issuer.
abbrev pub iss : RegisteredLabelView
iss = assigned (claim_names.number Iss)

-- Subject.
abbrev pub sub : RegisteredLabelView
sub = assigned (claim_names.number Sub)

-- Audience.
abbrev pub aud : RegisteredLabelView
aud = assigned (claim_names.number Aud)

-- Expiration time.
abbrev pub exp : RegisteredLabelView
exp = assigned (claim_names.number Exp)

-- Not before.
abbrev pub nbf : RegisteredLabelView
nbf = assigned (claim_names.number Nbf)

-- Issued at.
abbrev pub iat : RegisteredLabelView
iat = assigned (claim_names.number Iat)

-- CWT ID.
abbrev pub cti : RegisteredLabelView
cti = assigned (claim_names.number Cti)
