-- The texts of the reasons.
use Rattle.std.specs.Prelude.{ℕ, List, codes, Option, Some, None}
use Rattle.std.specs.Fmt.{◌++?◌, decimal, signed_decimal}
use Rattle.coset.specs.Errors.{error_text}
use Rattle.coset_iana.specs.CwtClaimName as claim_names
use Rattle.cwt_verify.specs.declared.error.LayerError.{LayerError}
use Rattle.cwt_verify.specs.declared.error.LayerError.TheVariants.{Message, Headers, Algorithm, Critical, Recipients, NoPayload, NoSignature, Keys}
use Rattle.cwt_verify.specs.declared.error.LayerError.TheVariants.{TooManySignatures}
use Rattle.cwt_verify.specs.declared.error.TokenError.{TokenError}
use Rattle.cwt_verify.specs.declared.error.TokenError.TheVariants as token

-- The text of a reason against a layer. For the keys' own error, `text` gives it.
abbrev pub layer_error_text : {E : Type 0} → (E → Option (List ℕ)) → LayerError E → Option (List ℕ)
layer_error_text text (Message e) = Some (codes "not a message: ") ++? error_text e
layer_error_text text Headers = Some (codes "headers contradict each other")
layer_error_text text (Algorithm None) = Some (codes "no algorithm that is allowed")
layer_error_text text (Algorithm (Some number)) = Some (codes "algorithm ") ++? (Some (signed_decimal number) ++? Some (codes " not allowed"))
layer_error_text text Critical = Some (codes "critical label not understood")
layer_error_text text Recipients = Some (codes "not one direct recipient with a key identifier")
layer_error_text text NoPayload = Some (codes "no payload")
layer_error_text text NoSignature = Some (codes "no signature")
layer_error_text text TooManySignatures = Some (codes "too many signatures")
layer_error_text text (Keys id e) = text e

-- The text of a reason against a token.
abbrev pub token_error_text : {E : Type 0} → (E → Option (List ℕ)) → TokenError E → Option (List ℕ)
token_error_text text (token.Layer index e) = Some (codes "layer ") ++? (Some (decimal index) ++? (Some (codes ": ") ++? layer_error_text text e))
token_error_text text token.TooDeep = Some (codes "too many layers")
token_error_text text token.Unauthenticated = Some (codes "no layer authenticates the token")
token_error_text text token.«Type» = Some (codes "another type")
token_error_text text (token.Claims e) = Some (codes "not a claims set: ") ++? error_text e
token_error_text text token.HeaderClaims = Some (codes "a header has other claims than the payload")
token_error_text text token.Issuer = Some (codes "another issuer")
token_error_text text token.NoExpiration = Some (codes "no expiration time")
token_error_text text token.Expired = Some (codes "expired")
token_error_text text token.NotYetValid = Some (codes "not yet valid")
token_error_text text token.IssuedInFuture = Some (codes "issued in the future")
token_error_text text token.TooOld = Some (codes "too old")
token_error_text text token.Audience = Some (codes "another audience")
token_error_text text (token.Missing name) = Some (codes "no ") ++? (Some (claim_names.name name) ++? Some (codes " claim"))
