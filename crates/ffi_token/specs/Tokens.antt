-- The result of opening a token.
use Rattle.std.specs.Prelude.{◌≡◌, ◌&&◌, ◌⊎◌, ℕ, ℤ, List, Bool, Option, Some, None, Result, Ok, Err, Vec, if◌then◌else◌}
use Rattle.std.specs.Global.{Global}
use Rattle.std.specs.List.{list_all}
use Rattle.coset.specs.CoseError.TheVariants as errors
use Rattle.coset.specs.Errors.{UnlessMemory}
use Rattle.cwt_keys.specs.Keys.{KeysView}
use Rattle.cwt_verify.specs.Policy.{PolicyView}
use Rattle.cwt_verify.specs.Verify.{TokenView, VerifiesToken, token_view}
use Rattle.cwt_verify.specs.declared.error.LayerError.{LayerError}
use Rattle.cwt_verify.specs.declared.error.LayerError.TheVariants as at
use Rattle.cwt_verify.specs.declared.error.TokenError.{TokenError}
use Rattle.cwt_verify.specs.declared.error.TokenError.TheVariants as token
use Rattle.cwt_verify.specs.declared.token.VerifiedToken.{VerifiedToken}
use Rattle.coset_seen.specs.Puts.{BeginsWith}
use Rattle.ffi_query.specs.Results.{IsEncodingOf, Puts}
use Rattle.ffi_query.specs.declared.refusal.Refusal.TheVariants as answers
use Rattle.ffi_token.specs.Opened.{has_text, opened_view}
use Rattle.ffi_token.specs.Written.{token_image}
use Rattle.ffi_token.specs.declared.layer.Layer as layers
use Rattle.ffi_token.specs.declared.layer.LayerView.{LayerView}
use Rattle.ffi_token.specs.declared.layer.Waiting.{Waiting}
use Rattle.ffi_token.specs.declared.layer.Waiting.TheVariants as waits
use Rattle.ffi_token.specs.declared.opened.Opened.{Opened}
use Rattle.ffi_token.specs.declared.refusal.Apart as aparts
use Rattle.ffi_token.specs.declared.refusal.Apart.TheVariants as apart_as
use Rattle.ffi_token.specs.declared.refusal.Refusal as refusals
use Rattle.ffi_token.specs.declared.refusal.Refusal.TheVariants.{Misuse, Token, Answer}

-- ---- the error of a token: a layer that waits, or a refusal

abbrev pub refused_at : ℕ → LayerError LayerView → aparts.Apart
refused_at index e = apart_as.Refused (token.Layer index e)

abbrev pub apart_at : ℕ → LayerError Waiting → aparts.Apart
apart_at index (at.Keys id (waits.Layer l)) = apart_as.Layer index id l
apart_at index (at.Keys id waits.OutOfMemory) = refused_at index (at.Message errors.OutOfMemory)
apart_at index (at.Message e) = refused_at index (at.Message e)
apart_at index at.Headers = refused_at index at.Headers
apart_at index (at.Algorithm n) = refused_at index (at.Algorithm n)
apart_at index at.Critical = refused_at index at.Critical
apart_at index at.Recipients = refused_at index at.Recipients
apart_at index at.NoPayload = refused_at index at.NoPayload
apart_at index at.NoSignature = refused_at index at.NoSignature
apart_at index at.TooManySignatures = refused_at index at.TooManySignatures

abbrev pub apart : TokenError Waiting → aparts.Apart
apart (token.Layer index e) = apart_at index e
apart token.TooDeep = apart_as.Refused token.TooDeep
apart token.Unauthenticated = apart_as.Refused token.Unauthenticated
apart token.«Type» = apart_as.Refused token.«Type»
apart (token.Claims e) = apart_as.Refused (token.Claims e)
apart token.HeaderClaims = apart_as.Refused token.HeaderClaims
apart token.Issuer = apart_as.Refused token.Issuer
apart token.NoExpiration = apart_as.Refused token.NoExpiration
apart token.Expired = apart_as.Refused token.Expired
apart token.NotYetValid = apart_as.Refused token.NotYetValid
apart token.IssuedInFuture = apart_as.Refused token.IssuedInFuture
apart token.TooOld = apart_as.Refused token.TooOld
apart token.Audience = apart_as.Refused token.Audience
apart (token.Missing name) = apart_as.Refused (token.Missing name)

-- ---- the memory after the call, and the result

-- The token is at the front of the memory, in its shortest encoding. Or it doesn't fit, an allocation failed, or the
-- token has no encoding.
abbrev pub WritesToken : TokenView → List ℕ → List ℕ → Result ℕ refusals.Refusal → Type 0
WritesToken t old new (Ok n) = (b : List ℕ) × IsEncodingOf (token_image t) b × Puts b old new (Ok n)
WritesToken t old new (Err (Answer (answers.Short n))) =
    (b : List ℕ) × IsEncodingOf (token_image t) b × Puts b old new (Err (answers.Short n))
WritesToken t old new (Err (Answer (answers.Cose e))) =
    UnlessMemory e (λ f. (f ≡ errors.DuplicateMapKey) × (token_image t ≡ None)) × (new ≡ old)
WritesToken t old new (Err r) = ⊥

-- The texts of the layer at this index are at the front of the memory, and its key identifier and its view are returned.
-- Or the texts don't fit.
abbrev pub WritesLayer : ℕ → Vec ℕ Global → layers.Layer → List ℕ → List ℕ → refusals.Refusal → Type 0
WritesLayer index id l old new (Token (token.Layer i (at.Keys k v))) = (i ≡ index) × (k ≡ id) × (v ≡ l.view) × BeginsWith l.text.items old new
WritesLayer index id l old new (Answer (answers.Short n)) = Puts l.text.items old new (Err (answers.Short n))
WritesLayer index id l old new r = ⊥

abbrev pub ReturnsApart : aparts.Apart → List ℕ → List ℕ → Result ℕ refusals.Refusal → Type 0
ReturnsApart a old new (Ok n) = ⊥
ReturnsApart (apart_as.Layer index id l) old new (Err r) = WritesLayer index id l old new r
ReturnsApart (apart_as.Refused e) old new (Err r) = (r ≡ Token e) × (new ≡ old)

-- The result for a token that was verified or refused.
abbrev pub ReturnsVerified : Result VerifiedToken (TokenError Waiting) → List ℕ → List ℕ → Result ℕ refusals.Refusal → Type 0
ReturnsVerified (Ok t) old new r = WritesToken (token_view t) old new r
ReturnsVerified (Err e) old new r = ReturnsApart (apart e) old new r

-- The policy, if the names of all issuers are UTF-8.
abbrev pub policy_for : List ℕ → List Opened → Option PolicyView → Option PolicyView
policy_for bytes os None = None
policy_for bytes os (Some p) = if list_all (has_text bytes) os then Some p else None

-- Verifying the token b returns v. Or memory runs out for the policy's lists, before the token is read.
abbrev pub VerifiesOr : {E : Type 0} → KeysView E → PolicyView → ℤ → List ℕ → Result VerifiedToken (TokenError E) → Type 0
VerifiesOr k p now b v = (v ≡ Err (token.Layer 0 (at.Message errors.OutOfMemory))) ⊎ VerifiesToken k p now b v

-- The result for the token b at the time `now`, after the caller opened these layers. It is that of verifying the token,
-- with keys that accept exactly these layers.
abbrev pub ReturnsWith : List ℕ → List Opened → Option PolicyView → List ℕ → ℤ → List ℕ → List ℕ → Result ℕ refusals.Refusal → Type 0
ReturnsWith bytes os None b now old new r = (r ≡ Err Misuse) × (new ≡ old)
ReturnsWith bytes os (Some p) b now old new r =
    (v : Result VerifiedToken (TokenError Waiting)) × VerifiesOr (opened_view bytes os) p now b v × ReturnsVerified v old new r

-- The same, if the rules describe a policy and the names of all issuers are UTF-8.
abbrev pub ReturnsToken : List ℕ → List Opened → Option PolicyView → List ℕ → ℤ → List ℕ → List ℕ → Result ℕ refusals.Refusal → Type 0
ReturnsToken bytes os o b now old new r = ReturnsWith bytes os (policy_for bytes os o) b now old new r
