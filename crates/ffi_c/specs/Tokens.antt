-- A verifier's rules, and the results for a token and for a key, in numbers.
use Rattle.std.specs.Prelude.{◌≡◌, ◌==◌, ◌&&◌, not, nat_lt, ℕ, ℤ, pos, Bool, List, Option, Some, None, Result, Ok, Err, if◌then◌else◌}
use Rattle.coset_iana.specs.CwtClaimName as claim_names
use Rattle.cwt_keys.specs.declared.form.Form.{Form}
use Rattle.cwt_keys.specs.declared.form.Form.TheVariants.{Sign1, Mac0, Encrypt0}
use Rattle.cwt_verify.specs.declared.error.LayerError.{LayerError}
use Rattle.cwt_verify.specs.declared.error.LayerError.TheVariants as at
use Rattle.cwt_verify.specs.declared.error.TokenError.{TokenError}
use Rattle.cwt_verify.specs.declared.error.TokenError.TheVariants as token
use Rattle.cwt_verify.specs.declared.policy.Authentication.{Authentication}
use Rattle.cwt_verify.specs.declared.policy.Authentication.TheVariants.{Signature, SignatureOrMac, AnyLayer}
use Rattle.ffi_query.specs.Status.{refusal_status}
use Rattle.ffi_query.specs.declared.refusal.Refusal as answered
use Rattle.ffi_query.specs.declared.refusal.Refusal.TheVariants as answers
use Rattle.ffi_query.specs.declared.refusal.Status as statuses
use Rattle.ffi_query.specs.declared.refusal.Status.TheVariants.{Memory}
use Rattle.ffi_token.specs.Fits.{PartsView}
use Rattle.ffi_token.specs.Opened.{form_number}
use Rattle.ffi_token.specs.Rules.{RulesView}
use Rattle.ffi_token.specs.declared.layer.LayerView.{LayerView}
use Rattle.ffi_token.specs.declared.refusal.Refusal as refusals
use Rattle.ffi_token.specs.declared.refusal.Refusal.TheVariants.{Misuse, Token, Answer}
use Rattle.ffi_c.specs.Replies.{status_number}
use Rattle.ffi_c.specs.Views.{number_of_map}
use Rattle.ffi_c.specs.declared.token.Layer as layers
use Rattle.ffi_c.specs.declared.token.Rules.{Rules}

-- ---- the rules

-- The size of the struct of rules in bytes.
abbrev pub RULES_SIZE : ℕ
RULES_SIZE = 48

-- The form of a layer.
abbrev pub form_of : ℕ → Option Form
form_of n = if n == 1 then Some Sign1 else (if n == 3 then Some Mac0 else (if n == 5 then Some Encrypt0 else None))

-- The form of an outermost layer without a tag. 0 means a message with one signature.
abbrev pub untagged_of : ℕ → Option Form
untagged_of n = if n == 0 then Some Sign1 else form_of n

abbrev pub authentication_of : ℕ → Option Authentication
authentication_of n = if n == 0 then Some SignatureOrMac else (if n == 1 then Some Signature else (if n == 2 then Some AnyLayer else None))

-- The greatest age in seconds. 0 means that there is none.
abbrev pub age_of : ℕ → Option ℕ
age_of n = if n == 0 then None else Some n

-- The rules with these lists: algorithms, critical labels, required claims, audiences and types.
abbrev pub rules_with :
    Option Form → Option Authentication → Rules → List ℤ → List ℤ → List ℤ → List (List ℕ) → List (List ℕ) → Option RulesView
rules_with (Some form) (Some authenticated) r algorithms critical required audiences types = Some (record {
  algorithms = algorithms;
  critical = critical;
  required = required;
  audiences = audiences;
  types = types;
  any_audience = not (r.any_audience == 0);
  untagged_form = form;
  authenticated_by = authenticated;
  require_exp = r.may_not_expire == 0;
  refuse_future_iat = r.may_be_issued_later == 0;
  max_age = age_of r.max_age;
  leeway = r.leeway;
})
rules_with f a r algorithms critical required audiences types = None

-- A number of seconds in the range of int64_t.
abbrev pub are_seconds : ℕ → Bool
are_seconds n = nat_lt n 0x8000000000000000

-- The same, if the struct has the right size and its numbers have a meaning.
abbrev pub rules_in : Rules → List ℤ → List ℤ → List ℤ → List (List ℕ) → List (List ℕ) → Option RulesView
rules_in r algorithms critical required audiences types =
    if r.size == RULES_SIZE && (are_seconds r.leeway && are_seconds r.max_age)
    then rules_with (untagged_of r.untagged_form) (authentication_of r.authenticated_by) r algorithms critical required audiences types
    else None

-- ---- the result for a token

-- The number of an error in claims: an allocation failed, or they aren't claims.
abbrev pub claims_number : statuses.Status → ℕ
claims_number Memory = 2
claims_number s = 22

-- The number of a reason against a layer, or of a layer that waits.
abbrev pub layer_number : LayerError LayerView → ℕ
layer_number (at.Message e) = status_number (refusal_status (answers.Cose e))
layer_number at.Headers = 30
layer_number (at.Algorithm n) = 16
layer_number at.Critical = 17
layer_number at.Recipients = 12
layer_number at.NoPayload = 12
layer_number at.NoSignature = 12
layer_number at.TooManySignatures = 16
layer_number (at.Keys id v) = 19

-- The number of a reason against a token.
abbrev pub error_number : TokenError LayerView → ℕ
error_number (token.Layer index e) = layer_number e
error_number token.TooDeep = 20
error_number token.Unauthenticated = 21
error_number token.«Type» = 31
error_number (token.Claims e) = claims_number (refusal_status (answers.Cose e))
error_number token.HeaderClaims = 32
error_number token.Issuer = 28
error_number token.NoExpiration = 23
error_number token.Expired = 24
error_number token.NotYetValid = 25
error_number token.IssuedInFuture = 26
error_number token.TooOld = 27
error_number token.Audience = 29
error_number (token.Missing name) = 33

abbrev pub token_number : refusals.Refusal → ℕ
token_number Misuse = 13
token_number (Token e) = error_number e
token_number (Answer r) = status_number (refusal_status r)

abbrev pub token_status : Result ℕ refusals.Refusal → ℤ
token_status (Ok n) = pos 0
token_status (Err r) = pos (token_number r)

-- The length of the texts of a layer that waits. If none waits, it is 0.
abbrev pub texts_length : LayerError LayerView → ℕ
texts_length (at.Keys id v) = v.len
texts_length e = 0

abbrev pub waiting_length : TokenError LayerView → ℕ
waiting_length (token.Layer index e) = texts_length e
waiting_length e = 0

-- The length of a result: of the token, of a layer's texts, or the length needed. For any other result it is 0.
abbrev pub token_length : Result ℕ refusals.Refusal → ℕ
token_length (Ok n) = n
token_length (Err (Token e)) = waiting_length e
token_length (Err (Answer (answers.Short n))) = n
token_length (Err r) = 0

-- The number of an algorithm, or 0 if there is none.
abbrev pub number_or_0 : Option ℤ → ℤ
number_or_0 (Some n) = n
number_or_0 None = pos 0

-- All zeros.
abbrev pub no_layer : layers.Layer
no_layer = record {
  form = 0;
  key_id_map = 0;
  algorithm = pos 0;
  claim = pos 0;
  index = 0;
  structure_len = 0;
  proof_len = 0;
  key_id_len = 0;
  iv_len = 0;
  partial_iv_len = 0;
}

-- The layer at this index waits and has this view, or a reason is against it.
abbrev pub layer_at : ℕ → LayerError LayerView → layers.Layer
layer_at index (at.Keys id v) = record {
  form = form_number v.form;
  key_id_map = number_of_map v.key_id_place;
  algorithm = number_or_0 v.algorithm;
  claim = pos 0;
  index = index;
  structure_len = v.structure_len;
  proof_len = v.proof_len;
  key_id_len = v.key_id_len;
  iv_len = v.iv_len;
  partial_iv_len = v.partial_iv_len;
}
layer_at index (at.Algorithm n) = record no_layer { index = index; algorithm = number_or_0 n }
layer_at index e = record no_layer { index = index }

-- The layer that waits or is refused, or the claim that is missing. For any other result all is zero.
abbrev pub layer_of : Result ℕ refusals.Refusal → layers.Layer
layer_of (Err (Token (token.Layer index e))) = layer_at index e
layer_of (Err (Token (token.Missing name))) = record no_layer { claim = claim_names.number name }
layer_of r = no_layer

-- The status, the length and the struct are those of a result with property P.
abbrev pub RepliesToken : (Result ℕ refusals.Refusal → Type 0) → ℤ → ℕ → layers.Layer → Type 0
RepliesToken P status n layer =
    (r : Result ℕ refusals.Refusal) × P r × (status ≡ token_status r) × (n ≡ token_length r) × (layer ≡ layer_of r)

-- ---- the result for a key

-- The parts of a layer.
abbrev pub parts_of : Form → ℤ → List ℕ → List ℕ → List ℕ → List ℕ → PartsView
parts_of f a key_id iv partial_iv proof =
    record { form = f; algorithm = a; key_id = key_id; iv = iv; partial_iv = partial_iv; proof = proof }

-- The status: the key fits, or doesn't fit, or there is an error.
abbrev pub fit_status : Result (Option ℕ) answered.Refusal → ℤ
fit_status (Ok (Some n)) = pos 0
fit_status (Ok None) = pos 34
fit_status (Err r) = pos (status_number (refusal_status r))

-- The length of the nonce, or the length needed. For any other result it is 0.
abbrev pub fit_length : Result (Option ℕ) answered.Refusal → ℕ
fit_length (Ok (Some n)) = n
fit_length (Err (answers.Short n)) = n
fit_length r = 0

-- The status and the length are those of a result with property P.
abbrev pub RepliesFit : (Result (Option ℕ) answered.Refusal → Type 0) → ℤ → ℕ → Type 0
RepliesFit P status n = (r : Result (Option ℕ) answered.Refusal) × P r × (status ≡ fit_status r) × (n ≡ fit_length r)
