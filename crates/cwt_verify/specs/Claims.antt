-- The claims of a token, and the policy's requirements for them (RFC 8392, section 3).
use Rattle.std.specs.Prelude.{◌≡◌, ◌==◌, ◌&&◌, not, ℕ, ℤ, List, [], ◌∷◌, length, map}
use Rattle.std.specs.Prelude.{Option, Some, None, Bool, true, false, is_some, is_none, Result, Ok, Err}
use Rattle.std.specs.List.{list_any}
use Rattle.std.specs.Cmp.Lexicographic.{pointwise}
use Rattle.coset.specs.Claims.{same_label}
use Rattle.coset.specs.Item.{Item}
use Rattle.coset.specs.Known.{KnownView}
use Rattle.coset.specs.LabelData.{RegisteredLabelView, assigned}
use Rattle.coset_iana.specs.CwtClaimName as claim_names
use Rattle.coset_iana.specs.declared.claims.CwtClaimName.{CwtClaimName}
use Rattle.coset_iana.specs.declared.claims.CwtClaimName.TheVariants.{Iss, Sub, Aud, Exp, Nbf, Iat, Cti}
use Rattle.cwt_keys.specs.Keys.{Name}
use Rattle.cwt_verify.specs.Moment.{has_expired, is_early, is_too_old}
use Rattle.cwt_verify.specs.Policy.{AudienceView, absent, one_of, unchecked, PolicyView}
use Rattle.cwt_verify.specs.declared.error.TokenError.{TokenError}
use Rattle.cwt_verify.specs.declared.error.TokenError.TheVariants as token

-- ---- whose token it is, and for whom

-- Returns true if the claims name no issuer, or the one with this name (RFC 8725, section 3.8).
abbrev pub is_from : Option (List ℕ) → Name → Bool
is_from None issuer = true
is_from (Some a) None = false
is_from (Some a) (Some b) = pointwise ◌==◌ a b

-- Returns true if the text is one of the names.
abbrev pub is_name : List (List ℕ) → List ℕ → Bool
is_name names a = list_any (λ n. pointwise ◌==◌ a n) names

-- Returns true if one of the texts is one of the names.
abbrev pub names_one_of : List (List ℕ) → List (List ℕ) → Bool
names_one_of audience names = list_any (is_name names) audience

-- Returns true if the policy accepts this audience (RFC 7519, section 4.1.3).
abbrev pub is_meant : AudienceView → List (List ℕ) → Bool
is_meant absent audience = length audience == 0
is_meant (one_of names) audience = names_one_of audience names
is_meant unchecked audience = true

-- ---- claims that must be there

abbrev pub has_registered : List (RegisteredLabelView × Item) → CwtClaimName → Bool
has_registered claims name = list_any (λ e. same_label e.0 (assigned (claim_names.number name))) claims

-- Returns true if the token has the claim.
abbrev pub has_claim : CwtClaimName → KnownView → Bool
has_claim Iss x = is_some x.claims.issuer
has_claim Sub x = is_some x.claims.subject
has_claim Aud x = not (length x.audience == 0)
has_claim Exp x = is_some x.claims.expiration_time
has_claim Nbf x = is_some x.claims.not_before
has_claim Iat x = is_some x.claims.issued_at
has_claim Cti x = is_some x.claims.cwt_id
has_claim name x = has_registered x.claims.rest name

-- ---- reasons

-- For each of these claims, the reason that it is missing, with true if it is.
abbrev pub required_reasons : {E : Type 0} → KnownView → List CwtClaimName → List (Bool × TokenError E)
required_reasons x names = map (λ n. (not (has_claim n x), token.Missing n)) names

-- The reasons against claims at `now` that an issuer of this name vouches for, in order, each with true if it applies.
abbrev pub reasons : {E : Type 0} → PolicyView → ℤ → Name → KnownView → List (Bool × TokenError E)
reasons p now issuer x =
    (not (is_from x.claims.issuer issuer), token.Issuer)
    ∷ (p.require_exp && is_none x.claims.expiration_time, token.NoExpiration)
    ∷ (has_expired p.leeway now x.claims.expiration_time, token.Expired)
    ∷ (is_early p.leeway now x.claims.not_before, token.NotYetValid)
    ∷ (p.refuse_future_iat && is_early p.leeway now x.claims.issued_at, token.IssuedInFuture)
    ∷ (is_too_old p.max_age p.leeway now x.claims.issued_at, token.TooOld)
    ∷ (not (is_meant p.audience x.audience), token.Audience)
    ∷ required_reasons x p.required

-- The first element that is paired with true, or `None`.
abbrev pub first_true : {A : Type 0} → List (Bool × A) → Option A
first_true [] = None
first_true ((true, x) ∷ xs) = Some x
first_true ((false, x) ∷ xs) = first_true xs

-- The result is success if no reason applies, and otherwise the first reason.
abbrev pub IsFirst : {E : Type 0} → List (Bool × E) → Result (Unit {0}) E → Type 0
IsFirst xs (Ok x) = first_true xs ≡ None
IsFirst xs (Err e) = first_true xs ≡ Some e
