-- The results of verifying a token (RFC 8392, section 7.2).
use Rattle.std.specs.Prelude.{◌≡◌, ℕ, ℤ, List, [], ◌∷◌, map, string_bytes, Bool, true, false, Some, None, Result, Ok, Err}
use Rattle.coset.specs.Claims.{claims_view}
use Rattle.coset.specs.Grammar.{IsItem}
use Rattle.coset.specs.Item.{Item}
use Rattle.coset.specs.Known.{KnownView, known}
use Rattle.coset.specs.LabelViews.{entry_view}
use Rattle.cwt_keys.specs.Keys.{KeysView, Name, name_view}
use Rattle.cwt_verify.specs.Claims.{first_true, reasons}
use Rattle.cwt_verify.specs.HeaderClaims.{agree}
use Rattle.cwt_verify.specs.Opening.{VerifiedView, seen}
use Rattle.cwt_verify.specs.Policy.{PolicyView}
use Rattle.cwt_verify.specs.Types.{has_type}
use Rattle.cwt_verify.specs.Walk.{Arrives, IsTooDeep, RefusesAt, RefusesBytes, verified_views, voucher}
use Rattle.cwt_verify.specs.declared.error.TokenError.{TokenError}
use Rattle.cwt_verify.specs.declared.error.TokenError.TheVariants.{Layer, TooDeep, Unauthenticated, «Type», Claims, HeaderClaims}
use Rattle.cwt_verify.specs.declared.token.VerifiedToken.{VerifiedToken}

-- Returns true if the protected header of the last layer names one of the types.
abbrev pub last_has_type : List (List ℕ) → List VerifiedView → Bool
last_has_type types [] = false
last_has_type types (v ∷ []) = has_type types v.protected.header
last_has_type types (v ∷ w ∷ vs) = last_has_type types (w ∷ vs)

-- Returns true if there are no types, or if the protected header of the innermost layer names one of them (RFC 8725,
-- section 3.11).
abbrev pub is_typed : List (List ℕ) → List VerifiedView → Bool
is_typed [] vs = true
is_typed (t ∷ ts) vs = last_has_type (t ∷ ts) vs

-- ---- what the layers contain

-- The token has layers that the policy admits and the keys accept. An issuer of this name vouches for their content `c`,
-- and `R` holds for all three.
abbrev pub IsVouched : {E : Type 0} → KeysView E → PolicyView → List ℕ → (List VerifiedView → List ℕ → Name → Type 0) → Type 0
IsVouched k p b R = Arrives k p b (λ xs c. (name : Name) × (voucher p xs ≡ Some name) × R (map seen xs) c name)

-- The layers are also of a type that the policy accepts.
abbrev pub IsTyped : {E : Type 0} → KeysView E → PolicyView → List ℕ → (List VerifiedView → List ℕ → Name → Type 0) → Type 0
IsTyped k p b R = IsVouched k p b (λ vs c name. (is_typed p.types vs ≡ true) × R vs c name)

-- The content is also claims `x`, and `same` says whether the claims in the headers are among them.
abbrev pub HasClaims : {E : Type 0} → KeysView E → PolicyView → List ℕ → Bool → (List VerifiedView → KnownView → Name → Type 0) → Type 0
HasClaims k p b same R =
    IsTyped k p b (λ vs c name. (v : Item) × (x : KnownView) × IsItem c v × known.describes v x × (agree vs v ≡ same) × R vs x name)

-- ---- results

-- The view of a token that was accepted: its claims, who vouches for them, and its layers.
pub record TokenView : Type 0 where
  pub known : KnownView
  pub issuer : Name
  pub layers : List VerifiedView

abbrev pub token_view : VerifiedToken → TokenView
token_view t = record {
  known = record { claims = claims_view t.claims; audience = map string_bytes t.audience.items; others = map entry_view t.others.items };
  issuer = name_view t.issuer;
  layers = verified_views t.layers;
}

-- The result of verifying the token `b` at `now`. On success, it is the token's claims, the name of the issuer whose key
-- accepted the innermost layer that authenticates, and the layers. Otherwise the error is the first reason against the
-- token.
abbrev pub VerifiesToken : {E : Type 0} → KeysView E → PolicyView → ℤ → List ℕ → Result VerifiedToken (TokenError E) → Type 0
VerifiesToken {E} k p now b (Ok t) =
    HasClaims k p b true
    (λ vs x name. (first_true (reasons {E = E} p now name x) ≡ None) × (token_view t ≡ record { known = x; issuer = name; layers = vs }))
VerifiesToken k p now b (Err (Layer index e)) = RefusesAt k p b index e
VerifiesToken k p now b (Err TooDeep) = IsTooDeep k p b
VerifiesToken k p now b (Err Unauthenticated) = Arrives k p b (λ xs c. voucher p xs ≡ None)
VerifiesToken k p now b (Err «Type») = IsVouched k p b (λ vs c name. is_typed p.types vs ≡ false)
VerifiesToken k p now b (Err (Claims e)) = IsTyped k p b (λ vs c name. RefusesBytes known c e)
VerifiesToken k p now b (Err HeaderClaims) = HasClaims k p b false (λ vs x name. Unit {0})
VerifiesToken k p now b (Err e) = HasClaims k p b true (λ vs x name. first_true (reasons p now name x) ≡ Some e)
