-- The results of judging a token by its signature and its times.
use Rattle.std.specs.Prelude.{◌≡◌, ℕ, ℤ, List, [], true, false, Some, None, Result, Ok, Err}
use Rattle.std.specs.Borrow.{Bor}
use Rattle.std.specs.Fn.{Once, FnOnceReturnsAtPair}
use Rattle.coset.specs.Results.{AllocatesForItems, Describes, IsRefused}
use Rattle.coset.specs.CallError.{CallError}
use Rattle.coset.specs.CallError.TheVariants as calls
use Rattle.coset.specs.Calls.{IsStructure}
use Rattle.coset.specs.Claims.{ClaimsView, claims, claims_view}
use Rattle.coset.specs.ClaimsSet.{ClaimsSet}
use Rattle.coset.specs.CoseError.{CoseError}
use Rattle.coset.specs.Encoding.{HasNoImage}
use Rattle.coset.specs.Shape.{Shape}
use Rattle.coset.specs.Sign1.{Sign1View, sign1_attached}
use Rattle.cwt_gate.specs.Moment.{has_expired, has_fraction, is_early}
use Rattle.cwt_gate.specs.Token.{token}
use Rattle.cwt_gate.specs.declared.error.GateError.{GateError}
use Rattle.cwt_gate.specs.declared.error.GateError.TheVariants.{Token, NoPayload, Caller, Claims, FractionalTime, Expired, NotYetValid}

-- Closures that verify a signature over some bytes.
abbrev pub Verifies : Type 0 → Type 0 → Type 1
Verifies F E = Once F (Bor (List ℕ) × (Bor (List ℕ) × Unit {0})) (Result (Unit {0}) E)

-- The reason for an error in verifying a signature: the closure's own error, or one from before the closure was called.
abbrev pub refusal_of : {E : Type 0} → CallError E → GateError E
refusal_of (calls.Coset e) = Token e
refusal_of (calls.Caller e) = Caller e

-- The message `m` has the payload `p`. Called with its signature and the signed bytes, for an empty `external_aad`, `f`
-- returns `answer` (RFC 8152, section 4.4).
pub record ReturnsFor {F E : Type 0} (g : Verifies F E) (f : F) (m : Sign1View) (p : List ℕ) (answer : Result (Unit {0}) E) : Type 0 where
  pub carried : m.payload ≡ Some p
  pub tbs : List ℕ
  pub is_tbs : IsStructure (sign1_attached m []) tbs
  pub said : FnOnceReturnsAtPair g f m.signature tbs answer

-- `f` accepts the message, and its payload describes these claims.
abbrev pub Accepts : {F E : Type 0} → Verifies F E → F → Sign1View → ClaimsView → Type 0
Accepts g f m c = (p : List ℕ) × ReturnsFor g f m p (Ok tt) × Describes claims p c

-- `f` refuses the message.
abbrev pub Refuses : {F E : Type 0} → Verifies F E → F → Sign1View → E → Type 0
Refuses g f m e = (p : List ℕ) × ReturnsFor g f m p (Err e)

-- Reading the bytes is refused. If memory ran out, they are one item.
abbrev pub RefusesBytes : {A : Type 0} → Shape A → List ℕ → CoseError → Type 0
RefusesBytes shape b e = IsRefused shape b e × AllocatesForItems {T = Unit {0}} b (Err e)

-- `f` accepts the message, and its payload is refused.
abbrev pub CarriesNoClaims : {F E : Type 0} → Verifies F E → F → Sign1View → CoseError → Type 0
CarriesNoClaims g f m e = (p : List ℕ) × ReturnsFor g f m p (Ok tt) × RefusesBytes claims p e

-- The result for a message: its claims if `f` accepts it, or the reason why there are none.
abbrev pub GivesClaims : {F E : Type 0} → Verifies F E → F → Sign1View → Result ClaimsSet (GateError E) → Type 0
GivesClaims g f m (Ok x) = Accepts g f m (claims_view x)
GivesClaims g f m (Err (Token e)) = HasNoImage (sign1_attached m []) e
GivesClaims g f m (Err NoPayload) = m.payload ≡ None
GivesClaims g f m (Err (Caller e)) = Refuses g f m e
GivesClaims g f m (Err (Claims e)) = CarriesNoClaims g f m e
GivesClaims g f m (Err e) = ⊥

-- The token `b` is a message for which `P` holds.
abbrev pub IsToken : List ℕ → (Sign1View → Type 0) → Type 0
IsToken b P = (m : Sign1View) × Describes token b m × P m

-- The result of judging the token `b` at `now`. On success, `f` accepts the message, and the result is its claims,
-- which are valid then. Otherwise the error is the first reason against the token.
abbrev pub Judges : {F E : Type 0} → Verifies F E → F → ℤ → List ℕ → Result ClaimsSet (GateError E) → Type 0
Judges g f now b (Ok x) =
    let c = claims_view x in
    IsToken b (λ m. Accepts g f m c) × (has_fraction c ≡ false) × (has_expired now c.expiration_time ≡ false) × (is_early now c.not_before ≡ false)
Judges g f now b (Err (Token e)) = RefusesBytes token b e
Judges g f now b (Err NoPayload) = IsToken b (λ m. m.payload ≡ None)
Judges g f now b (Err (Caller e)) = IsToken b (λ m. Refuses g f m e)
Judges g f now b (Err (Claims e)) = IsToken b (λ m. CarriesNoClaims g f m e)
Judges g f now b (Err FractionalTime) = (c : ClaimsView) × IsToken b (λ m. Accepts g f m c) × (has_fraction c ≡ true)
Judges g f now b (Err Expired) =
    (c : ClaimsView) × IsToken b (λ m. Accepts g f m c) × (has_fraction c ≡ false) × (has_expired now c.expiration_time ≡ true)
Judges g f now b (Err NotYetValid) =
    (c : ClaimsView)
    × IsToken b (λ m. Accepts g f m c)
    × (has_fraction c ≡ false)
    × (has_expired now c.expiration_time ≡ false)
    × (is_early now c.not_before ≡ true)
