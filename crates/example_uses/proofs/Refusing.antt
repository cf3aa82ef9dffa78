-- Errors that are passed on, and calls that fail only with `OutOfMemory`.
use Rattle.std.proofs.Common.{◌≡◌, ℕ, List, Option, None, Result, Ok, Err, inl, inr, sym, subst}
use Rattle.std.specs.Prelude.{IfErr, IsErrAnd}
use Rattle.std.specs.Borrow.{Bor}
use Rattle.coset_value.specs.Item.{Item}
use Rattle.coset_codec.specs.Results.{Writes}
use Rattle.coset_codec.specs.Errors.{UnlessMemory}
use Rattle.coset_codec.specs.declared.error.CallError.{CallError}
use Rattle.coset_codec.specs.declared.error.CallError.TheVariants.{Coset, Caller}
use Rattle.coset_codec.specs.declared.error.CoseError.{CoseError}
use Rattle.coset_codec.specs.declared.error.CoseError.TheVariants.{UnexpectedItem}
use Rattle.coset_sign.specs.Sign1.{Sign1View}
use Rattle.example_uses.specs.Exchange.{IsVerified}
use Rattle.example_uses.specs.Refusals.{AreNotVerified, HoldsNoClaims, IsNotVerified}
use Rattle.example_uses.specs.declared.cipher.Refused.{Refused}

-- A property of an error holds after the error is passed on.
pub passed : {T E : Type 0} (P : E → Type 0) (e : E) (r : Result T E) → IsErrAnd r (λ x. x ≡ e) → P e → IfErr r P
passed P e (Ok x) is h = absurd is
passed P e (Err x) is h = subst P (sym is) h

-- A property of the refused result also holds after its error is passed on.
pub passed_as : {T E : Type 0} (P : Result T E → Type 0) (e : E) (r : Result T E) → IsErrAnd r (λ x. x ≡ e) → P (Err e) → P r
passed_as P e (Ok x) is h = absurd is
passed_as P e (Err x) is h = subst (λ y. P (Err y)) (sym is) h

-- A value that always has an image is written, unless an allocation fails.
pub written : {V : Type 0} (P : CoseError → Type 0) (o : Option Item) (bytes_of : V → List ℕ) (r : Result V CoseError) → (o ≡ None → ⊥) → Writes o bytes_of r
    → IfErr r (λ e. UnlessMemory e P)
written P o bytes_of (Ok b) has w = tt
written P o bytes_of (Err e) has w = λ other. absurd (has (w other).1)

-- If a message isn't verified, it has no verified claims.
pub none_verified : (accepts : List ℕ → List ℕ → Type 0) (external_aad b : List ℕ) (e : CallError Refused) → IsNotVerified accepts external_aad b e
    → AreNotVerified accepts external_aad b e
none_verified accepts a b (Coset e) h = inl h
none_verified accepts a b (Caller r) h = h

-- A verified message without a payload has no verified claims either.
pub no_payload :
    (accepts : List ℕ → List ℕ → Type 0) (external_aad b : List ℕ) (m : Sign1View) (got want : Bor (List ℕ)) → IsVerified accepts external_aad b m
    → m.payload ≡ None
    → AreNotVerified accepts external_aad b (Coset (UnexpectedItem got want))
no_payload accepts a b m got want verified none = inr (m, verified, subst (λ o. HoldsNoClaims o (UnexpectedItem got want)) (sym none) tt)
