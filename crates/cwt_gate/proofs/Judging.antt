-- The results of the gate, from the results of its calls.
use mir.Syntax.{w64}
use mir.Val.{SFits, of_z, to_z}
use Rattle.std.specs.Prelude.{IsErrAnd}
use Rattle.std.proofs.lemmas.Int.{to_z-of_z}
use Rattle.std.proofs.Common.{◌≡◌, ℕ, ℤ, Bool, List, [], Some, None, Result, Ok, Err, sym, subst}
use Rattle.coset.specs.Results.{Describes}
use Rattle.coset.specs.CallError.{CallError}
use Rattle.coset.specs.CallError.TheVariants.{Coset, Caller}
use Rattle.coset.specs.Calls.{CallsWith}
use Rattle.coset.specs.ClaimsSet.{ClaimsSet}
use Rattle.coset.specs.CoseError.{CoseError}
use Rattle.coset.specs.Encoding.{HasNoImage}
use Rattle.coset.specs.Item.{Item}
use Rattle.coset.specs.Sign1.{Sign1View, sign1, sign1_attached, sign1_structure}
use Rattle.cwt_gate.specs.Gate.{GivesClaims, Judges, RefusesBytes, ReturnsFor, Verifies, refusal_of}
use Rattle.cwt_gate.specs.Token.{token}
use Rattle.cwt_gate.specs.declared.error.GateError.{GateError}
use Rattle.cwt_gate.specs.declared.error.GateError.TheVariants as gate

-- A message that was read always has signed bytes.
abbrev pub AlwaysSigned : Type 0
AlwaysSigned = (external_aad payload : List ℕ) (v : Item) (m : Sign1View) → sign1.describes v m → sign1_structure m external_aad payload ≡ None → ⊥

-- So a token is never refused for having no signed bytes.
unsigned : AlwaysSigned → (b : List ℕ) (m : Sign1View) (e : CoseError) → Describes token b m → HasNoImage (sign1_attached m []) e → RefusesBytes token b e
unsigned law b m e d none = ((λ other. absurd (law [] _ _ m d.2 (none other).1)), λ is. (d.0, d.1))

-- A test has the same result for a time that was converted to a machine integer and back.
pub moved : (test : ℤ → Bool) (now : ℤ) → SFits w64 now → {b : Bool} → test (to_z w64 (of_z w64 now)) ≡ b → test now ≡ b
moved test now fits {b} h = subst (λ n. test n ≡ b) (to_z-of_z w64 now fits) h

-- If `P` holds for `Err e`, it holds for any result equal to `Err e`.
pub passed_on : {A X : Type 0} (P : Result A X → Type 0) (r : Result A X) (e : X) → IsErrAnd r (λ x. x ≡ e) → P (Err e) → P r
passed_on P (Ok x) e is h = absurd is
passed_on P (Err x) e is h = subst (λ y. P (Err y)) (sym is) h

module _ {F E : Type 0} (g : Verifies F E) (f : F) where
  -- The closure was called for the message with payload `p`, and accepted it.
  pub says_yes : (m : Sign1View) (p : List ℕ) → m.payload ≡ Some p → CallsWith g f m.signature (sign1_attached m []) (Ok tt) → ReturnsFor g f m p (Ok tt)
  says_yes m p carried asked = record { carried = carried; tbs = asked.0; is_tbs = asked.1; said = asked.2 }

  -- The closure refused the message, or the signed bytes could not be made.
  refused : (m : Sign1View) (p : List ℕ) (e : CallError E) → m.payload ≡ Some p → CallsWith g f m.signature (sign1_attached m []) (Err e)
      → GivesClaims g f m (Err (refusal_of e))
  refused m p (Coset e) carried asked = asked
  refused m p (Caller e) carried asked = (p, record { carried = carried; tbs = asked.0; is_tbs = asked.1; said = asked.2 })

  pub not_verified :
      (m : Sign1View) (p : List ℕ) (e : CallError E) (r : Result ClaimsSet (GateError E)) → IsErrAnd r (λ x. x ≡ refusal_of e) → m.payload ≡ Some p
      → CallsWith g f m.signature (sign1_attached m []) (Err e) → GivesClaims g f m r
  not_verified m p e r is carried asked = passed_on (GivesClaims g f m) r (refusal_of e) is (refused m p e carried asked)

  -- If a message has no claims, its token is refused for the same reason.
  pub none_given : AlwaysSigned → (now : ℤ) (b : List ℕ) (m : Sign1View) (e : GateError E) → Describes token b m → GivesClaims g f m (Err e)
      → Judges g f now b (Err e)
  none_given law now b m (gate.Token e) d h = unsigned law b m e d h
  none_given law now b m gate.NoPayload d h = (m, d, h)
  none_given law now b m (gate.Caller e) d h = (m, d, h)
  none_given law now b m (gate.Claims e) d h = (m, d, h)
  none_given law now b m gate.FractionalTime d h = absurd h
  none_given law now b m gate.Expired d h = absurd h
  none_given law now b m gate.NotYetValid d h = absurd h
