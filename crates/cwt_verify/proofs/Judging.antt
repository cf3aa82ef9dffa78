-- The results of verifying a token, from the results of the steps.
use Rattle.std.proofs.Common.{◌≡◌, ◌∙◌, ℕ, ℤ, List, [], ◌∷◌, Bool, true, false, Option, Some, None, Ok, Err, map, refl, sym, ap, subst}
use Rattle.std.proofs.lemmas.Option.{none-some, same_Some}
use Rattle.std.specs.Borrow.{Bor}
use Rattle.coset.specs.CoseError.{CoseError}
use Rattle.coset.specs.Grammar.{IsItem}
use Rattle.coset.specs.Item.{Item}
use Rattle.coset.specs.Known.{KnownView, known}
use Rattle.coset.specs.Results.{Describes, IsRefused}
use Rattle.coset.specs.Shape.{any}
use Rattle.coset_iana.specs.declared.claims.CwtClaimName.{CwtClaimName}
use Rattle.cwt_keys.specs.Keys.{KeysView, Name, name_view}
use Rattle.cwt_verify.specs.Claims.{first_true, reasons, required_reasons}
use Rattle.cwt_verify.specs.HeaderClaims.{Agrees, agree}
use Rattle.cwt_verify.specs.Opening.{VerifiedView, verified_view}
use Rattle.cwt_verify.specs.Policy.{PolicyView}
use Rattle.cwt_verify.specs.Verify.{HasClaims, IsTyped, IsVouched, VerifiesToken, is_typed, token_view}
use Rattle.cwt_verify.specs.Walk.{OpensAll, RefusesBytes, verified_views, voucher_view}
use Rattle.cwt_verify.specs.declared.error.TokenError.{TokenError}
use Rattle.cwt_verify.specs.declared.error.TokenError.TheVariants as token
use Rattle.cwt_verify.specs.declared.layer.VerifiedLayer.{VerifiedLayer}
use Rattle.cwt_verify.specs.declared.layers.Opened.{Opened}
use Rattle.cwt_verify.specs.declared.token.VerifiedToken.{VerifiedToken}

-- ---- reasons

-- `P` holds for each error.
abbrev AllAre : {A : Type 0} → (A → Type 0) → List (Bool × A) → Type 0
AllAre P [] = Unit {0}
AllAre P (x ∷ xs) = P x.1 × AllAre P xs

first-is : {A : Type 0} (P : A → Type 0) (xs : List (Bool × A)) (e : A) → AllAre P xs → first_true xs ≡ Some e → P e
first-is P [] e a is = absurd (none-some e is)
first-is P ((true, x) ∷ xs) e a is = subst P (same_Some x e is) a.0
first-is P ((false, x) ∷ xs) e a is = first-is P xs e a.1 is

-- The error is a reason against claims.
abbrev pub IsOfClaims : {E : Type 0} → TokenError E → Type 0
IsOfClaims (token.Layer i e) = ⊥
IsOfClaims token.TooDeep = ⊥
IsOfClaims token.Unauthenticated = ⊥
IsOfClaims token.«Type» = ⊥
IsOfClaims (token.Claims e) = ⊥
IsOfClaims token.HeaderClaims = ⊥
IsOfClaims e = Unit {0}

required-are : (E : Type 0) (x : KnownView) (names : List CwtClaimName) → AllAre (IsOfClaims {E = E}) (required_reasons x names)
required-are E x [] = tt
required-are E x (n ∷ ns) = (tt, required-are E x ns)

pub of_claims : {E : Type 0} (p : PolicyView) (now : ℤ) (name : Name) (x : KnownView) (e : TokenError E) → first_true (reasons p now name x) ≡ Some e
    → IsOfClaims e
of_claims {E = E} p now name x e is =
    first-is IsOfClaims (reasons p now name x) e (tt, (tt, (tt, (tt, (tt, (tt, (tt, required-are E x p.required))))))) is

-- ---- steps

-- The answer about the layers and the content, from the one about borrows of them.
pub agrees_on : (o : Opened) (ls : List VerifiedLayer) (q : List ℕ) (a b : Bool) → ls ≡ o.layers.items → q ≡ o.content.items → a ≡ b
    → Agrees (map verified_view ls) q a → Agrees (verified_views o.layers) o.content.items b
agrees_on o ls q a b layers content same h =
    subst (λ s. Agrees (verified_views o.layers) o.content.items s) same
    (subst (λ s. Agrees (verified_views o.layers) s a) content (subst (λ s. Agrees (map verified_view s) q a) layers h))

-- Bytes that describe claims are one item. So they are refused as an item only if memory runs out.
pub only_memory : (q : List ℕ) (x : KnownView) (e : CoseError) → Describes known q x → IsRefused any q e → RefusesBytes known q e
only_memory q x e d refused = ((λ n. absurd ((refused n).1 d.0 (d.0, d.1, refl))), λ is. (d.0, d.1))

-- ---- results

-- The content of layers is claims, for which `R` holds.
abbrev ClaimsIn : Bool → (List VerifiedView → KnownView → Name → Type 0) → List VerifiedView → List ℕ → Name → Type 0
ClaimsIn same R vs c name = (v : Item) × (x : KnownView) × IsItem c v × known.describes v x × (agree vs v ≡ same) × R vs x name

module _ {E : Type 0} (k : KeysView E) (p : PolicyView) (now : ℤ) (b : List ℕ) where
  pub unopened : (e : TokenError E) → OpensAll k p b (Err e) → VerifiesToken k p now b (Err e)
  unopened (token.Layer index e) h = h
  unopened token.TooDeep h = h
  unopened e h = absurd h

  pub against_claims : (e : TokenError E) → IsOfClaims e → HasClaims k p b true (λ vs x name. first_true (reasons p now name x) ≡ Some e)
      → VerifiesToken k p now b (Err e)
  against_claims (token.Layer index e) never h = absurd never
  against_claims token.TooDeep never h = absurd never
  against_claims token.Unauthenticated never h = absurd never
  against_claims token.«Type» never h = absurd never
  against_claims (token.Claims e) never h = absurd never
  against_claims token.HeaderClaims never h = absurd never
  against_claims e of h = h

  module _ (o : Opened) (all : OpensAll k p b (Ok o)) where
    pub unvouched : o.voucher ≡ None → VerifiesToken k p now b (Err token.Unauthenticated)
    unvouched is = (all.0, all.1, all.2, all.3, (all.4.0, sym all.4.1.2 ∙ ap voucher_view is))

    module _ (issuer : Option (Bor (List ℕ))) (is : o.voucher ≡ Some issuer) where
      vouched : (R : List VerifiedView → List ℕ → Name → Type 0) → R (verified_views o.layers) o.content.items (name_view issuer) → IsVouched k p b R
      vouched R h =
          let n = name_view issuer in (
            all.0,
            all.1,
            all.2,
            all.3,
            (
              all.4.0,
              (
                n,
                sym all.4.1.2 ∙ ap voucher_view is,
                subst (λ vs. R vs all.1 n) all.4.1.1 (subst (λ q. R (verified_views o.layers) q n) (sym all.4.1.0) h),
              ),
            ),
          )

      pub untyped : is_typed p.types (verified_views o.layers) ≡ false → VerifiesToken k p now b (Err token.«Type»)
      untyped other = vouched (λ vs c name. is_typed p.types vs ≡ false) other

      typed : (R : List VerifiedView → List ℕ → Name → Type 0) → is_typed p.types (verified_views o.layers) ≡ true
          → R (verified_views o.layers) o.content.items (name_view issuer) → IsTyped k p b R
      typed R named h = vouched (λ vs c name. (is_typed p.types vs ≡ true) × R vs c name) (named, h)

      pub no_claims : (e : CoseError) → is_typed p.types (verified_views o.layers) ≡ true → RefusesBytes known o.content.items e
          → VerifiesToken k p now b (Err (token.Claims e))
      no_claims e named h = typed (λ vs c name. RefusesBytes known c e) named h

      pub with_claims : (same : Bool) (x : KnownView) (R : List VerifiedView → KnownView → Name → Type 0)
          → is_typed p.types (verified_views o.layers) ≡ true → Describes known o.content.items x → Agrees (verified_views o.layers) o.content.items same
          → R (verified_views o.layers) x (name_view issuer) → HasClaims k p b same R
      with_claims same x R named d agrees h = typed (ClaimsIn same R) named (d.0, x, d.1, d.2, agrees d.0 d.1, h)

      pub accepted : (t : VerifiedToken) (x : KnownView) → is_typed p.types (verified_views o.layers) ≡ true → Describes known o.content.items x
          → Agrees (verified_views o.layers) o.content.items true → first_true (reasons {E = E} p now (name_view issuer) x) ≡ None
          → token_view t ≡ record { known = x; issuer = name_view issuer; layers = verified_views o.layers } → VerifiesToken k p now b (Ok t)
      accepted t x named d agrees none same =
          with_claims true x (λ vs y name. (first_true (reasons {E = E} p now name y) ≡ None)
          × (token_view t ≡ record { known = y; issuer = name; layers = vs }))
          named d agrees (none, same)

      pub refused : (e : TokenError E) (x : KnownView) → is_typed p.types (verified_views o.layers) ≡ true → Describes known o.content.items x
          → Agrees (verified_views o.layers) o.content.items true → first_true (reasons p now (name_view issuer) x) ≡ Some e → VerifiesToken k p now b (Err e)
      refused e x named d agrees first =
          against_claims e (of_claims p now (name_view issuer) x e first)
          (with_claims true x (λ vs y name. first_true (reasons p now name y) ≡ Some e) named d agrees first)
