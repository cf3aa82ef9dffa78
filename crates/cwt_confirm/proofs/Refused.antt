-- Reasons against a confirmation.
use Rattle.std.specs.Prelude.{IsErrAnd}
use Rattle.std.specs.Borrow.{Bor}
use Rattle.std.proofs.Common.{◌≡◌, ℕ, List, [], ◌∷◌, Bool, true, false, true≢false, Option, Some, None, Result, Ok, Err, is_some, option_map, refl, subst, sym}
use Rattle.coset.specs.CoseError.{CoseError}
use Rattle.coset.specs.CoseKey.{CoseKey}
use Rattle.coset.specs.Item.{Item}
use Rattle.coset.specs.Keys.{KeyView, key}
use Rattle.cwt_verify.specs.Claims.{first_true}
use Rattle.cwt_confirm.specs.Confirm.{Identifier, ReadsChoice, ReadsIdentifier, ReadsKey, absent, choose, key_reasons, malformed, named}
use Rattle.cwt_confirm.specs.declared.confirmed.Confirmation.TheVariants as confirmed
use Rattle.cwt_confirm.specs.declared.error.ConfirmationError.{ConfirmationError}
use Rattle.cwt_confirm.specs.declared.error.ConfirmationError.TheVariants as error

-- If `P` holds for `Err e`, it holds for any result equal to `Err e`.
pub passed_on : {A X : Type 0} (P : Result A X → Type 0) (r : Result A X) (e : X) → IsErrAnd r (λ x. x ≡ e) → P (Err e) → P r
passed_on P (Ok x) e is h = absurd is
passed_on P (Err x) e is h = subst (λ y. P (Err y)) (sym is) h

pub nothing : {A B : Type 0} (f : A → B) (o : Option A) → is_some o ≡ false → option_map f o ≡ None
nothing f None e = refl
nothing f (Some x) e = absurd (true≢false e)

-- No reason against a key is a fault.
no_fault :
    (a b c d : Bool) (f : CoseError)
    → first_true ((a, error.Incomplete) ∷ (b, error.PrivateKey) ∷ (c, error.KeyInTheClear) ∷ (d, error.AnotherKeyId) ∷ []) ≡ Some (error.Malformed f)
    → ⊥
no_fault true b c d f e = absurd (cc)
no_fault false true c d f e = absurd (cc)
no_fault false false true d f e = absurd (cc)
no_fault false false false true f e = absurd (cc)
no_fault false false false false f e = absurd (cc)

-- A key that was read is refused for its first reason.
pub key_refused :
    (concealed : Bool) (kid : Option (List ℕ)) (v : Item) (k : KeyView) (e : ConfirmationError) → key.describes v k
    → first_true (key_reasons concealed kid k) ≡ Some e → ReadsKey concealed kid v (Err e)
key_refused concealed kid v k error.OutOfMemory d h = tt
key_refused concealed kid v k (error.Malformed f) d h = absurd (no_fault _ _ _ _ f h)
key_refused concealed kid v k error.NotAMap d h = (k, d, h)
key_refused concealed kid v k error.RepeatedLabel d h = (k, d, h)
key_refused concealed kid v k error.SeveralKeys d h = (k, d, h)
key_refused concealed kid v k error.KeyId d h = (k, d, h)
key_refused concealed kid v k error.NoKey d h = (k, d, h)
key_refused concealed kid v k error.Incomplete d h = (k, d, h)
key_refused concealed kid v k error.PrivateKey d h = (k, d, h)
key_refused concealed kid v k error.KeyInTheClear d h = (k, d, h)
key_refused concealed kid v k error.AnotherKeyId d h = (k, d, h)
key_refused concealed kid v k error.NoCiphertext d h = (k, d, h)

-- The key is what the members represent.
pub key_chosen :
    (concealed : Bool) (v : Item) (i : Identifier) (kid : Option (Bor (List ℕ))) (k : CoseKey) → ReadsIdentifier i (Ok kid)
    → ReadsKey concealed (option_map (λ b. b.now) kid) v (Ok k)
    → ReadsChoice concealed (choose (Some v) None i) (Ok (confirmed.Key k))
key_chosen concealed v absent None k is h = h
key_chosen concealed v absent (Some b) k is h = absurd (cc)
key_chosen concealed v (named s) (Some b) k is h = subst (λ t. ReadsKey concealed (Some t) v (Ok k)) is h
key_chosen concealed v (named s) None k is h = absurd is
key_chosen concealed v malformed kid k is h = absurd (cc)
