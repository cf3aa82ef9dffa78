-- The values that were read, without the errors, after one more result.
use Rattle.std.proofs.Common.{◌≡◌, ◌++◌, ◌∙◌, ℕ, List, [], ◌∷◌, Result, Ok, Err, ap, refl, sym}
use Rattle.cwt_ring.specs.KeySet.{successes}
use Rattle.coset.specs.CoseError.{CoseError}
use Rattle.coset.specs.Grammar.{IsItem}
use Rattle.coset.specs.Item.{Item}
use Rattle.coset.specs.Results.{AllocatesForItems}

module _ {T E : Type 0} where
  and_success : (rs : List (Result T E)) (x : T) → successes (rs ++ Ok x ∷ []) ≡ successes rs ++ x ∷ []
  and_success [] x = refl
  and_success (Ok y ∷ rs) x = ap (λ ys. y ∷ ys) (and_success rs x)
  and_success (Err e ∷ rs) x = and_success rs x

  and_failure : (rs : List (Result T E)) (e : E) → successes (rs ++ Err e ∷ []) ≡ successes rs
  and_failure [] e = refl
  and_failure (Ok y ∷ rs) e = ap (λ ys. y ∷ ys) (and_failure rs e)
  and_failure (Err f ∷ rs) e = and_failure rs e

  -- One more key.
  pub one_more : (rs : List (Result T E)) (x : T) (old new : List T) → successes rs ≡ old → new ≡ old ++ x ∷ [] → successes (rs ++ Ok x ∷ []) ≡ new
  one_more rs x old new h e = and_success rs x ∙ (ap (λ ys. ys ++ x ∷ []) h ∙ sym e)

  -- One more error.
  pub none_more : (rs : List (Result T E)) (r : Result T E) (old : List T) → successes rs ≡ old → ((x : T) → r ≡ Ok x → ⊥)
      → successes (rs ++ r ∷ []) ≡ old
  none_more rs (Ok x) old h never = absurd (never x refl)
  none_more rs (Err e) old h never = and_failure rs e ∙ h

-- Memory may run out for bytes that are one item.
pub for_item : {T : Type 0} (b : List ℕ) (v : Item) (r : Result T CoseError) → IsItem b v → AllocatesForItems b r
for_item b v (Ok x) is = tt
for_item b v (Err e) is = λ memory. (v, is)
