-- The innermost layer of a token.
use Rattle.std.proofs.Common.{◌≡◌, ◌==◌, ◌+◌, ◌-◌, ℕ, zero, suc, List, [], ◌∷◌, length, map, Bool, false, Some, slice_get, sym, ap, arith}
use Rattle.std.proofs.lemmas.Bool.{false≢true}
use Rattle.std.proofs.lemmas.Option.{none-some, same_Some}
use Rattle.cwt_verify.specs.Opening.{VerifiedView, verified_view}
use Rattle.cwt_verify.specs.Types.{has_type}
use Rattle.cwt_verify.specs.Verify.{is_typed, last_has_type}
use Rattle.cwt_verify.specs.declared.layer.VerifiedLayer.{VerifiedLayer}

last_at : (types : List (List ℕ)) (ls : List VerifiedLayer) (i : ℕ) (v : VerifiedLayer) → i + 1 ≡ length ls → Some v ≡ slice_get ls i
    → last_has_type types (map verified_view ls) ≡ has_type types (verified_view v).protected.header
last_at types [] i v h e = absurd (none-some v (sym e))
last_at types (w ∷ []) zero v h e = ap (λ u. has_type types (verified_view u).protected.header) (sym (same_Some v w e))
last_at types (w ∷ []) (suc i) v h e = absurd (none-some v (sym e))
last_at types (u ∷ w ∷ ws) zero v h e = absurd (omega (arith, h))
last_at types (u ∷ w ∷ ws) (suc i) v h e = last_at types (w ∷ ws) i v (omega (arith, h)) e

pub last_is : (types : List (List ℕ)) (ls : List VerifiedLayer) (v : VerifiedLayer) → Some v ≡ slice_get ls (length ls - 1)
    → last_has_type types (map verified_view ls) ≡ has_type types (verified_view v).protected.header
last_is types [] v e = absurd (none-some v (sym e))
last_is types (w ∷ ws) v e = last_at types (w ∷ ws) (length (w ∷ ws) - 1) v (omega arith) e

pub if_types : (types : List (List ℕ)) (vs : List VerifiedView) (b : Bool) → (length types == 0) ≡ false → last_has_type types vs ≡ b → is_typed types vs ≡ b
if_types [] vs b filled h = absurd (false≢true (sym filled))
if_types (t ∷ ts) vs b filled h = h
