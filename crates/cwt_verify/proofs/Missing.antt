-- Required claims, one after another.
use Rattle.std.proofs.Common.{◌≡◌, ◌<◌, ◌≤◌, ℕ, zero, suc, List, [], ◌∷◌, length, drop, slice_index_or}
use Rattle.std.proofs.Common.{Bool, true, false, Option, Some, None, not, option_map, refl, ap, arith, if◌then◌else◌}
use Rattle.coset.specs.Known.{KnownView}
use Rattle.coset_iana.specs.declared.claims.CwtClaimName.{CwtClaimName}
use Rattle.cwt_verify.specs.Claims.{first_true, has_claim, required_reasons}
use Rattle.cwt_verify.specs.declared.error.TokenError.{TokenError}
use Rattle.cwt_verify.specs.declared.error.TokenError.TheVariants.{Missing}

-- The first of these claims that the token lacks, or `None`.
abbrev pub first_missing : KnownView → List CwtClaimName → Option CwtClaimName
first_missing x [] = None
first_missing x (n ∷ ns) = if has_claim n x then first_missing x ns else Some n

next_missing : {E : Type 0} (b : Bool) (n : CwtClaimName) (xs : List (Bool × TokenError E)) (o : Option CwtClaimName)
    → first_true xs ≡ option_map Missing o → first_true ((not b, Missing n) ∷ xs) ≡ option_map Missing (if b then o else Some n)
next_missing true n xs o e = e
next_missing false n xs o e = refl

pub is_missing : {E : Type 0} (x : KnownView) (ns : List CwtClaimName) → first_true (required_reasons {E = E} x ns) ≡ option_map Missing (first_missing x ns)
is_missing x [] = refl
is_missing x (n ∷ ns) = next_missing (has_claim n x) n (required_reasons x ns) (first_missing x ns) (is_missing x ns)

-- The token lacks the claim at `i`.
pub stops : (x : KnownView) (ns : List CwtClaimName) (i : ℕ) (d : CwtClaimName) → i < length ns → has_claim (slice_index_or ns i d) x ≡ false
    → first_missing x (drop i ns) ≡ Some (slice_index_or ns i d)
stops x [] i d inside lacks = absurd (omega (arith, inside))
stops x (n ∷ ns) zero d inside lacks = ap (λ b. if b then first_missing x ns else Some n) lacks
stops x (n ∷ ns) (suc i) d inside lacks = stops x ns i d (omega (arith, inside)) lacks

-- No claim is left.
pub ends : (x : KnownView) (ns : List CwtClaimName) (i : ℕ) → length ns ≤ i → first_missing x (drop i ns) ≡ None
ends x [] zero over = refl
ends x [] (suc i) over = refl
ends x (n ∷ ns) zero over = absurd (omega (arith, over))
ends x (n ∷ ns) (suc i) over = ends x ns i (omega (arith, over))
