-- The keys of a set that can be read, if others can't (RFC 9052, section 7).
use Rattle.std.specs.Prelude.{◌≡◌, ℕ, List, [], ◌∷◌, Result, Ok, Err, map}
use Rattle.coset.specs.Alone.{AreReadAlone}
use Rattle.coset.specs.CoseError.{CoseError}
use Rattle.coset.specs.CoseKey.{CoseKey}
use Rattle.coset.specs.Keys.{KeyView, key, key_view}

-- The values that were read, without the errors.
abbrev pub successes : {T E : Type 0} → List (Result T E) → List T
successes [] = []
successes (Ok x ∷ rs) = x ∷ successes rs
successes (Err e ∷ rs) = successes rs

-- The keys that can be read in an array, in order, each by itself.
abbrev pub AreThoseRead : List ℕ → List KeyView → Type 0
AreThoseRead b ks = (rs : List (Result CoseKey CoseError)) × AreReadAlone key key_view b rs × (ks ≡ map key_view (successes rs))
