-- Verdicts on keys.
use Rattle.std.specs.Prelude.{◌≡◌, Bool, true, false, is_some}
use Rattle.coset.specs.Keys.{KeyView}
use Rattle.cwt_keys.specs.Sealed.{SealView}
use Rattle.cwt_ring.specs.Fits.{fits}
use Rattle.tool_seals.specs.declared.verdict.Verdict.{Verdict}
use Rattle.tool_seals.specs.declared.verdict.Verdict.TheVariants.{Fits}

-- The verdict is that the key fits.
abbrev pub is_fits : Verdict → Bool
is_fits Fits = true
is_fits v = false

-- The verdict on the key is that it fits if it fits the seal, and only then.
abbrev pub IsVerdict : KeyView → SealView → Verdict → Type 0
IsVerdict k s v = is_fits v ≡ is_some (fits k s)
