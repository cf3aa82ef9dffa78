-- Keys in a canonical encoding (RFC 8949, sections 4.2.1 and 4.2.3; RFC 7049, section 3.9).
use Rattle.std.specs.Prelude.{ℕ, List, Result}
use Rattle.coset.specs.CoseError.{CoseError}
use Rattle.coset_label.specs.declared.ordering.CborOrdering.{CborOrdering}
use Rattle.coset.specs.Results.{Describes, DescribesNothing, SliceFaults}
use Rattle.coset.specs.Canonical.{IsCanonicalOf}
use Rattle.coset.specs.Keys.{KeyView, key}
use Rattle.ffi_query.specs.Results.{IsEncodingOf}
use Rattle.ffi_query.specs.declared.refusal.Refusal as refusals
use Rattle.ffi_make.specs.Makes.{Writes}

-- The bytes are a key. t is the key's shortest encoding, with its params in that order.
abbrev pub IsCanonicalKey : CborOrdering → List ℕ → List ℕ → Type 0
IsCanonicalKey o b t = (k : KeyView) × (l : KeyView) × Describes key b k × IsCanonicalOf o k l × IsEncodingOf (key.image l) t

-- The bytes aren't a key, because of this fault.
abbrev pub IsNoKey : List ℕ → CoseError → Type 0
IsNoKey b e = SliceFaults key b e × DescribesNothing key b

-- The result of `canonical_key`: that encoding, or the reason why the bytes aren't a key.
abbrev pub WritesCanonical : CborOrdering → List ℕ → List ℕ → List ℕ → Result ℕ refusals.Refusal → Type 0
WritesCanonical o b old new r = Writes (IsCanonicalKey o b) ⊥ (IsNoKey b) old new r
