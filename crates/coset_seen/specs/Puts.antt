-- Writing into the caller's memory.
use Rattle.std.specs.Prelude.{◌≡◌, ◌<◌, ◌≤◌, ◌^◌, ℕ, List, ◌++◌, length, drop, Result, Ok, Err}
use Rattle.coset_seen.specs.declared.structure.StructureError as errors
use Rattle.coset_seen.specs.declared.structure.StructureError.TheVariants.{Short, OutOfMemory}

-- The memory begins with the text t. The rest is unchanged.
abbrev pub BeginsWith : List ℕ → List ℕ → List ℕ → Type 0
BeginsWith t old new = (length t ≤ length old) × (new ≡ t ++ drop (length t) old)

-- Writing the text t to the front of the memory. If t fits, its length is returned. Otherwise the memory is unchanged,
-- and `Short` has the length that is needed. `OutOfMemory`: that length doesn't fit in a machine number.
abbrev pub PutsTexts : List ℕ → List ℕ → List ℕ → Result ℕ errors.StructureError → Type 0
PutsTexts t old new (Ok n) = BeginsWith t old new × (n ≡ length t)
PutsTexts t old new (Err (Short n)) = (length old < length t) × (new ≡ old) × (n ≡ length t)
PutsTexts t old new (Err OutOfMemory) = (2 ^ 64 ≤ length t) × (new ≡ old)
PutsTexts t old new (Err e) = ⊥
