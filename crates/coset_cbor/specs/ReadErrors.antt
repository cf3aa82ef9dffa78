-- The meaning of an error for the bytes that were to be read.
use Rattle.std.specs.Prelude.{◌≡◌, ⊤, ℕ, List, ◌++◌, length, Some, None, codes}
use Rattle.coset_cbor.specs.Faults.{EndAt, SyntaxAt, SimpleAt, DeepAt}
use Rattle.coset_cbor.specs.declared.de.EndOfFile.{EndOfFile}
use Rattle.coset_cbor.specs.declared.de.Error.{Error}
use Rattle.coset_cbor.specs.declared.de.Error.TheVariants as errors

-- An allocation failed.
abbrev pub IsMemory : Error EndOfFile → Type 0
IsMemory (errors.Io x) = ⊥
IsMemory (errors.Syntax n) = ⊥
IsMemory (errors.Semantic n t) = ⊥
IsMemory errors.RecursionLimitExceeded = ⊥
IsMemory errors.OutOfMemory = ⊤

-- The fault is in s, at the error's offset if it has one.
abbrev pub FaultIn : List ℕ → Error EndOfFile → Type 0
FaultIn s (errors.Io x) = (c : List ℕ) × (t : List ℕ) × (s ≡ c ++ t) × EndAt c t
FaultIn s (errors.Syntax i) = (c : List ℕ) × (t : List ℕ) × (s ≡ c ++ t) × (i ≡ length c) × SyntaxAt c t
FaultIn s (errors.Semantic (Some i) told) = (told.now ≡ codes "unsupported simple value") × (c : List ℕ) × (t : List ℕ) × (s ≡ c ++ t) × (i ≡ length c)
    × SimpleAt c t
FaultIn s (errors.Semantic None told) = ⊥
FaultIn s errors.RecursionLimitExceeded = (c : List ℕ) × (t : List ℕ) × (s ≡ c ++ t) × DeepAt 256 c t
FaultIn s errors.OutOfMemory = ⊤
