-- Definitions for laws about prefixes of the input.
use Rattle.std.specs.Prelude.{◌≡◌, ◌<◌, ⊤, ℕ, List, ◌++◌, slice_index}
use Rattle.coset_value.specs.Item.{Item}
use Rattle.coset_cbor.specs.Grammar.{IsItem}
use Rattle.coset_cbor.specs.declared.de.EndOfFile.{EndOfFile}
use Rattle.coset_cbor.specs.declared.de.Error.{Error}
use Rattle.coset_cbor.specs.declared.de.Error.TheVariants as errors

-- Every number in the list is a byte.
abbrev pub AreBytes : List ℕ → Type 0
AreBytes s = (i : ℕ) → slice_index s i < 256

-- No prefix of s is an item.
abbrev pub HasNoItem : List ℕ → Type 0
HasNoItem s = (v : Item) (b rest : List ℕ) → s ≡ b ++ rest → IsItem b v → ⊥

-- The error says that the input ends too early.
abbrev pub IsEndOfInput : Error EndOfFile → Type 0
IsEndOfInput (errors.Io x) = ⊤
IsEndOfInput (errors.Syntax n) = ⊥
IsEndOfInput (errors.Semantic n t) = ⊥
IsEndOfInput errors.RecursionLimitExceeded = ⊥
IsEndOfInput errors.OutOfMemory = ⊥
