-- The offset at which bytes stop being one data item of CBOR.
use Rattle.std.specs.Prelude.{◌≡◌, ◌⊎◌, ◌<◌, ℕ, List, length, take, Option, Some, None}
use Rattle.coset.specs.Item.{Item}
use Rattle.coset.specs.Grammar.{IsItem}
use Rattle.coset.specs.Prefixes.{HasNoItem}
use Rattle.coset.specs.ReadErrors.{FaultIn}
use Rattle.coset.specs.EndOfFile.{EndOfFile}
use Rattle.coset.specs.Error.{Error}
use Rattle.coset.specs.Error.TheVariants as errors

-- The offset of the fault: the one in the error, or the end of the bytes.
abbrev pub offset_of : List ℕ → Error EndOfFile → Option ℕ
offset_of b (errors.Io x) = Some (length b)
offset_of b (errors.Syntax n) = Some n
offset_of b (errors.Semantic o t) = o
offset_of b errors.RecursionLimitExceeded = None
offset_of b errors.OutOfMemory = None

-- No front of the bytes is an item, and o is the offset of a fault in them.
abbrev pub IsFaultAt : List ℕ → Option ℕ → Type 0
IsFaultAt b o = (e : Error EndOfFile) × HasNoItem b × FaultIn b e × (o ≡ offset_of b e)

-- `Some n`: a fault is at n, or the first n bytes are an item and more bytes follow. `None`: the bytes are one item, or
-- their fault has no offset.
abbrev pub IsOffset : List ℕ → Option ℕ → Type 0
IsOffset b (Some n) = IsFaultAt b (Some n) ⊎ ((v : Item) × (n < length b) × IsItem (take n b) v)
IsOffset b None = IsFaultAt b None ⊎ ((v : Item) × IsItem b v)
