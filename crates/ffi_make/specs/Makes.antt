-- The results of calls that make an item and write it into the caller's memory.
use Rattle.std.specs.Prelude.{◌≡◌, ◌⊎◌, ℕ, List, Option, Some, None, Result, Ok, Err}
use Rattle.coset.specs.Item.{Item}
use Rattle.coset.specs.Grammar.{IsItem}
use Rattle.coset.specs.Results.{IsWholeFault}
use Rattle.coset.specs.CoseError.{CoseError}
use Rattle.coset.specs.Errors.{UnlessMemory}
use Rattle.ffi_query.specs.declared.kind.Kind as kinds
use Rattle.ffi_query.specs.declared.refusal.Refusal as refusals
use Rattle.ffi_query.specs.declared.refusal.Refusal.TheVariants.{Short, Absent, Cose}
use Rattle.ffi_query.specs.Results.{IsEncodingOf, Puts}
use Rattle.ffi_query.specs.Kinds.{IsOf, IsRefused}

-- The result of a call that writes a text with property P. The text is at the front of the memory, or it doesn't fit.
-- `Absent`: there is none. `Cose`: the fault is in what was to be written, unless it is `OutOfMemory`. After an error
-- the memory is unchanged.
abbrev pub Writes : (List ℕ → Type 0) → Type 0 → (CoseError → Type 0) → List ℕ → List ℕ → Result ℕ refusals.Refusal → Type 0
Writes P IsNone faults old new (Ok n) = (t : List ℕ) × P t × Puts t old new (Ok n)
Writes P IsNone faults old new (Err (Short n)) = (t : List ℕ) × P t × Puts t old new (Err (Short n))
Writes P IsNone faults old new (Err Absent) = IsNone × (new ≡ old)
Writes P IsNone faults old new (Err (Cose e)) = UnlessMemory e faults × (new ≡ old)
Writes P IsNone faults old new (Err r) = ⊥

-- The text is the shortest encoding of the new item, and an item of kind k.
abbrev pub IsMade : kinds.Kind → Option Item → List ℕ → Type 0
IsMade k o t = IsEncodingOf o t × IsOf k t

-- The new item isn't of kind k. This error refuses its shortest encoding.
abbrev pub IsMisfit : kinds.Kind → Option Item → CoseError → Type 0
IsMisfit k o e = (t : List ℕ) × IsEncodingOf o t × IsRefused k t e

-- The result of a call that writes a new item of kind k. `Absent`: no item was made. `Cose`: the item isn't of the
-- kind.
abbrev pub Makes : kinds.Kind → Option Item → List ℕ → List ℕ → Result ℕ refusals.Refusal → Type 0
Makes k o old new r = Writes (IsMade k o) (o ≡ None) (IsMisfit k o) old new r

-- A call refuses its arguments. The fault is in them, unless it is `OutOfMemory`. The memory is unchanged.
abbrev pub RefusesInputs : (CoseError → Type 0) → List ℕ → List ℕ → Result ℕ refusals.Refusal → Type 0
RefusesInputs faults old new (Err (Cose e)) = UnlessMemory e faults × (new ≡ old)
RefusesInputs faults old new r = ⊥

-- The result of a call that makes an item of kind k from its arguments. It is the result for the new item, or a fault
-- in the arguments.
abbrev pub MakesOf :
    {A : Type 0} → kinds.Kind → (A → Type 0) → (CoseError → Type 0) → (A → Option Item) → List ℕ → List ℕ → Result ℕ refusals.Refusal → Type 0
MakesOf {A} k AreInputs faults made old new r = ((x : A) × AreInputs x × Makes k (made x) old new r) ⊎ RefusesInputs faults old new r

-- The result of `write`: the new item is the one that the bytes encode.
abbrev pub WritesAgain : kinds.Kind → List ℕ → List ℕ → List ℕ → Result ℕ refusals.Refusal → Type 0
WritesAgain k b old new r = MakesOf k (IsItem b) (IsWholeFault b) Some old new r

-- ---- before the item is written

-- The text that was found has property P. Or there is none, or there is a fault, unless it is `OutOfMemory`.
abbrev pub FindsText : {T : Type 0} → (T → List ℕ) → (List ℕ → Type 0) → Type 0 → (CoseError → Type 0) → Result (Option T) CoseError → Type 0
FindsText text_of P IsNone faults (Ok (Some x)) = P (text_of x)
FindsText text_of P IsNone faults (Ok None) = IsNone
FindsText text_of P IsNone faults (Err e) = UnlessMemory e faults

-- Writing the new item, or returning the error that making it returned.
abbrev pub WritesMade : {V : Type 0} → kinds.Kind → (Option V → Option Item) → Result (Option V) CoseError → List ℕ → List ℕ → Result ℕ refusals.Refusal
    → Type 0
WritesMade k items_of (Ok o) old new r = Makes k (items_of o) old new r
WritesMade k items_of (Err e) old new r = (r ≡ Err (Cose e)) × (new ≡ old)
