-- From the text that was found or made to the result of the call.
use Rattle.std.proofs.Common.{◌≡◌, ℕ, List, [], ◌∷◌, length, Option, Some, None, Result, Ok, Err, refl, sym, subst}
use Rattle.std.specs.Prelude.{IfOk, IfErr, IsErrAnd}
use Rattle.coset.specs.Item.{Item}
use Rattle.coset.specs.CoseError.{CoseError}
use Rattle.coset.specs.CoseError.TheVariants.{OutOfMemory}
use Rattle.coset.specs.Errors.{UnlessMemory}
use Rattle.ffi_query.specs.declared.kind.Kind as kinds
use Rattle.ffi_query.specs.declared.refusal.Refusal as refusals
use Rattle.ffi_query.specs.declared.refusal.Refusal.TheVariants.{Short, Absent, WrongType, Empty, Misuse, Cose}
use Rattle.ffi_query.specs.declared.kind.Kind.TheVariants.{Header}
use Rattle.ffi_query.specs.Results.{WritesFound}
use Rattle.ffi_query.specs.Kinds.{Checks}
use Rattle.ffi_make.specs.StructuresMade.{ChecksHeader}
use Rattle.ffi_make.specs.LabelsMade.{MakesMap, WritesMap}
use Rattle.ffi_make.specs.Makes.{FindsText, Makes, Writes, WritesMade}

-- Writing a text that was found.
pub written :
    {T : Type 0} (text_of : T → List ℕ) (P : List ℕ → Type 0) (IsNone : Type 0) (faults : CoseError → Type 0) (old new : List ℕ)
    (found : Result (Option T) CoseError) (r : Result ℕ refusals.Refusal) → FindsText text_of P IsNone faults found → WritesFound text_of found old new r
    → Writes P IsNone faults old new r
written text_of P N faults old new (Ok (Some x)) (Ok n) f w = (text_of x, f, w)
written text_of P N faults old new (Ok (Some x)) (Err (Short n)) f w = (text_of x, f, w)
written text_of P N faults old new (Ok (Some x)) (Err Absent) f w = absurd w
written text_of P N faults old new (Ok (Some x)) (Err WrongType) f w = absurd w
written text_of P N faults old new (Ok (Some x)) (Err Empty) f w = absurd w
written text_of P N faults old new (Ok (Some x)) (Err Misuse) f w = absurd w
written text_of P N faults old new (Ok (Some x)) (Err (Cose e)) f w = absurd w
written text_of P N faults old new (Ok None) r f w = subst (Writes P N faults old new) (sym w.0) (f, w.1)
written text_of P N faults old new (Err e) r f w = subst (Writes P N faults old new) (sym w.0) (f, w.1)

-- Writing an item that was made.
pub made_written :
    {V : Type 0} (k : kinds.Kind) (items_of : Option V → Option Item) (o : Option Item) (old new : List ℕ) (made : Result (Option V) CoseError)
    (r : Result ℕ refusals.Refusal) → IfOk made (λ x. items_of x ≡ o) → IfErr made (λ e. e ≡ OutOfMemory) → WritesMade k items_of made old new r
    → Makes k o old new r
made_written k items_of o old new (Ok x) r is m w = subst (λ p. Makes k p old new r) is w
made_written k items_of o old new (Err e) r is m w = subst (Makes k o old new) (sym w.0) ((λ n. absurd (n m)), w.1)

-- Writing a map that was made.
pub map_written :
    {V : Type 0} (k : kinds.Kind) (items_of : Option V → Option Item) (o : Option Item) (old new : List ℕ) (made : Result (Option V) CoseError)
    (r : Result ℕ refusals.Refusal) → IfOk made (λ x. items_of x ≡ o) → IfErr made (λ e. e ≡ OutOfMemory) → WritesMap k items_of made old new r
    → MakesMap k o old new r
map_written k items_of o old new (Ok x) r is m w = subst (λ p. MakesMap k p old new r) is w
map_written k items_of o old new (Err e) r is m w = subst (MakesMap k o old new) (sym w.0) ((λ n. absurd (n m)), w.1)

-- A search that ends with an error.
pub refused :
    {T : Type 0} (text_of : T → List ℕ) (P : List ℕ → Type 0) (IsNone : Type 0) (faults : CoseError → Type 0) (e : CoseError)
    (r : Result (Option T) CoseError) → IsErrAnd r (λ x. x ≡ e) → UnlessMemory e faults → FindsText text_of P IsNone faults r
refused text_of P N faults e (Ok x) is f = absurd is
refused text_of P N faults e (Err x) is f = subst (λ y. UnlessMemory y faults) (sym is) f

-- Bytes that are checked as a header.
pub header_checked : (b : List ℕ) (r : Result (Unit {0}) CoseError) → (length b ≡ 0 → ⊥) → Checks Header b r → ChecksHeader b r
header_checked [] r some h = absurd (some refl)
header_checked (x ∷ xs) (Ok y) some h = h
header_checked (x ∷ xs) (Err e) some h = λ n. h
