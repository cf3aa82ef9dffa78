-- Results as C receives them: a status, and a number in a place that the caller passes.
use Rattle.std.specs.Prelude.{◌≡◌, ◌-◌, ◌^◌, ℕ, ℤ, pos, List, Option, Result, Ok, Err, unwrap_or}
use Rattle.coset.specs.CoseError.{CoseError}
use Rattle.ffi_query.specs.declared.elements.Span.{Span}
use Rattle.ffi_query.specs.declared.kind.Kind as kinds
use Rattle.ffi_query.specs.declared.refusal.Refusal as refusals
use Rattle.ffi_query.specs.declared.refusal.Refusal.TheVariants as refused
use Rattle.ffi_query.specs.declared.refusal.Status as statuses
use Rattle.ffi_query.specs.declared.refusal.Status.TheVariants.{Short, Memory, Ends, Malformed, Deep, Extraneous, Unexpected, Duplicate, OutOfRange}
use Rattle.ffi_query.specs.declared.refusal.Status.TheVariants.{Unregistered, NotPrivate, Absent, WrongType, Empty, Misuse}
use Rattle.ffi_query.specs.Faults.{IsOffset}
use Rattle.ffi_query.specs.Kinds.{Checks}
use Rattle.ffi_query.specs.Status.{refusal_status}

-- The number of a status. 0 means success.
abbrev pub status_number : statuses.Status → ℕ
status_number Short = 1
status_number Memory = 2
status_number Ends = 3
status_number Malformed = 4
status_number Deep = 5
status_number Extraneous = 6
status_number Unexpected = 7
status_number Duplicate = 8
status_number OutOfRange = 9
status_number Unregistered = 10
status_number NotPrivate = 11
status_number Absent = 12
status_number Misuse = 13
status_number WrongType = 14
status_number Empty = 15

-- The status of a result.
abbrev pub reply_status : {N : Type 0} → Result N refusals.Refusal → ℤ
reply_status (Ok n) = pos 0
reply_status (Err r) = pos (status_number (refusal_status r))

-- The number that goes with a status: the length or the count, or the length needed if the memory is too small, else 0.
abbrev pub length_of : Result ℕ refusals.Refusal → ℕ
length_of (Ok n) = n
length_of (Err (refused.Short n)) = n
length_of (Err r) = 0

-- The value of a result, or `nothing` for an error.
abbrev pub value_or : {N : Type 0} → N → Result N refusals.Refusal → N
value_or nothing (Ok n) = n
value_or nothing (Err r) = nothing

-- The status and the number are those of a result with property P.
abbrev pub Replies : (Result ℕ refusals.Refusal → Type 0) → ℤ → ℕ → Type 0
Replies P status n = (r : Result ℕ refusals.Refusal) × P r × (status ≡ reply_status r) × (n ≡ length_of r)

abbrev pub RepliesValue : {N : Type 0} → N → (Result N refusals.Refusal → Type 0) → ℤ → N → Type 0
RepliesValue {N} nothing P status n = (r : Result N refusals.Refusal) × P r × (status ≡ reply_status r) × (n ≡ value_or nothing r)

-- All zeros.
abbrev pub no_span : Span
no_span = record { at = 0; len = 0 }

abbrev pub no_pair : Span × Span
no_pair = (no_span, no_span)

-- A number has no meaning. The status says so, and the place, whose value is n, is set to `given`.
abbrev pub IsMisuse : {N : Type 0} → ℤ → N → N → Type 0
IsMisuse status n given = (status ≡ pos 13) × (n ≡ given)

-- The status of a check.
abbrev pub check_status : Result (Unit {0}) CoseError → ℤ
check_status (Ok x) = pos 0
check_status (Err e) = pos (status_number (refusal_status (refused.Cose e)))

-- The offset at which the bytes stop being one item. It is the greatest number if they are one item or the offset
-- isn't known.
abbrev pub RepliesOffset : List ℕ → Result (Unit {0}) CoseError → ℕ → Type 0
RepliesOffset b (Ok x) n = n ≡ 2 ^ 64 - 1
RepliesOffset b (Err e) n = (o : Option ℕ) × IsOffset b o × (n ≡ unwrap_or o (2 ^ 64 - 1))

-- The status and the offset are those of a check of the bytes.
abbrev pub RepliesCheck : kinds.Kind → List ℕ → ℤ → ℕ → Type 0
RepliesCheck k b status n = (r : Result (Unit {0}) CoseError) × Checks k b r × (status ≡ check_status r) × RepliesOffset b r n
