-- The results of calls that write into the caller's memory. P and Q are properties that a call names: P of its result,
-- Q of the reason for having none.
use Rattle.std.specs.Prelude.{◌≡◌, ◌<◌, ℕ, List, length, Option, Some, None, Result, Ok, Err}
use Rattle.coset.specs.Item.{Item}
use Rattle.coset.specs.CoseError.{CoseError}
use Rattle.coset.specs.CoseError.TheVariants.{OutOfMemory}
use Rattle.coset.specs.Shortest.{IsShortest}
use Rattle.coset_seen.specs.Puts.{BeginsWith}
use Rattle.ffi_query.specs.declared.kind.Kind as kinds
use Rattle.ffi_query.specs.declared.refusal.Refusal as refusals
use Rattle.ffi_query.specs.declared.refusal.Refusal.TheVariants.{Short, Absent, WrongType, Cose}
use Rattle.ffi_query.specs.Kinds.{IsItemOf, IsRefused}
use Rattle.ffi_query.specs.Places.{string_in}

-- Writing the text t into the memory. If t fits, its length is returned. If not, the memory is unchanged, and `Short`
-- has the length that is needed.
abbrev pub Puts : List ℕ → List ℕ → List ℕ → Result ℕ refusals.Refusal → Type 0
Puts t old new (Ok n) = BeginsWith t old new × (n ≡ length t)
Puts t old new (Err (Short n)) = (length old < length t) × (new ≡ old) × (n ≡ length t)
Puts t old new (Err r) = ⊥

-- The result of a call that writes a text with property P of the item that the bytes b are. The text is at the front of
-- the memory, or it doesn't fit. Or there is none, for a reason with property Q; or the bytes are no such item. After
-- an error the memory is unchanged.
abbrev pub ReturnsOr :
    kinds.Kind → List ℕ → (Item → List ℕ → Type 0) → (Item → refusals.Refusal → Type 0) → List ℕ → List ℕ
    → Result ℕ refusals.Refusal → Type 0
ReturnsOr k b P Q old new (Ok n) = (v : Item) × IsItemOf k b v × ((t : List ℕ) × P v t × Puts t old new (Ok n))
ReturnsOr k b P Q old new (Err (Short n)) = (v : Item) × IsItemOf k b v × ((t : List ℕ) × P v t × Puts t old new (Err (Short n)))
ReturnsOr k b P Q old new (Err (Cose e)) = IsRefused k b e × (new ≡ old)
ReturnsOr k b P Q old new (Err r) = (v : Item) × IsItemOf k b v × Q v r × (new ≡ old)

-- The reason is that no text has property P.
abbrev pub HasNoText : (Item → List ℕ → Type 0) → Item → refusals.Refusal → Type 0
HasNoText P v Absent = (t : List ℕ) → P v t → ⊥
HasNoText P v r = ⊥

-- The result of a call that writes a text with property P, or returns `Absent` because there is none.
abbrev pub Answers : kinds.Kind → List ℕ → (Item → List ℕ → Type 0) → List ℕ → List ℕ → Result ℕ refusals.Refusal → Type 0
Answers k b P old new r = ReturnsOr k b P (HasNoText P) old new r

-- The result of a call that writes a text and returns a value n. P holds for these two and for the item that the bytes
-- b are. The text is at the front of the memory, or it doesn't fit, and `Short` has the length that is needed. Or there
-- are no such two, for a reason with property Q; or the bytes are no such item. After an error the memory is unchanged.
abbrev pub ReturnsWith :
    {N : Type 0} → kinds.Kind → List ℕ → (Item → N → List ℕ → Type 0) → (Item → refusals.Refusal → Type 0) → List ℕ → List ℕ
    → Result N refusals.Refusal → Type 0
ReturnsWith k b P Q old new (Ok n) = (v : Item) × IsItemOf k b v × ((t : List ℕ) × P v n t × BeginsWith t old new)
ReturnsWith {N} k b P Q old new (Err (Short m)) =
    (v : Item) × IsItemOf k b v × ((n : N) × ((t : List ℕ) × P v n t × Puts t old new (Err (Short m))))
ReturnsWith k b P Q old new (Err (Cose e)) = IsRefused k b e × (new ≡ old)
ReturnsWith k b P Q old new (Err r) = (v : Item) × IsItemOf k b v × Q v r × (new ≡ old)

-- The result of a call that returns a value with property P of the item that the bytes b are. Or there is none, for a
-- reason with property Q; or the bytes are no such item.
abbrev pub ReturnsNumber :
    {N : Type 0} → kinds.Kind → List ℕ → (Item → N → Type 0) → (Item → refusals.Refusal → Type 0) → Result N refusals.Refusal → Type 0
ReturnsNumber k b P Q (Ok n) = (v : Item) × IsItemOf k b v × P v n
ReturnsNumber k b P Q (Err (Short n)) = ⊥
ReturnsNumber k b P Q (Err (Cose e)) = IsRefused k b e
ReturnsNumber k b P Q (Err r) = (v : Item) × IsItemOf k b v × Q v r

-- Writing the text t into the memory, and returning n if it fits.
abbrev pub PutsWith : {N : Type 0} → N → List ℕ → List ℕ → List ℕ → Result N refusals.Refusal → Type 0
PutsWith n t old new (Ok m) = (m ≡ n) × BeginsWith t old new
PutsWith n t old new (Err r) = Puts t old new (Err r)

-- Writing the text t into the memory, and returning n if it fits. `OutOfMemory` means that the text's length doesn't
-- fit in a machine number.
abbrev pub PutsTexts : {N : Type 0} → N → List ℕ → List ℕ → List ℕ → Result N refusals.Refusal → Type 0
PutsTexts n t old new (Ok m) = (m ≡ n) × BeginsWith t old new
PutsTexts n t old new (Err (Cose e)) = (e ≡ OutOfMemory) × (new ≡ old)
PutsTexts n t old new (Err r) = Puts t old new (Err r)

-- Writing the text that was found.
abbrev pub WritesFound : {T : Type 0} → (T → List ℕ) → Result (Option T) CoseError → List ℕ → List ℕ → Result ℕ refusals.Refusal → Type 0
WritesFound bytes_of (Ok (Some x)) old new r = Puts (bytes_of x) old new r
WritesFound bytes_of (Ok None) old new r = (r ≡ Err Absent) × (new ≡ old)
WritesFound bytes_of (Err e) old new r = (r ≡ Err (Cose e)) × (new ≡ old)

-- Writing the content of the string that was found.
abbrev pub PutsString : Option (List ℕ) → List ℕ → List ℕ → Result ℕ refusals.Refusal → Type 0
PutsString (Some t) old new r = Puts t old new r
PutsString None old new r = (r ≡ Err WrongType) × (new ≡ old)

abbrev pub WritesString : {T : Type 0} → (T → Item) → Result (Option T) CoseError → List ℕ → List ℕ → Result ℕ refusals.Refusal → Type 0
WritesString view (Ok (Some x)) old new r = PutsString (string_in (view x)) old new r
WritesString view (Ok None) old new r = (r ≡ Err Absent) × (new ≡ old)
WritesString view (Err e) old new r = (r ≡ Err (Cose e)) × (new ≡ old)

-- The value that was found has property P. If none was found, none exists.
abbrev pub Finds : {T A : Type 0} → (T → A) → (A → Type 0) → Option T → Type 0
Finds view P (Some x) = P (view x)
Finds {A = A} view P None = (a : A) → P a → ⊥

-- The value and the text that were found have property P together. If none were found, no such two exist.
abbrev pub FindsWith : {T N : Type 0} → (T → N) → (T → List ℕ) → (N → List ℕ → Type 0) → Option T → Type 0
FindsWith view text_of P (Some x) = P (view x) (text_of x)
FindsWith {N = N} view text_of P None = (n : N) (t : List ℕ) → P n t → ⊥

-- t is the shortest encoding of the item, which is present.
abbrev pub IsEncodingOf : Option Item → List ℕ → Type 0
IsEncodingOf o t = (w : Item) × (o ≡ Some w) × IsShortest t w
