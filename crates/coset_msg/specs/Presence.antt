-- The results of calls whose payload or ciphertext may be missing, and of calls of a closure with two arguments.
use Rattle.std.specs.Prelude.{◌≡◌, ℕ, List, Option, Some, None, Result, Ok, Err}
use Rattle.std.specs.Borrow.{Bor}
use Rattle.std.specs.Fn.{Once, FnOnceReturns, FnOnceReturnsAtPair}
use Rattle.coset_value.specs.Item.{Item}
use Rattle.coset_codec.specs.declared.error.CallError.{CallError}
use Rattle.coset_codec.specs.declared.error.CallError.TheVariants.{Coset, Caller}
use Rattle.coset_codec.specs.declared.error.CoseError.{CoseError}
use Rattle.coset_codec.specs.Results.{Writes}
use Rattle.coset_codec.specs.Encoding.{HasNoImage}
use Rattle.coset_core.specs.Calls.{CallsWith, IsStructure}

-- If the content is missing, `missing` is called once, and its error is returned. Otherwise f is called with `bytes` of
-- the content and with the content's structure.
abbrev pub CallsIfPresent : {F M U E : Type 0} → Once F (Bor (List ℕ) × (Bor (List ℕ) × Unit {0})) (Result U E) → F → Once M (Unit {0}) E → M
    → Option (List ℕ) → (List ℕ → List ℕ) → (List ℕ → Option Item) → Result U (CallError E) → Type 0
CallsIfPresent {E = E} g f gm missing None bytes structure r = (e : E) × FnOnceReturns gm missing tt e × (r ≡ Err (Caller e))
CallsIfPresent g f gm missing (Some c) bytes structure r = CallsWith g f (bytes c) (structure c) r

-- f was called with these bytes and with those of the structure, and its result was stored as `stores` says. Otherwise
-- there is no structure, or an allocation failed.
abbrev pub CreatesOf : {F V B : Type 0} → Once F (Bor (List ℕ) × (Bor (List ℕ) × Unit {0})) V → F → List ℕ → Option Item → (V → B → Type 0) → Result B CoseError
    → Type 0
CreatesOf {V = V} g f s o stores (Ok x) = (b : List ℕ) × (made : V) × IsStructure o b × FnOnceReturnsAtPair g f s b made × stores made x
CreatesOf g f s o stores (Err e) = HasNoImage o e

-- The same for an f that may fail: its result was stored, or its error was returned.
abbrev pub TriesToCreateOf : {F V B E : Type 0} → Once F (Bor (List ℕ) × (Bor (List ℕ) × Unit {0})) (Result V E) → F → List ℕ → Option Item → (V → B → Type 0)
    → Result B (CallError E) → Type 0
TriesToCreateOf {V = V} g f s o stores (Ok x) = (b : List ℕ) × (made : V) × IsStructure o b × FnOnceReturnsAtPair g f s b (Ok made) × stores made x
TriesToCreateOf g f s o stores (Err (Caller e)) = (b : List ℕ) × IsStructure o b × FnOnceReturnsAtPair g f s b (Err e)
TriesToCreateOf g f s o stores (Err (Coset e)) = HasNoImage o e

-- Writing the structure of a payload that is present. The result is never `None`.
abbrev pub WritesPresent : {V : Type 0} → (V → List ℕ) → Option Item → Result (Option V) CoseError → Type 0
WritesPresent bytes_of o (Ok (Some b)) = Writes o bytes_of (Ok b)
WritesPresent bytes_of o (Ok None) = ⊥
WritesPresent {V} bytes_of o (Err e) = Writes {V = V} o bytes_of (Err e)

-- If there is a payload, its structure is written. If there is none, the result is `None`.
abbrev pub WritesIfPresent : {V : Type 0} → (V → List ℕ) → Option (List ℕ) → (List ℕ → Option Item) → Result (Option V) CoseError → Type 0
WritesIfPresent bytes_of None structure r = r ≡ Ok None
WritesIfPresent bytes_of (Some p) structure r = WritesPresent bytes_of (structure p) r
