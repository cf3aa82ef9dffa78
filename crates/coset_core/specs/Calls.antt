-- The results of calls that take a closure of the caller. The closure is called at most once, with a structure (RFC
-- 8152, sections 4.4, 5.3 and 6.3). Errors of this library are returned before it is called.
use Rattle.std.specs.Prelude.{◌≡◌, ℕ, List, Option, Some, Result, Ok, Err}
use Rattle.std.specs.Borrow.{Bor}
use Rattle.std.specs.Fn.{Once, FnOnceReturnsAt, FnOnceReturnsAtPair}
use Rattle.coset_value.specs.Item.{Item}
use Rattle.coset_cbor.specs.Shortest.{IsShortest}
use Rattle.coset_codec.specs.Encoding.{HasNoImage}
use Rattle.coset_codec.specs.declared.error.CallError.{CallError}
use Rattle.coset_codec.specs.declared.error.CallError.TheVariants.{Coset, Caller}
use Rattle.coset_codec.specs.declared.error.CoseError.{CoseError}

-- There is a structure, and b is its shortest encoding.
abbrev pub IsStructure : Option Item → List ℕ → Type 0
IsStructure o b = (v : Item) × (o ≡ Some v) × IsShortest b v

-- The result is that of f, called with these bytes and the bytes of the structure. Otherwise there is no structure, or
-- an allocation failed.
abbrev pub CallsWith : {F U E : Type 0} → Once F (Bor (List ℕ) × (Bor (List ℕ) × Unit {0})) (Result U E) → F → List ℕ → Option Item → Result U (CallError E)
    → Type 0
CallsWith g f s o (Ok u) = (b : List ℕ) × IsStructure o b × FnOnceReturnsAtPair g f s b (Ok u)
CallsWith g f s o (Err (Caller e)) = (b : List ℕ) × IsStructure o b × FnOnceReturnsAtPair g f s b (Err e)
CallsWith g f s o (Err (Coset e)) = HasNoImage o e

-- f made a value from the bytes of the structure, and `stores` relates that value to the result. Otherwise there is no
-- structure, or an allocation failed.
abbrev pub Creates : {F V B : Type 0} → Once F (Bor (List ℕ) × Unit {0}) V → F → Option Item → (V → B → Type 0) → Result B CoseError → Type 0
Creates {V = V} g f o stores (Ok x) = (b : List ℕ) × (made : V) × IsStructure o b × FnOnceReturnsAt g f b made × stores made x
Creates g f o stores (Err e) = HasNoImage o e

-- The same, but f may fail. The result is then the error of f.
abbrev pub TriesToCreate : {F V B E : Type 0} → Once F (Bor (List ℕ) × Unit {0}) (Result V E) → F → Option Item → (V → B → Type 0) → Result B (CallError E)
    → Type 0
TriesToCreate {V = V} g f o stores (Ok x) = (b : List ℕ) × (made : V) × IsStructure o b × FnOnceReturnsAt g f b (Ok made) × stores made x
TriesToCreate g f o stores (Err (Caller e)) = (b : List ℕ) × IsStructure o b × FnOnceReturnsAt g f b (Err e)
TriesToCreate g f o stores (Err (Coset e)) = HasNoImage o e

-- The result is the value that f made.
abbrev pub Itself : {V : Type 0} → V → V → Type 0
Itself made answer = answer ≡ made
