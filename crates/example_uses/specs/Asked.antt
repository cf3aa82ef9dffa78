-- The results of closures that get bytes and a structure (RFC 8152, sections 4.4, 5.3 and 6.3).
use Rattle.std.specs.Prelude.{◌≡◌, ℕ, List, Option, Result, Ok, Err, Vec}
use Rattle.std.specs.Borrow.{Bor}
use Rattle.std.specs.Fn.{Once, FnOnceReturns, FnOnceReturnsAt, FnOnceReturnsAtPair}
use Rattle.std.specs.Global.{Global}
use Rattle.coset_value.specs.Item.{Item}
use Rattle.coset_core.specs.Calls.{IsStructure}

-- Closures that make bytes from bytes.
abbrev pub Maker : Type 0 → Type 0 → Type 1
Maker F E = Once F (Bor (List ℕ) × Unit {0}) (Result (Vec ℕ Global) E)

-- f made s from the bytes of the structure.
abbrev pub Makes : {F E : Type 0} → Maker F E → F → Option Item → List ℕ → Type 0
Makes g f o s = (t : List ℕ) × (made : Vec ℕ Global) × IsStructure o t × FnOnceReturnsAt g f t (Ok made) × (made.items ≡ s)

-- f refused the bytes of the structure with the error e.
abbrev pub Declines : {F E : Type 0} → Maker F E → F → Option Item → E → Type 0
Declines g f o e = (t : List ℕ) × IsStructure o t × FnOnceReturnsAt g f t (Err e)

-- Closures that get two byte strings.
abbrev pub Asker : Type 0 → Type 0 → Type 0 → Type 1
Asker F U E = Once F (Bor (List ℕ) × (Bor (List ℕ) × Unit {0})) (Result U E)

-- f returns this result for the given bytes and the bytes of the structure.
abbrev pub Says : {F U E : Type 0} → Asker F U E → F → List ℕ → Option Item → Result U E → Type 0
Says g f s o answer = (t : List ℕ) × IsStructure o t × FnOnceReturnsAtPair g f s t answer

-- f made c from the given bytes and the bytes of the structure.
abbrev pub MakesOf : {F E : Type 0} → Asker F (Vec ℕ Global) E → F → List ℕ → Option Item → List ℕ → Type 0
MakesOf g f s o c = (made : Vec ℕ Global) × Says g f s o (Ok made) × (made.items ≡ c)

-- Closures that get three byte strings.
abbrev pub AskerOfThree : Type 0 → Type 0 → Type 0 → Type 1
AskerOfThree F U E = Once F (Bor (List ℕ) × (Bor (List ℕ) × (Bor (List ℕ) × Unit {0}))) (Result U E)

-- A call of f with references to x, y and z may return r.
abbrev pub ReturnsAtThree : {F R : Type 0} → Once F (Bor (List ℕ) × (Bor (List ℕ) × (Bor (List ℕ) × Unit {0}))) R → F → List ℕ → List ℕ → List ℕ → R → Type 0
ReturnsAtThree g f x y z r =
    (p : Bor (List ℕ)) × (q : Bor (List ℕ)) × (s : Bor (List ℕ)) × FnOnceReturns g f (p, (q, (s, tt))) r × (p.now ≡ x) × (q.now ≡ y) × (s.now ≡ z)

-- f returns this result for x, y and the bytes of the structure.
abbrev pub SaysOfThree : {F U E : Type 0} → AskerOfThree F U E → F → List ℕ → List ℕ → Option Item → Result U E → Type 0
SaysOfThree g f x y o answer = (t : List ℕ) × IsStructure o t × ReturnsAtThree g f x y t answer
