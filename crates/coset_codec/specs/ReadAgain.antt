-- Values that were read are written and read again as themselves. The items and bytes that they are written as
-- distinguish them.
use Rattle.std.specs.Prelude.{◌↔◌}
use Rattle.std.proofs.Common.{◌≡◌, ◌≤◌, ℕ, List, Some, arith}
use Rattle.coset_value.specs.Item.{Item, depth}
use Rattle.coset_cbor.specs.Shortest.{IsShortest}
use Rattle.coset_cbor.proofs.Shortest.{definite_is_encoding}
use Rattle.coset_codec.specs.Shape.{Shape}
use Rattle.coset_codec.specs.ShapeLaws.{Again, Lawful}
use Rattle.coset_codec.specs.Results.{Describes}

-- x is written as an item whose shortest encoding describes x.
abbrev pub ReadsAgain : {A : Type 0} → Shape A → A → Type 0
ReadsAgain s x = (v : Item) × (s.image x ≡ Some v) × ((b : List ℕ) → IsShortest b v → Describes s b x)

-- `ReadsAgain` holds if v is within 256 levels, and x is written as an item that represents x and is no deeper than v.
pub again_reads : {A : Type 0} (s : Shape A) (v : Item) (x : A) → Again A s v x → depth v ≤ 256 → ReadsAgain s x
again_reads s v x a shallow =
    (a.image, a.is_image, λ c short. (a.image, (definite_is_encoding a.image c short.definite, omega (arith, a.shallow, shallow)), a.described))

-- `ReadsAgain` holds for each value that bytes describe.
pub reads_again : {A : Type 0} (s : Shape A) → Lawful A s → (b : List ℕ) (x : A) → Describes s b x → ReadsAgain s x
reads_again s l b x p = again_reads s p.0 x (l.again p.0 x p.2) p.1.1

-- b is the shortest encoding of the item that x is written as.
abbrev pub IsWritten : {A : Type 0} → Shape A → A → List ℕ → Type 0
IsWritten s x b = (v : Item) × (s.image x ≡ Some v) × IsShortest b v

-- Values that were read, from any source, are written as equal bytes if and only if they are equal.
abbrev pub EncodesInjectively : {A : Type 0} → Shape A → Type 0
EncodesInjectively {A} s =
    (v w : Item) (c d : List ℕ) (x y : A) → s.describes v x → s.describes w y → IsWritten s x c → IsWritten s y d → (c ≡ d) ↔ (x ≡ y)

-- The same holds for the items that they are written as.
abbrev pub ImagesInjectively : {A : Type 0} → Shape A → Type 0
ImagesInjectively {A} s = (v w : Item) (x y : A) → s.describes v x → s.describes w y → (s.image x ≡ s.image y) ↔ (x ≡ y)

-- A value that was read, from any source, is written as bytes. Reading and writing these bytes again gives the same
-- value and the same bytes.
abbrev pub StaysAsWritten : {A : Type 0} → Shape A → Type 0
StaysAsWritten {A} s =
    (v : Item) (b c : List ℕ) (x y : A) → s.describes v x → IsWritten s x b → Describes s b y → IsWritten s y c → (y ≡ x) × (c ≡ b)
