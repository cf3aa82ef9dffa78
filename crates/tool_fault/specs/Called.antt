-- The names that errors give to unexpected items.
use Rattle.std.specs.Prelude.{◌≡◌, ℕ, List, [], Some, codes}
use Rattle.coset.specs.Results.{DescribesNothing}
use Rattle.coset.specs.Fields.{IsMediaType}
use Rattle.coset.specs.Headers.{signature}
use Rattle.coset.specs.Item.{Item, no_items}
use Rattle.coset.specs.Keys.{key}
use Rattle.coset.specs.Kinds.{kind}
use Rattle.coset.specs.Parts.{as_array, as_bytes, as_text}

-- A text that is no media type.
abbrev pub IsNoMediaType : Item → Type 0
IsNoMediaType v = (s : List ℕ) × (as_text v ≡ Some s) × (IsMediaType s → ⊥)

-- The name that errors give to the item v with the encoding b. It is the item's kind, or says what is wrong with the
-- item.
pub data IsCalled : List ℕ → List ℕ → Item → Type 0 where
  by_kind : (b : List ℕ) (v : Item) → IsCalled (kind v) b v
  no_bytes : (b : List ℕ) (v : Item) → as_bytes v ≡ Some [] → IsCalled (codes "empty bstr") b v
  no_text : (b : List ℕ) (v : Item) → as_text v ≡ Some [] → IsCalled (codes "empty tstr") b v
  no_elements : (b : List ℕ) (v : Item) → as_array v ≡ Some no_items → IsCalled (codes "empty array") b v
  no_signatures : (b : List ℕ) (v : Item) → as_array v ≡ Some no_items → IsCalled (codes "empty sig array") b v
  spaced : (b : List ℕ) (v : Item) → IsNoMediaType v → IsCalled (codes "leading/trailing whitespace") b v
  arbitrary : (b : List ℕ) (v : Item) → IsNoMediaType v → IsCalled (codes "arbitrary text") b v
  no_key : (b : List ℕ) (v : Item) → DescribesNothing key b → IsCalled (codes "no kty label") b v
  no_signature : (b : List ℕ) (v : Item) → DescribesNothing signature b → IsCalled (codes "non-signature") b v
