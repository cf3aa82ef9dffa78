-- The laws of thumbprints' inputs.
use Rattle.std.specs.Prelude.{◌≡◌, ◌↔◌, ℕ, List, Some, Ok, Vec, map}
use Rattle.std.specs.Global.{Global}
use Rattle.std.specs.List.{AllByRecursion}
use Rattle.std.specs.List.Sorted.{IsStrictlySortedBy}
use Rattle.std.specs.Map.{keys_of}
use Rattle.coset.specs.Item.{Item, dict}
use Rattle.coset.specs.Keys.{KeyView}
use Rattle.coset.specs.LabelData.{LabelView, number, label_item, label_cmp}
use Rattle.coset.specs.Sec1.{param}
use Rattle.coset.specs.Shortest.{IsShortest}
use Rattle.coset.specs.View.{pairs_of}
use Rattle.cose_thumbprint.specs.Thumbprint.{Required, required, required_map, IsInput}

-- The keys have the same type, and the same values of the members that it requires.
pub record AgreeInRequired (k l : KeyView) : Type 0 where
  pub kty : k.kty ≡ l.kty
  pub members : (ms : List Required) → required k.kty ≡ Some ms → AllByRecursion (λ m. param (number m.0) k ≡ param (number m.0) l) ms

-- Two keys have the same input exactly if they have the same type and the same required members.
abbrev pub InputsAgree : Type 0
InputsAgree = (b c : Vec ℕ Global) (k l : KeyView) → IsInput b k → IsInput c l → (b.items ≡ c.items) ↔ AgreeInRequired k l

-- The item is a map whose keys are labels in the order of their encodings.
abbrev pub HasSortedLabels : Item → Type 0
HasSortedLabels v = (es : List (LabelView × Item)) × (v ≡ dict (pairs_of (map (λ e. (label_item e.0, e.1)) es))) × IsStrictlySortedBy label_cmp (keys_of es)

-- The bytes are the deterministic encoding of the key's map (RFC 8949, section 4.2.1). Its heads are the shortest, and
-- its labels are in the order of their encodings.
pub record IsDeterministic (b : List ℕ) (k : KeyView) : Type 0 where
  pub content : Item
  pub is_map : required_map k ≡ Ok content
  pub is_shortest : IsShortest b content
  pub is_sorted : HasSortedLabels content

-- Each input is the deterministic encoding of its key's map.
abbrev pub InputsAreDeterministic : Type 0
InputsAreDeterministic = (b : Vec ℕ Global) (k : KeyView) → IsInput b k → IsDeterministic b.items k
