-- The results of the calls that write directly to bytes.
use Rattle.std.specs.Prelude.{◌≡◌, ℕ, ℤ, List, ◌++◌, Option, Some, None, Result, Ok, Err, option_map}
use Rattle.coset_value.specs.Item.{Item, Items, items_count, integer, Pairs, no_pairs, pair, array, item, no_items}
use Rattle.coset_value.specs.Range.{IsInRange, AreInRange, ArePairsInRange}
use Rattle.coset_cbor.specs.Least.{least_encoding, least_encodings, least_pair_encodings}
use Rattle.coset_codec.specs.declared.error.CoseError.{CoseError}
use Rattle.coset_codec.specs.declared.error.CoseError.TheVariants.{DuplicateMapKey}
use Rattle.coset_codec.specs.Errors.{UnlessMemory}
use Rattle.coset_codec.specs.Shape.{both}

-- new is old, followed by the shortest encoding of the item v, which is within CBOR's ranges.
pub record AppendsItem (old new : List ℕ) (v : Item) : Type 0 where
  pub in_range : IsInRange v
  pub parts : new ≡ old ++ least_encoding v

-- new is old, followed by the shortest encoding of the item that a value is written as.
abbrev pub AppendsImage : Option Item → List ℕ → List ℕ → Type 0
AppendsImage image old new = (v : Item) × (image ≡ Some v) × AppendsItem old new v

-- new is old, followed by the shortest encodings of n elements of an array.
pub record AppendsInOrder (old new : List ℕ) (n : ℕ) (vs : Items) : Type 0 where
  pub count : items_count vs ≡ n
  pub in_range : AreInRange vs
  pub parts : new ≡ old ++ least_encodings vs

abbrev pub AppendsElements : Option Items → ℕ → List ℕ → List ℕ → Type 0
AppendsElements images n old new = (vs : Items) × (images ≡ Some vs) × AppendsInOrder old new n vs

-- There is no item, and the error says so, unless the error is `OutOfMemory`.
abbrev pub HasNoImage : {A : Type 0} → Option A → CoseError → Type 0
HasNoImage image e = UnlessMemory e (λ f. (f ≡ DuplicateMapKey) × (image ≡ None))

-- Writing a value directly to bytes appends the shortest encoding of its item. Otherwise the error says that there is
-- no item, or is `OutOfMemory`.
abbrev pub Encodes : {T : Type 0} → Option Item → List ℕ → List ℕ → Result T CoseError → Type 0
Encodes image old new (Ok x) = AppendsImage image old new
Encodes image old new (Err e) = HasNoImage image e

-- The array of two elements, if each has an item.
abbrev pub two_elements : Option Item → Option Item → Option Item
two_elements a b = option_map array (both item a (both item b (Some no_items)))

-- The array of three elements, if each has an item.
abbrev pub three_elements : Option Item → Option Item → Option Item → Option Item
three_elements a b c = option_map array (both item a (both item b (both item c (Some no_items))))

-- The array of four elements, if each has an item.
abbrev pub four_elements : Option Item → Option Item → Option Item → Option Item → Option Item
four_elements a b c d = option_map array (both item a (both item b (both item c (both item d (Some no_items)))))

-- The array of five elements, if each has an item.
abbrev pub five_elements : Option Item → Option Item → Option Item → Option Item → Option Item → Option Item
five_elements a b c d e = option_map array (both item a (both item b (both item c (both item d (both item e (Some no_items))))))

-- ---- maps

-- new is old, followed by the shortest encodings of the pairs.
pub record AppendsPairs (old new : List ℕ) (ps : Pairs) : Type 0 where
  pub in_range : ArePairsInRange ps
  pub parts : new ≡ old ++ least_pair_encodings ps

-- The pairs have items, and new is old, followed by the shortest encodings of the pairs.
abbrev pub AppendsAll : Option Pairs → List ℕ → List ℕ → Type 0
AppendsAll o old new = (ps : Pairs) × (o ≡ Some ps) × AppendsPairs old new ps

-- The pair of that number and value, or no pair if there is no value.
abbrev pub pair_of : ℤ → Option Item → Pairs
pair_of l (Some v) = pair (integer l) v no_pairs
pair_of l None = no_pairs

-- new is old, followed by the pair of that number if the field is present.
abbrev pub AppendsField : ℤ → Option (Option Item) → List ℕ → List ℕ → Type 0
AppendsField l o old new = (q : Option Item) × (o ≡ Some q) × AppendsPairs old new (pair_of l q)
