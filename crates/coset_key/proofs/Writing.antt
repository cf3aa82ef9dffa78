-- Writing the fields of a key, pair by pair.
use Rattle.std.proofs.Common.{◌≡◌, List, [], ◌∷◌, length, map, not, Bool, true, false, Some, None, option_map, refl, sym, ap, arith}
use Rattle.coset_value.specs.Item.{Item, Items, item, array}
use Rattle.coset_codec.specs.Maps.{field_shape_image, is_nonempty}
use Rattle.coset_codec.specs.Shape.{both, images, list_of}
use Rattle.coset_label.specs.LabelData.{LabelView, number, text_label, label_item, RegisteredLabelView, assigned, private_use, text_name}
use Rattle.coset_label.specs.Labels.{algorithm}
use Rattle.coset_key.specs.Keys.{operation, key_ops}

-- The pair of a set is written exactly if the set isn't empty.
pub set-there : {K N : Type 0} (view : K → N) (ks : List K) (b : Bool) → (b ≡ true → length ks ≡ 0) → (length ks ≡ 0 → b ≡ true)
    → is_nonempty (map view ks) ≡ not b
set-there view [] b none all = sym (ap not (all refl))
set-there view (k ∷ ks) true none all = let e = none refl in absurd (omega (arith, e))
set-there view (k ∷ ks) false none all = refl

-- Every algorithm has an image.
pub algorithm-has : (n : RegisteredLabelView) → algorithm.image n ≡ None → ⊥
unfolding algorithm
algorithm-has (assigned i) e = absurd (cc)
algorithm-has (private_use i) e = absurd (cc)
algorithm-has (text_name s) e = absurd (cc)

-- ---- key operations

operation_image : (n : LabelView) → operation.image n ≡ Some (label_item n)
unfolding operation
operation_image (number i) = refl
operation_image (text_label s) = refl

operations_image : (ns : List LabelView) → (vs : Items) × (images operation.image ns ≡ Some vs)
operations_image [] = (_, refl)
operations_image (n ∷ ns) = let more = operations_image ns in (_, λ i. both item (operation_image n i) (more.1 i))

pub key_ops_image : (ns : List LabelView) → (v : Item) × ((list_of operation).image ns ≡ Some v)
key_ops_image ns = let vs = operations_image ns in (array vs.0, ap (option_map array) vs.1)

-- A nonempty set of key operations is written as the list of its elements.
pub key_ops_list : (ns : List LabelView) → is_nonempty ns ≡ true → field_shape_image (is_nonempty ns) (key_ops.image ns) ≡ option_map Some
    ((list_of operation).image ns)
unfolding key_ops
key_ops_list ns e = ap (λ b. field_shape_image b ((list_of operation).image ns)) e
