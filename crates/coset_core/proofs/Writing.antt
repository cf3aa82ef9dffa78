-- Writing items one after the other.
use Rattle.std.proofs.Common.{◌≡◌, ℕ, suc, ◌<◌, ◌^◌, List, [], ◌∷◌, ◌++◌, length, refl, sym, ◌∙◌, ap, append-nil, append_assoc}
use Rattle.coset_value.specs.Item.{Item, array, items_count}
use Rattle.coset_value.specs.Range.{AreInRange}
use Rattle.coset_value.specs.View.{items_of}
use Rattle.coset_cbor.specs.Least.{least_head, least_encoding, least_encodings}
use Rattle.coset_codec.specs.Encoding.{AppendsItem}
use Rattle.coset_core.specs.Written.{AppendsItems}

-- ---- items

least_encodings-append : (vs ws : List Item) → least_encodings (items_of (vs ++ ws)) ≡ least_encodings (items_of vs) ++ least_encodings (items_of ws)
least_encodings-append [] ws = refl
least_encodings-append (v ∷ vs) ws = rw (
  least_encodings-append vs ws,
  append_assoc (least_encoding v) (least_encodings (items_of vs)) (least_encodings (items_of ws)),
) refl

items_in_range-append : (vs ws : List Item) → AreInRange (items_of vs) → AreInRange (items_of ws) → AreInRange (items_of (vs ++ ws))
items_in_range-append [] ws p q = q
items_in_range-append (v ∷ vs) ws p q = (p.0, items_in_range-append vs ws p.1 q)

-- Some items, and one more.
pub items-push : (old mid new : List ℕ) (vs : List Item) (v : Item) → AppendsItems old mid vs → AppendsItem mid new v → AppendsItems old new (vs ++ v ∷ [])
items-push old mid new vs v p q = record {
  in_range = items_in_range-append vs (v ∷ []) p.in_range (q.in_range, tt);
  parts = rw (q.parts, p.parts, least_encodings-append vs (v ∷ []), append-nil (least_encoding v))
      (append_assoc old (least_encodings (items_of vs)) (least_encoding v));
}

-- There are as many items as elements in the list.
pub count-items : (vs : List Item) → items_count (items_of vs) ≡ length vs
count-items [] = refl
count-items (v ∷ vs) = ap (λ n. suc n) (count-items vs)

-- A head followed by the items is an array.
pub array-put :
    (vs : List Item) (n : ℕ) (old head new : List ℕ) → n ≡ length vs → n < 2 ^ 64 → head ≡ old ++ least_head 4 n → AppendsItems head new vs
    → AppendsItem old new (array (items_of vs))
array-put vs n old head new count small first p =
    let same : items_count (items_of vs) ≡ n = count-items vs ∙ sym count in
    record {
      in_range = (rw same small, p.in_range);
      parts = rw (p.parts, first, same) (append_assoc old (least_head 4 n) (least_encodings (items_of vs)));
    }
