-- Lists of items and of pairs, one after the other.
use Rattle.std.proofs.Common.{◌≡◌, ◌∙◌, ◌++◌, List, [], ◌∷◌, Option, Some, None, map, option_map, ap, refl}
use Rattle.std.proofs.lemmas.List.{map-append}
use Rattle.std.specs.Prelude.{option_to_list}
use Rattle.coset.specs.Item.{Item, Items, no_items, item, no_pairs, pair}
use Rattle.coset.specs.View.{items_of, value_items, value_pair, pairs_of, value_pairs, value_item}
use Rattle.coset_value.specs.declared.value.Value.{Value}
use Rattle.ffi_make.specs.Members.{in_last}
use Rattle.ffi_make.specs.Messages.{and_item, items_and}
use Rattle.ffi_make.specs.PairsMade.{pairs_and}

items_of-append : (vs ws : List Item) → items_of (vs ++ ws) ≡ items_and (items_of vs) (items_of ws)
items_of-append [] ws = refl
items_of-append (v ∷ vs) ws = ap (item v) (items_of-append vs ws)

-- One more value.
pub items_view_push : (vs : List Value) (v : Value) → value_items (vs ++ v ∷ []) ≡ and_item (value_items vs) (value_item v)
items_view_push vs v = ap items_of (map-append value_item vs (v ∷ [])) ∙ items_of-append (map value_item vs) (value_item v ∷ [])

pairs_of-append : (ps qs : List (Item × Item)) → pairs_of (ps ++ qs) ≡ pairs_and (pairs_of ps) (pairs_of qs)
pairs_of-append [] qs = refl
pairs_of-append (p ∷ ps) qs = ap (pair p.0 p.1) (pairs_of-append ps qs)

-- One more pair.
pub pairs_view_push : (ps : List (Value × Value)) (k v : Value) → value_pairs (ps ++ (k, v) ∷ []) ≡ pairs_and (value_pairs ps) (pair (value_item k)
    (value_item v) no_pairs)
pairs_view_push ps k v = ap pairs_of (map-append value_pair ps ((k, v) ∷ [])) ∙ pairs_of-append (map value_pair ps) ((value_item k, value_item v) ∷ [])

-- ---- the last element

none_before : (o : Option Items) → o ≡ option_map (items_and no_items) o
none_before None = refl
none_before (Some ws) = refl

one_first : (v : Item) (o : Option Items) → option_map (item v) o ≡ option_map (items_and (item v no_items)) o
one_first v None = refl
one_first v (Some ws) = refl

one_before : (v : Item) (vs : Items) (o : Option Items) → option_map (item v) (option_map (items_and vs) o) ≡ option_map (items_and (item v vs)) o
one_before v vs None = refl
one_before v vs (Some ws) = refl

-- Two more values.
pub two_more : (vs : Items) (x y : Item) → and_item (and_item vs x) y ≡ items_and vs (item x (item y no_items))
two_more no_items x y = refl
two_more (item v vs) x y = ap (item v) (two_more vs x y)

-- The replacement of the last element follows the others.
pub in_last_push : (f : Item → Option Items) (vs : Items) (x : Item) → in_last f (and_item vs x) ≡ option_map (items_and vs) (f x)
in_last_push f no_items x = none_before (f x)
in_last_push f (item v no_items) x = one_first v (f x)
in_last_push f (item v (item w vs)) x = ap (option_map (item v)) (in_last_push f (item w vs) x) ∙ one_before v (item w vs) (f x)

-- A list of values without its last one.
pub popped :
    (f : Item → Option Items) (old new : List Value) (last : Value) (o : Option Value) → old ≡ new ++ option_to_list o → o ≡ Some last
    → in_last f (value_items old) ≡ option_map (items_and (value_items new)) (f (value_item last))
popped f old new last o is some =
    ap (λ vs. in_last f (value_items vs)) is
    ∙ (ap (λ p. in_last f (value_items (new ++ option_to_list p))) some
    ∙ (ap (in_last f) (items_view_push new last) ∙ in_last_push f (value_items new) (value_item last)))
