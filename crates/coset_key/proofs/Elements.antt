-- The elements of a list that an item describes.
use Rattle.std.proofs.Common.{◌≡◌, ◌≤◌, ◌<◌, ℕ, zero, suc, List, [], ◌∷◌, length, get_or, subst, arith}
use Rattle.coset_value.specs.Item.{Item, Items, no_items, item, depth, items_depth}
use Rattle.coset_codec.specs.Shape.{Shape, Each}

-- Each element is described by an item of the list. The depth of this item is at most the list's.
pub element_of :
    {A : Type 0} (s : Shape A) (vs : Items) (xs : List A) (n : ℕ) (x : A) → Each s.describes vs xs → n < length xs → get_or xs n x ≡ x
    → (v : Item) × s.describes v x × (depth v ≤ items_depth vs)
element_of s no_items [] n x e l g = absurd (omega (arith, l))
element_of s no_items (y ∷ ys) n x e l g = absurd e
element_of s (item v vs) [] n x e l g = absurd e
element_of s (item v vs) (y ∷ ys) zero x e l g = (v, subst (s.describes v) g e.0, omega arith)
element_of s (item v vs) (y ∷ ys) (suc n) x e l g = let m = element_of s vs ys n x e.1 (omega (arith, l)) g in (m.0, m.1, omega (arith, m.2))
