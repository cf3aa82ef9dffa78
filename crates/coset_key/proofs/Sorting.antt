-- Sorted params in memory, and their views.
use Rattle.std.proofs.Common.{◌≡◌, ◌+◌, List, [], ◌∷◌, map, length, Bool, ◌∙◌, arith}
use Rattle.std.specs.List.Sorted.{IsSortedBy}
use Rattle.std.proofs.lemmas.List.{get_or-map, length-map}

module _ {X Y : Type 0} (view : X → Y) (lt : Y → Y → Bool) where
  -- If the elements are sorted by their views, the list of views is sorted.
  pub sorted-view : (xs : List X) → IsSortedBy (λ x y. lt (view x) (view y)) xs → IsSortedBy lt (map view xs)
  sorted-view [] s k d a b = absurd (omega (arith, b))
  sorted-view (x ∷ xs) s k d a b =
      let l : length (map view (x ∷ xs)) ≡ length (x ∷ xs) = length-map (x ∷ xs) view in
      let here = get_or-map view (x ∷ xs) k x d (omega (arith, b, l)) in
      let next = get_or-map view (x ∷ xs) (k + 1) x d (omega (arith, b, l)) in
      (λ i. lt (next i) (here i)) ∙ s k x a (omega (arith, b, l))
