-- Lists of unequal lengths are not the same.
use Rattle.std.proofs.Common.{◌≡◌, ◌≢◌, List, [], ◌∷◌, length, false, refl, sym, ap, suc}
use Rattle.std.proofs.lemmas.Bool.{and_right}
use Rattle.coset_value.specs.Same.{items_eq, pairs_eq}
use Rattle.coset_value.specs.View.{value_items, value_pairs}
use Rattle.coset_value.specs.declared.value.Value.{Value}

pub items_eq-unequal : (vs ws : List Value) → length vs ≢ length ws → false ≡ items_eq (value_items vs) (value_items ws)
items_eq-unequal [] [] h = absurd (h refl)
items_eq-unequal (v ∷ vs) (w ∷ ws) h = sym (and_right _ _ (sym (items_eq-unequal vs ws (λ e. h (ap suc e)))))
items_eq-unequal vs ws h = refl

pub pairs_eq-unequal : (ps qs : List (Value × Value)) → length ps ≢ length qs → false ≡ pairs_eq (value_pairs ps) (value_pairs qs)
pairs_eq-unequal [] [] h = absurd (h refl)
pairs_eq-unequal (p ∷ ps) (q ∷ qs) h = sym (and_right _ _ (sym (pairs_eq-unequal ps qs (λ e. h (ap suc e)))))
pairs_eq-unequal ps qs h = refl
