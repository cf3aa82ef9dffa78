use Rattle.std.proofs.Common.{◌≡◌, length}
use Rattle.std.specs.Iterator.Adapters.{zip_first, zip_second}
use Rattle.std.specs.Slice.Iter.{iter_rest}
use Rattle.coset_value.specs.Same.{items_eq, pairs_eq}
use Rattle.coset_value.specs.View.{value_items, value_pairs}
use Rattle.coset_value.proofs.value.+same.Given as goal

-- The remaining parts of both lists have the same length, and are equal exactly when the whole lists are.
abbrev pub invariant-same_items-loop-v : goal.invariant-same_items-loop-v
invariant-same_items-loop-v l =
    let vs = iter_rest (zip_first l.v-iterator) in
    let ws = iter_rest (zip_second l.v-iterator) in
    (length vs ≡ length ws) × (items_eq (value_items vs) (value_items ws) ≡ items_eq (value_items l.vs) (value_items l.ws))

abbrev pub invariant-same_pairs-loop-j : goal.invariant-same_pairs-loop-j
invariant-same_pairs-loop-j l =
    let ps = iter_rest (zip_first l.j-iterator) in
    let qs = iter_rest (zip_second l.j-iterator) in
    (length ps ≡ length qs) × (pairs_eq (value_pairs ps) (value_pairs qs) ≡ pairs_eq (value_pairs l.ps) (value_pairs l.qs))
