-- The views of the iterators over the elements of a borrowed array or map.
use Rattle.std.specs.Prelude.{◌≡◌, ℕ, List, ◌++◌, Option, MatchOption}
use Rattle.coset_value.specs.Item.{Items, no_items, item, Pairs, no_pairs, pair}
use Rattle.coset_cbor.specs.declared.pull.Pull.{Pull}
use Rattle.coset_cbor.specs.declared.elements.Items as lent_items
use Rattle.coset_cbor.specs.declared.elements.Pairs as lent_pairs
use Rattle.coset_cbor.specs.Pulls.{pull_bytes, pull_item}
use Rattle.coset_cbor.specs.Between.{items_in, pairs_in}

-- The remaining bytes of an array's elements.
abbrev pub items_bytes : lent_items.Items → List ℕ
items_bytes it = it.rest.now

-- The remaining bytes of a map's pairs.
abbrev pub pairs_bytes : lent_pairs.Pairs → List ℕ
pairs_bytes it = it.rest.now

-- The remaining elements. The remaining bytes encode these and no others (the law `borrowed_elements`).
abbrev pub items_left : lent_items.Items → Items
items_left it = items_in it.rest.now

-- The remaining pairs. The remaining bytes encode these, each key before its value, and no others (the law
-- `borrowed_elements`).
abbrev pub pairs_left : lent_pairs.Pairs → Pairs
pairs_left it = pairs_in it.rest.now

-- A call returned the first remaining item, and the other items remain. The bytes of the returned item came first. Or
-- the call returned `None`, and no item remained before or after it.
abbrev pub YieldsItem : lent_items.Items → Option Pull → lent_items.Items → Type 0
YieldsItem old r new = MatchOption r ((items_left old ≡ no_items) × (items_left new ≡ no_items)) (λ p.
    (items_left old ≡ item (pull_item p) (items_left new)) × (items_bytes old ≡ pull_bytes p ++ items_bytes new))

-- A call returned the first remaining pair, and the other pairs remain. The bytes of the returned pair came first, the
-- key's before the value's. Or the call returned `None`, and no pair remained before or after it.
abbrev pub YieldsPair : lent_pairs.Pairs → Option (Pull × Pull) → lent_pairs.Pairs → Type 0
YieldsPair old r new = MatchOption r ((pairs_left old ≡ no_pairs) × (pairs_left new ≡ no_pairs)) (λ p.
    (pairs_left old ≡ pair (pull_item p.0) (pull_item p.1) (pairs_left new)) × (pairs_bytes old ≡ pull_bytes p.0 ++ (pull_bytes p.1 ++ pairs_bytes new)))
