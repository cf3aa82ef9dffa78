use Rattle.std.proofs.Common.{◌≡◌, ◌-◌, ◌+◌, ◌*◌, map, length}
use Rattle.coset_cbor.specs.Reading.{times_at, until_at, pair_at, item_at}
use Rattle.coset_value.specs.View.{value_item, value_pair}
use Rattle.coset_cbor.proofs.Loops.{with_front}
use Rattle.coset_cbor.proofs.read.+item.Given as goal

abbrev pub decreases-item : goal.decreases-item
decreases-item l = 4 * l.depth

abbrev pub decreases-pair : goal.decreases-pair
decreases-pair l = 4 * l.depth + 1

abbrev pub decreases-items : goal.decreases-items
decreases-items l = 4 * l.depth + 2

abbrev pub decreases-items_until : goal.decreases-items_until
decreases-items_until l = 4 * l.depth + 2

abbrev pub decreases-pairs : goal.decreases-pairs
decreases-pairs l = 4 * l.depth + 2

abbrev pub decreases-pairs_until : goal.decreases-pairs_until
decreases-pairs_until l = 4 * l.depth + 2

abbrev pub decreases-array : goal.decreases-array
decreases-array l = 4 * l.depth + 3

abbrev pub decreases-map : goal.decreases-map
decreases-map l = 4 * l.depth + 3

abbrev pub invariant-items-loop : goal.invariant-items-loop
invariant-items-loop l = with_front (map value_item l.found.items) (times_at (item_at l.depth) (l.count - l.counter) l.rest)
    ≡ times_at (item_at l.depth) l.count l.bytes

abbrev pub invariant-items_until-loop : goal.invariant-items_until-loop
invariant-items_until-loop l = with_front (map value_item l.found.items) (until_at (item_at l.depth) (l.end - l.counter) l.rest)
    ≡ until_at (item_at l.depth) (length l.bytes) l.bytes

abbrev pub invariant-pairs-loop : goal.invariant-pairs-loop
invariant-pairs-loop l = with_front (map value_pair l.found.items) (times_at (pair_at (item_at l.depth)) (l.count - l.counter) l.rest)
    ≡ times_at (pair_at (item_at l.depth)) l.count l.bytes

abbrev pub invariant-pairs_until-loop : goal.invariant-pairs_until-loop
invariant-pairs_until-loop l = with_front (map value_pair l.found.items) (until_at (pair_at (item_at l.depth)) (l.end - l.counter) l.rest)
    ≡ until_at (pair_at (item_at l.depth)) (length l.bytes) l.bytes
