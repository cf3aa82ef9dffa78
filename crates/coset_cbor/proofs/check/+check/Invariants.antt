use Rattle.std.proofs.Common.{◌-◌, ◌+◌, ◌*◌, length}
use Rattle.coset_cbor.specs.Reading.{times_at, until_at, pair_at, item_at}
use Rattle.coset_cbor.specs.Counting.{left_of, times_steps, until_steps, pair_steps, item_steps}
use Rattle.coset_cbor.proofs.Passing.{InTimes, InUntil}
use Rattle.coset_cbor.proofs.check.+check.Given as goal

abbrev pub decreases-item : goal.decreases-item
decreases-item g l = 6 * l.depth

abbrev pub decreases-pair : goal.decreases-pair
decreases-pair g l = 6 * l.depth + 1

abbrev pub decreases-enclosed_item_apart : goal.decreases-enclosed_item_apart
decreases-enclosed_item_apart g l = 6 * l.depth + 1

abbrev pub decreases-enclosed_item : goal.decreases-enclosed_item
decreases-enclosed_item g l = 6 * l.depth + 2

abbrev pub decreases-items : goal.decreases-items
decreases-items g l = 6 * l.depth + 2

abbrev pub decreases-items_until : goal.decreases-items_until
decreases-items_until g l = 6 * l.depth + 2

abbrev pub decreases-pairs : goal.decreases-pairs
decreases-pairs g l = 6 * l.depth + 2

abbrev pub decreases-pairs_until : goal.decreases-pairs_until
decreases-pairs_until g l = 6 * l.depth + 2

abbrev pub decreases-array_here : goal.decreases-array_here
decreases-array_here g l = 6 * l.depth + 3

abbrev pub decreases-array_apart : goal.decreases-array_apart
decreases-array_apart g l = 6 * l.depth + 4

abbrev pub decreases-array : goal.decreases-array
decreases-array g l = 6 * l.depth + 5

abbrev pub decreases-map_here : goal.decreases-map_here
decreases-map_here g l = 6 * l.depth + 3

abbrev pub decreases-map_apart : goal.decreases-map_apart
decreases-map_apart g l = 6 * l.depth + 4

abbrev pub decreases-map : goal.decreases-map
decreases-map g l = 6 * l.depth + 5

abbrev pub invariant-items-loop : goal.invariant-items-loop
invariant-items-loop g l =
    InTimes (item_at l.depth) (item_steps l.depth) (left_of (times_at (item_at l.depth) l.count l.bytes))
    (l.initial.steps + times_steps (item_at l.depth) (item_steps l.depth) l.count l.bytes) l.steps (l.count - l.counter) l.rest

abbrev pub invariant-items_until-loop : goal.invariant-items_until-loop
invariant-items_until-loop g l =
    InUntil (item_at l.depth) (item_steps l.depth) (left_of (until_at (item_at l.depth) (length l.bytes) l.bytes))
    (l.initial.steps + until_steps (item_at l.depth) (item_steps l.depth) (length l.bytes) l.bytes) l.steps (l.end - l.counter) l.rest

abbrev pub invariant-pairs-loop : goal.invariant-pairs-loop
invariant-pairs-loop g l =
    let one = pair_at (item_at l.depth) in
    let steps = pair_steps (item_at l.depth) (item_steps l.depth) in
    InTimes one steps (left_of (times_at one l.count l.bytes)) (l.initial.steps + times_steps one steps l.count l.bytes) l.steps (l.count - l.counter) l.rest

abbrev pub invariant-pairs_until-loop : goal.invariant-pairs_until-loop
invariant-pairs_until-loop g l =
    let one = pair_at (item_at l.depth) in
    let steps = pair_steps (item_at l.depth) (item_steps l.depth) in
    InUntil one steps (left_of (until_at one (length l.bytes) l.bytes)) (l.initial.steps + until_steps one steps (length l.bytes) l.bytes) l.steps
    (l.end - l.counter) l.rest
