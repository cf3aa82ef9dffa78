use Rattle.std.proofs.Common.{ℕ, ◌+◌, length, sym, ap, ◌∙◌, arith}
use Rattle.std.proofs.lemmas.Result.{err_from_is_err_and}
use Rattle.coset_cbor.specs.Reading.{head_from, times_at, until_at, pair_at, item_at}
use Rattle.coset_cbor.specs.Counting.{left_of, times_steps, until_steps, pair_steps, item_steps}
use Rattle.coset_cbor.proofs.Passing.{rest_is, pair_fails, pair_steps_left, times_goes, times_fails, times_end, until_goes, until_fails, until_stops}
use Rattle.coset_cbor.proofs.Passing.{until_ends, array_passes, map_passes}
use Rattle.coset_cbor.proofs.check.+check.Goals as goal

pub items-returns-in_err-rest : goal.items-returns-in_err-rest
items-returns-in_err-rest g t c =
    let p = err_from_is_err_and c.from_residual.result c.from_residual.ensures.1 in
    let h = times_fails (item_at c.args.depth) (item_steps c.args.depth) (left_of (times_at (item_at c.args.depth) c.args.count c.args.bytes.now))
    (c.args.steps.now + times_steps (item_at c.args.depth)
    (item_steps c.args.depth) c.args.count c.args.bytes.now) c.loop.steps c.item.new.steps c.args.count c.loop.counter c.loop.rest.now
    c.in_err-rest.field-0.0 c.loop-test.true c.in_err-rest.ensures.left c.in_err-rest.ensures.steps c.loop.invariant in
    record { left = rw (p.1, p.2) (h.0); steps = h.1 }

pub items-loop-preserved : goal.items-loop-preserved
items-loop-preserved g t c =
    times_goes (item_at c.args.depth) (item_steps c.args.depth) (left_of (times_at (item_at c.args.depth) c.args.count c.args.bytes.now))
    (c.args.steps.now + times_steps (item_at c.args.depth)
    (item_steps c.args.depth) c.args.count c.args.bytes.now) c.loop.steps c.item.new.steps c.args.count c.loop.counter c.loop.rest.now c.in_ok-rest.rest.now
    c.loop-test.true c.in_ok-rest.ensures.left c.in_ok-rest.ensures.steps c.loop.invariant

pub items-returns : goal.items-returns
items-returns g t c =
    let h = times_end (item_at c.args.depth) (item_steps c.args.depth) (left_of (times_at (item_at c.args.depth) c.args.count c.args.bytes.now))
    (c.args.steps.now + times_steps (item_at c.args.depth)
    (item_steps c.args.depth) c.args.count c.args.bytes.now) c.loop.steps c.args.count c.loop.counter c.loop.rest.now c.loop-test.false c.loop.invariant in
    record { left = h.0; steps = h.1 }

pub items_until-returns-in-Some : goal.items_until-returns-in-Some
items_until-returns-in-Some g t c =
    let h = until_stops (item_at c.args.depth) (item_steps c.args.depth) (left_of (until_at (item_at c.args.depth) (length c.args.bytes.now) c.args.bytes.now))
    (c.args.steps.now + until_steps (item_at c.args.depth) (item_steps c.args.depth)
    (length c.args.bytes.now) c.args.bytes.now) c.loop.steps c.skip_break.new.steps
    (length c.args.bytes.now) c.loop.counter c.loop.rest.now c.loop-test.true c.in-Some.ensures.0 c.in-Some.ensures.2 c.loop.invariant in
    record { left = h.0 ∙ ap rest_is (sym c.in-Some.ensures.1); steps = h.1 }

pub items_until-returns-in_err-rest : goal.items_until-returns-in_err-rest
items_until-returns-in_err-rest g t c =
    let p = err_from_is_err_and c.from_residual.result c.from_residual.ensures.1 in
    let h = until_fails (item_at c.args.depth) (item_steps c.args.depth) (left_of (until_at (item_at c.args.depth) (length c.args.bytes.now) c.args.bytes.now))
    (c.args.steps.now + until_steps (item_at c.args.depth) (item_steps c.args.depth)
    (length c.args.bytes.now) c.args.bytes.now) c.loop.steps c.item.new.steps
    (length c.args.bytes.now) c.loop.counter c.loop.rest.now c.in_err-rest.field-0.0 c.loop-test.true c.in_default.ensures.0 c.in_err-rest.ensures.left
    (c.in_err-rest.ensures.steps ∙ ap (λ (n : ℕ). n + item_steps c.args.depth c.loop.rest.now) c.in_default.ensures.1) c.loop.invariant in
    record { left = rw (p.1, p.2) (h.0); steps = h.1 }

pub items_until-loop-preserved : goal.items_until-loop-preserved
items_until-loop-preserved g t c =
    until_goes (item_at c.args.depth) (item_steps c.args.depth) (left_of (until_at (item_at c.args.depth) (length c.args.bytes.now) c.args.bytes.now))
    (c.args.steps.now + until_steps (item_at c.args.depth) (item_steps c.args.depth)
    (length c.args.bytes.now) c.args.bytes.now) c.loop.steps c.item.new.steps
    (length c.args.bytes.now) c.loop.counter c.loop.rest.now c.in_ok-rest.rest.now c.loop-test.true c.in_default.ensures.0 c.in_ok-rest.ensures.left
    (c.in_ok-rest.ensures.steps ∙ ap (λ (n : ℕ). n + item_steps c.args.depth c.loop.rest.now) c.in_default.ensures.1) c.loop.invariant

pub items_until-returns : goal.items_until-returns
items_until-returns g t c =
    let h = until_ends (item_at c.args.depth) (item_steps c.args.depth) (left_of (until_at (item_at c.args.depth) (length c.args.bytes.now) c.args.bytes.now))
    (c.args.steps.now + until_steps (item_at c.args.depth) (item_steps c.args.depth) (length c.args.bytes.now) c.args.bytes.now) c.loop.steps
    (length c.args.bytes.now) c.loop.counter c.loop.rest.now c.loop-test.false c.loop.invariant in
    record { left = h.0; steps = h.1 }

pub pairs-returns-in_err-rest : goal.pairs-returns-in_err-rest
pairs-returns-in_err-rest g t c =
    let p = err_from_is_err_and c.from_residual.result c.from_residual.ensures.1 in
    let h = times_fails (pair_at (item_at c.args.depth)) (pair_steps (item_at c.args.depth) (item_steps c.args.depth))
    (left_of (times_at (pair_at (item_at c.args.depth)) c.args.count c.args.bytes.now))
    (c.args.steps.now + times_steps (pair_at (item_at c.args.depth))
    (pair_steps (item_at c.args.depth) (item_steps c.args.depth)) c.args.count c.args.bytes.now) c.loop.steps c.pair.new.steps c.args.count c.loop.counter
    c.loop.rest.now c.in_err-rest.field-0.0 c.loop-test.true c.in_err-rest.ensures.left c.in_err-rest.ensures.steps c.loop.invariant in
    record { left = rw (p.1, p.2) (h.0); steps = h.1 }

pub pairs-loop-preserved : goal.pairs-loop-preserved
pairs-loop-preserved g t c =
    times_goes (pair_at (item_at c.args.depth)) (pair_steps (item_at c.args.depth) (item_steps c.args.depth))
    (left_of (times_at (pair_at (item_at c.args.depth)) c.args.count c.args.bytes.now))
    (c.args.steps.now + times_steps (pair_at (item_at c.args.depth))
    (pair_steps (item_at c.args.depth) (item_steps c.args.depth)) c.args.count c.args.bytes.now) c.loop.steps c.pair.new.steps c.args.count c.loop.counter
    c.loop.rest.now c.in_ok-rest.rest.now c.loop-test.true c.in_ok-rest.ensures.left c.in_ok-rest.ensures.steps c.loop.invariant

pub pairs-returns : goal.pairs-returns
pairs-returns g t c =
    let h = times_end (pair_at (item_at c.args.depth)) (pair_steps (item_at c.args.depth) (item_steps c.args.depth))
    (left_of (times_at (pair_at (item_at c.args.depth)) c.args.count c.args.bytes.now))
    (c.args.steps.now + times_steps (pair_at (item_at c.args.depth))
    (pair_steps (item_at c.args.depth) (item_steps c.args.depth)) c.args.count c.args.bytes.now) c.loop.steps c.args.count c.loop.counter c.loop.rest.now
    c.loop-test.false c.loop.invariant in
    record { left = h.0; steps = h.1 }

pub pairs_until-returns-in-Some : goal.pairs_until-returns-in-Some
pairs_until-returns-in-Some g t c =
    let h = until_stops (pair_at (item_at c.args.depth)) (pair_steps (item_at c.args.depth) (item_steps c.args.depth))
    (left_of (until_at (pair_at (item_at c.args.depth)) (length c.args.bytes.now) c.args.bytes.now))
    (c.args.steps.now + until_steps (pair_at (item_at c.args.depth)) (pair_steps (item_at c.args.depth) (item_steps c.args.depth))
    (length c.args.bytes.now) c.args.bytes.now) c.loop.steps c.skip_break.new.steps
    (length c.args.bytes.now) c.loop.counter c.loop.rest.now c.loop-test.true c.in-Some.ensures.0 c.in-Some.ensures.2 c.loop.invariant in
    record { left = h.0 ∙ ap rest_is (sym c.in-Some.ensures.1); steps = h.1 }

pub pairs_until-returns-in_err-rest : goal.pairs_until-returns-in_err-rest
pairs_until-returns-in_err-rest g t c =
    let p = err_from_is_err_and c.from_residual.result c.from_residual.ensures.1 in
    let h = until_fails (pair_at (item_at c.args.depth)) (pair_steps (item_at c.args.depth) (item_steps c.args.depth))
    (left_of (until_at (pair_at (item_at c.args.depth)) (length c.args.bytes.now) c.args.bytes.now))
    (c.args.steps.now + until_steps (pair_at (item_at c.args.depth)) (pair_steps (item_at c.args.depth) (item_steps c.args.depth))
    (length c.args.bytes.now) c.args.bytes.now) c.loop.steps c.pair.new.steps
    (length c.args.bytes.now) c.loop.counter c.loop.rest.now c.in_err-rest.field-0.0 c.loop-test.true c.in_default.ensures.0 c.in_err-rest.ensures.left
    (c.in_err-rest.ensures.steps ∙ ap (λ (n : ℕ). n
    + pair_steps (item_at c.args.depth) (item_steps c.args.depth) c.loop.rest.now) c.in_default.ensures.1) c.loop.invariant in
    record { left = rw (p.1, p.2) (h.0); steps = h.1 }

pub pairs_until-loop-preserved : goal.pairs_until-loop-preserved
pairs_until-loop-preserved g t c =
    until_goes (pair_at (item_at c.args.depth)) (pair_steps (item_at c.args.depth) (item_steps c.args.depth))
    (left_of (until_at (pair_at (item_at c.args.depth)) (length c.args.bytes.now) c.args.bytes.now))
    (c.args.steps.now + until_steps (pair_at (item_at c.args.depth)) (pair_steps (item_at c.args.depth) (item_steps c.args.depth))
    (length c.args.bytes.now) c.args.bytes.now) c.loop.steps c.pair.new.steps
    (length c.args.bytes.now) c.loop.counter c.loop.rest.now c.in_ok-rest.rest.now c.loop-test.true c.in_default.ensures.0 c.in_ok-rest.ensures.left
    (c.in_ok-rest.ensures.steps ∙ ap (λ (n : ℕ). n
    + pair_steps (item_at c.args.depth) (item_steps c.args.depth) c.loop.rest.now) c.in_default.ensures.1) c.loop.invariant

pub pairs_until-returns : goal.pairs_until-returns
pairs_until-returns g t c =
    let h = until_ends (pair_at (item_at c.args.depth)) (pair_steps (item_at c.args.depth) (item_steps c.args.depth))
    (left_of (until_at (pair_at (item_at c.args.depth)) (length c.args.bytes.now) c.args.bytes.now))
    (c.args.steps.now + until_steps (pair_at (item_at c.args.depth)) (pair_steps (item_at c.args.depth) (item_steps c.args.depth))
    (length c.args.bytes.now) c.args.bytes.now) c.loop.steps (length c.args.bytes.now) c.loop.counter c.loop.rest.now c.loop-test.false c.loop.invariant in
    record { left = h.0; steps = h.1 }

pub pair-returns-in_err-rest-clause-steps : goal.pair-returns-in_err-rest-clause-steps
pair-returns-in_err-rest-clause-steps g t c = pair_fails (item_at c.args.depth)
    (item_steps c.args.depth) c.args.steps.now c.item.new.steps c.args.bytes.now c.in_err-rest.field-0.0 c.in_err-rest.ensures.left c.in_err-rest.ensures.steps

pub pair-returns-clause-steps : goal.pair-returns-clause-steps
pair-returns-clause-steps g t c = pair_steps_left (item_at c.args.depth)
    (item_steps c.args.depth) c.args.steps.now c.item.new.steps c.item-2.new.steps c.args.bytes.now c.in_ok-rest.rest.now c.in_ok-rest.ensures.left
    c.in_ok-rest.ensures.steps c.item-2.ensures.steps

pub item-returns-else-depth-eq0-clause-left : goal.item-returns-else-depth-eq0-clause-left
item-returns-else-depth-eq0-clause-left g t c =
    array_passes c.array.result c.args.depth c.args.bytes.now (head_from c.in_ok-head.head, c.in_ok-head.rest.now) c.number-in-Array.result
    (omega arith) c.in_ok-head.ensures.head c.in-Array.is c.number-in-Array.ensures c.array.ensures.left

pub item-returns-else-depth-eq0-2-clause-left : goal.item-returns-else-depth-eq0-2-clause-left
item-returns-else-depth-eq0-2-clause-left g t c =
    map_passes c.map.result c.args.depth c.args.bytes.now (head_from c.in_ok-head.head, c.in_ok-head.rest.now) c.number-in-Map.result
    (omega arith) c.in_ok-head.ensures.head c.in-Map.is c.number-in-Map.ensures c.map.ensures.left
