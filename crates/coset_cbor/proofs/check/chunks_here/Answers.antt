use Rattle.std.proofs.Common.{ℕ, ◌+◌, length, sym, ap, ◌∙◌}
use Rattle.std.proofs.lemmas.Result.{err_from_is_err_and}
use Rattle.coset_cbor.specs.Reading.{until_at, chunk_at}
use Rattle.coset_cbor.specs.Counting.{left_of, until_steps, chunk_steps}
use Rattle.coset_cbor.proofs.Passing.{rest_is, until_goes, until_fails, until_stops, until_ends}
use Rattle.coset_cbor.proofs.check.chunks_here.Goals as goal

pub returns-in-Some : goal.returns-in-Some
returns-in-Some g c =
    let h = until_stops (chunk_at c.args.is_text) (chunk_steps c.args.is_text)
    (left_of (until_at (chunk_at c.args.is_text) (length c.args.bytes.now) c.args.bytes.now))
    (c.args.steps.now + until_steps (chunk_at c.args.is_text) (chunk_steps c.args.is_text)
    (length c.args.bytes.now) c.args.bytes.now) c.loop.steps c.skip_break.new.steps
    (length c.args.bytes.now) c.loop.counter c.loop.rest.now c.loop-test.true c.in-Some.ensures.0 c.in-Some.ensures.2 c.loop.invariant in
    record { left = h.0 ∙ ap rest_is (sym c.in-Some.ensures.1); steps = h.1 }

pub returns-in_err-rest : goal.returns-in_err-rest
returns-in_err-rest g c =
    let p = err_from_is_err_and c.from_residual.result c.from_residual.ensures.1 in
    let h = until_fails (chunk_at c.args.is_text) (chunk_steps c.args.is_text)
    (left_of (until_at (chunk_at c.args.is_text) (length c.args.bytes.now) c.args.bytes.now))
    (c.args.steps.now + until_steps (chunk_at c.args.is_text) (chunk_steps c.args.is_text)
    (length c.args.bytes.now) c.args.bytes.now) c.loop.steps c.chunk.new.steps
    (length c.args.bytes.now) c.loop.counter c.loop.rest.now c.in_err-rest.field-0.0 c.loop-test.true c.in_default.ensures.0 c.in_err-rest.ensures.left
    (c.in_err-rest.ensures.steps ∙ ap (λ (n : ℕ). n + chunk_steps c.args.is_text c.loop.rest.now) c.in_default.ensures.1) c.loop.invariant in
    record { left = rw (p.1, p.2) (h.0); steps = h.1 }

pub loop-preserved : goal.loop-preserved
loop-preserved g c =
    until_goes (chunk_at c.args.is_text) (chunk_steps c.args.is_text) (left_of (until_at (chunk_at c.args.is_text) (length c.args.bytes.now) c.args.bytes.now))
    (c.args.steps.now + until_steps (chunk_at c.args.is_text) (chunk_steps c.args.is_text)
    (length c.args.bytes.now) c.args.bytes.now) c.loop.steps c.chunk.new.steps
    (length c.args.bytes.now) c.loop.counter c.loop.rest.now c.in_ok-rest.rest.now c.loop-test.true c.in_default.ensures.0 c.in_ok-rest.ensures.left
    (c.in_ok-rest.ensures.steps ∙ ap (λ (n : ℕ). n + chunk_steps c.args.is_text c.loop.rest.now) c.in_default.ensures.1) c.loop.invariant

pub returns : goal.returns
returns g c =
    let h = until_ends (chunk_at c.args.is_text) (chunk_steps c.args.is_text)
    (left_of (until_at (chunk_at c.args.is_text) (length c.args.bytes.now) c.args.bytes.now))
    (c.args.steps.now + until_steps (chunk_at c.args.is_text) (chunk_steps c.args.is_text) (length c.args.bytes.now) c.args.bytes.now) c.loop.steps
    (length c.args.bytes.now) c.loop.counter c.loop.rest.now c.loop-test.false c.loop.invariant in
    record { left = h.0; steps = h.1 }
