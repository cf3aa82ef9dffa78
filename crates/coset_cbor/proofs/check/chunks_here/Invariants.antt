use Rattle.std.proofs.Common.{◌+◌, ◌-◌, length}
use Rattle.coset_cbor.specs.Reading.{until_at, chunk_at}
use Rattle.coset_cbor.specs.Counting.{left_of, chunk_steps, until_steps}
use Rattle.coset_cbor.proofs.Passing.{InUntil}
use Rattle.coset_cbor.proofs.check.chunks_here.Given as goal

abbrev pub invariant-loop : goal.invariant-loop
invariant-loop g l =
    InUntil (chunk_at l.is_text) (chunk_steps l.is_text) (left_of (until_at (chunk_at l.is_text) (length l.bytes) l.bytes))
    (l.initial.steps + until_steps (chunk_at l.is_text) (chunk_steps l.is_text) (length l.bytes) l.bytes) l.steps (l.end - l.counter) l.rest
