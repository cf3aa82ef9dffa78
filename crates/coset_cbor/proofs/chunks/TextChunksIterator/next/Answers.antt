use Rattle.std.proofs.Common.{ap, length, arith}
use Rattle.std.specs.Prelude.{true}
use Rattle.coset_cbor.proofs.Chunking.{next_chunk, no_chunk}
use Rattle.coset_cbor.proofs.chunks.TextChunksIterator.next.Goals as goal

pub returns-in_default-clause-steps : goal.returns-in_default-clause-steps
returns-in_default-clause-steps c = let none = no_chunk true c.args.self.now.bytes.now c.in_default.field-0 c.args.self.now.checked c.in_default.ensures in
    (none, none)

pub invariant_of-self : goal.invariant_of-self
invariant_of-self c =
    let next = next_chunk true c.args.self.now.bytes.now c.in-Ok.chunk.now c.in-Ok.rest.now c.args.self.now.checked c.in-Ok.ensures in
    record { checked = next.chunks; counted = next.counted }

pub returns-clause-steps : goal.returns-clause-steps
returns-clause-steps c =
    let next = next_chunk true c.args.self.now.bytes.now c.in-Ok.chunk.now c.in-Ok.rest.now c.args.self.now.checked c.in-Ok.ensures in
    (next.contents, next.headed)

pub returns-clause-goes : goal.returns-clause-goes
returns-clause-goes c =
    let fewer = ap length (next_chunk true c.args.self.now.bytes.now c.in-Ok.chunk.now c.in-Ok.rest.now c.args.self.now.checked c.in-Ok.ensures).contents in
    record { on = λ f. (tt, f, omega arith); keeps = tt; rests = λ f. tt }
