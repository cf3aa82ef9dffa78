use Rattle.std.proofs.Common.{refl}
use Rattle.coset_cbor.proofs.Ascii.{ascii_on}
use Rattle.coset_cbor.proofs.string.is_ascii.Goals as goal

pub loop-front-preserved : goal.loop-front-preserved
loop-front-preserved c =
    ascii_on 8 c.args.bytes.now c.loop-front.rest.now c.in-Some.front.now c.in-Some.after.now c.in-Some.ensures.cases.0 c.in-Some.ensures.cases.1
    (c.if-not-eight_are_ascii.ensures refl) c.loop-front.invariant

pub returns-then-four_are_ascii : goal.returns-then-four_are_ascii
returns-then-four_are_ascii c = λ few.
    ascii_on 4 c.args.bytes.now c.loop-front.rest.now c.in-Some-split_first_chunk.front.now c.in-Some-split_first_chunk.after.now
    c.in-Some-split_first_chunk.ensures.cases.0 c.in-Some-split_first_chunk.ensures.cases.1
    (c.four_are_ascii.ensures c.if-four_are_ascii.true) c.loop-front.invariant (c.few_are_ascii.ensures few)
