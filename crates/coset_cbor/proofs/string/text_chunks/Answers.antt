use Rattle.coset_cbor.specs.declared.fault.ReadError.TheVariants as errors
use Rattle.std.proofs.Common.{ℕ, List, ◌++◌, ◌∷◌, [], length, drop, string_bytes, sym, ap, ◌∙◌, refl}
use Rattle.std.specs.Prelude.{true}
use Rattle.std.proofs.lemmas.Result.{err_from_is_err_and}
use Rattle.coset_cbor.specs.Reading.{until_at, chunk_at, chunks_at}
use Rattle.coset_cbor.proofs.Loops.{until_on, until_fails, until_stops, until_ends, joined_chunks-push, joins, fails_joined}
use Rattle.coset_cbor.proofs.string.text_chunks.Goals as goal

pub returns-in-Some : goal.returns-in-Some
unfolding chunks_at
returns-in-Some c =
    let i = c.loop.invariant in
    let done = until_stops (chunk_at true) i.0 (length c.args.bytes.now) c.loop.counter c.loop.rest.now
    (until_at (chunk_at true) (length c.args.bytes.now) c.args.bytes.now) c.loop-test.true c.in-Some.ensures.0 i.2 in
    joins _ i.0 (drop 1 c.loop.rest.now) (string_bytes c.loop.joined) c.in-Some.end.now done i.1 (sym c.in-Some.ensures.1)

pub returns-in_err-chunk : goal.returns-in_err-chunk
unfolding chunks_at
returns-in_err-chunk c =
    let i = c.loop.invariant in
    let p = err_from_is_err_and c.from_residual.result c.from_residual.ensures.1 in
    rw (p.1, p.2) (fails_joined (errors.Fault c.in_err-chunk.field-0.0) _
    (until_fails (chunk_at true) (errors.Fault c.in_err-chunk.field-0.0) i.0 (length c.args.bytes.now) c.loop.counter c.loop.rest.now
    (until_at (chunk_at true) (length c.args.bytes.now) c.args.bytes.now) c.loop-test.true c.in_default.ensures c.in_err-chunk.ensures i.2))

pub loop-preserved : goal.loop-preserved
loop-preserved c =
    let i = c.loop.invariant in
    let part = c.in_ok-chunk.chunk.now in (
      i.0 ++ part ∷ [],
      joined_chunks-push i.0 part ∙ ap (λ (s : List ℕ). s ++ part) i.1 ∙ sym c.in_ok-push_str.ensures.bytes,
      until_on (chunk_at true) i.0 (length c.args.bytes.now) c.loop.counter c.loop.rest.now part c.in_ok-chunk.after.now
          (until_at (chunk_at true) (length c.args.bytes.now) c.args.bytes.now) c.loop-test.true c.in_default.ensures c.in_ok-chunk.ensures i.2,
    )

pub returns : goal.returns
unfolding chunks_at
returns c =
    let i = c.loop.invariant in
    let ended = until_ends (chunk_at true) i.0 (length c.args.bytes.now) c.loop.counter c.loop.rest.now
    (until_at (chunk_at true) (length c.args.bytes.now) c.args.bytes.now) c.loop-test.false i.2 in
    rw ended refl
