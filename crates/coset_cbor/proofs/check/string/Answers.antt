use Rattle.std.proofs.Common.{ℕ, Option, length, ap, ◌∙◌}
use Rattle.coset_cbor.specs.Reading.{any_string_by, until_at, chunk_at}
use Rattle.coset_cbor.specs.Counting.{left_of}
use Rattle.coset_cbor.proofs.Passing.{chunks_left, passes_same}
use Rattle.coset_cbor.proofs.check.string.Goals as goal

pub returns-in-None-clause-left : goal.returns-in-None-clause-left
returns-in-None-clause-left g c =
    let s = c.args.bytes.now in
    passes_same c.chunks.result (until_at (chunk_at c.args.is_text) (length s) s) (any_string_by c.args.is_text c.args.left c.args.count s)
    (ap (λ (o : Option ℕ). left_of (any_string_by c.args.is_text c.args.left o s)) c.in-None.is ∙ chunks_left c.args.is_text s) c.chunks.ensures.left
