use Rattle.std.proofs.Common.{◌∙◌, ap, false, sym}
use Rattle.coset.specs.Pulls.{pull_bytes, pull_item}
use Rattle.ffi_query.specs.Located.{opens_chunks}
use Rattle.ffi_query.proofs.Locating.{chunk_found}
use Rattle.ffi_query.proofs.located.only_bytes.Goals as goal

pub returns : goal.returns
returns c =
    let closed = sym (ap (opens_chunks false) c.slice.ensures.bytes) ∙ (sym c.opens_chunks.ensures ∙ c.if-opens_chunks.false) in
    chunk_found (pull_bytes c.args.item) (pull_item c.args.item) c.in_ok-chunks.chunks c.next.new.self c.next.result
    c.in_ok-chunks.ensures.chunks closed c.in_ok-chunks.ensures.whole c.next.ensures.steps
