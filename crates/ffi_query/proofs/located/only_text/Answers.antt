use Rattle.std.proofs.Common.{◌∙◌, ◌∷◌, ap, sym, true}
use Rattle.coset.specs.Chunks.{text_chunks_left}
use Rattle.coset.specs.Pulls.{pull_bytes, pull_item}
use Rattle.ffi_query.specs.Located.{opens_chunks}
use Rattle.ffi_query.proofs.Locating.{string_is}
use Rattle.ffi_query.proofs.located.only_text.Goals as goal

pub returns-in-Some : goal.returns-in-Some
returns-in-Some c =
    let closed = sym (ap (opens_chunks true) c.slice.ensures.bytes) ∙ (sym c.opens_chunks.ensures ∙ c.if-opens_chunks.false) in
    let more = text_chunks_left c.next.new.self in
    let first = c.in-Some.ensures.steps.0 ∙ ap (λ x. x ∷ more) (sym c.as_bytes.ensures.value) in
    string_is true (pull_bytes c.args.item) c.as_bytes.result.now (pull_item c.args.item) (text_chunks_left c.in_ok-chunks.chunks) more
    c.in_ok-chunks.ensures.chunks closed first c.in_ok-chunks.ensures.whole
