use Rattle.std.proofs.Common.{subst}
use Rattle.std.specs.Option.{option_copied}
use Rattle.ffi_query.specs.Results.{ReturnsWith}
use Rattle.ffi_query.specs.Spans.{IsMessageSpans}
use Rattle.ffi_query.specs.View.{HasNoView}
use Rattle.ffi_query.proofs.spans.message_spans.Goals as goal

pub returns-in-Some : goal.returns-in-Some
returns-in-Some c = rw c.in-Some.is at (c.borrowed_spans.ensures c.args.index c.args.known.now)

pub returns : goal.returns
returns c =
    let k = c.args.kind in
    let b = c.args.bytes.now in
    let i = c.args.index in
    let aad = c.args.external_aad.now in
    let d = option_copied c.args.detached in
    let ns = c.args.known.now in
    let same = rw c.in_default.is at (c.borrowed_spans.ensures i ns) in
    subst (λ old. ReturnsWith k b (IsMessageSpans k i aad d ns b) (HasNoView k i aad d ns) old c.copied_texts.new.out c.copied_texts.result) same
    c.copied_texts.ensures
