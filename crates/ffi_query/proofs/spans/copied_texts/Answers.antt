use Rattle.std.proofs.Common.{sym, subst}
use Rattle.std.specs.Option.{option_copied}
use Rattle.ffi_query.specs.Results.{ReturnsWith}
use Rattle.ffi_query.specs.Spans.{IsMessageSpans}
use Rattle.ffi_query.specs.View.{HasNoView}
use Rattle.ffi_query.proofs.Spanning.{copied_answered}
use Rattle.ffi_query.proofs.spans.copied_texts.Goals as goal

pub returns : goal.returns
returns c =
    let k = c.args.kind in
    let b = c.args.bytes.now in
    let i = c.args.index in
    let aad = c.args.external_aad.now in
    let d = option_copied c.args.detached in
    let ns = c.args.known.now in
    subst (ReturnsWith k b (IsMessageSpans k i aad d ns b) (HasNoView k i aad d ns) c.args.out.now c.view_of.new.out) (sym c.copied.ensures)
    (copied_answered k i aad d ns b c.args.out.now c.view_of.new.out (HasNoView k i aad d ns) c.view_of.result (c.view_of.ensures b c.in-Ok.ensures))
