use mir.Syntax.{w32}
use mir.Val.{of_z, to_z}
use Rattle.std.proofs.Common.{◌≡◌, ◌∙◌, rules, subst}
use Rattle.ffi_query.specs.Results.{ReturnsWith}
use Rattle.ffi_query.specs.Spans.{IsMessageSpans}
use Rattle.ffi_query.specs.View.{HasNoView}
use Rattle.ffi_c.specs.Numbers.{bytes_if}
use Rattle.ffi_c.specs.Replies.{reply_status}
use Rattle.ffi_c.specs.SpansNumbers.{RepliesSpans}
use Rattle.ffi_c.proofs.Replying.{replied}
use Rattle.ffi_c.proofs.spans.coset_message_spans.Goals as goal

pub returns-in-Some : goal.returns-in-Some
returns-in-Some c =
    let k = c.in-Some.kind in
    let b = c.args.input.now in
    let i = c.args.index in
    let aad = c.args.external_aad.now in
    let ns = c.args.known.now in
    let d = bytes_if c.args.has_detached c.args.detached.now in
    let answers =
    subst (λ x. ReturnsWith k b (IsMessageSpans k i aad x ns b) (HasNoView k i aad x ns) c.args.out.now c.message_spans-answer.new.out
    c.message_spans-answer.result)
    c.bytes_if-detached.ensures c.message_spans-answer.ensures in
    let status : to_z w32 (of_z w32 c.reply_spans.result) ≡ reply_status c.message_spans-answer.result = search rules in
    let asked = c.in-Some.ensures ∙ (c.within.ensures ∙ (c.within-query.ensures ∙ c.signer_query-asked.ensures)) in
    replied
    (λ j. RepliesSpans (ReturnsWith j b (IsMessageSpans j i aad d ns b) (HasNoView j i aad d ns) c.args.out.now c.message_spans-answer.new.out)
    (to_z w32 (of_z w32 c.reply_spans.result)) c.reply_spans.new.len c.reply_spans.new.spans)
    _ _ k asked (c.message_spans-answer.result, answers, status, c.reply_spans.ensures.number, c.reply_spans.ensures.view)
