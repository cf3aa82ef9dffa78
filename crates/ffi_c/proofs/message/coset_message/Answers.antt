use mir.Syntax.{w32}
use mir.Val.{of_z, to_z}
use Rattle.std.proofs.Common.{◌≡◌, ◌∙◌, rules, subst}
use Rattle.ffi_query.specs.Results.{ReturnsWith}
use Rattle.ffi_query.specs.View.{HasNoView, IsMessageView}
use Rattle.ffi_c.specs.Numbers.{bytes_if}
use Rattle.ffi_c.specs.Replies.{reply_status}
use Rattle.ffi_c.specs.Views.{RepliesMessage}
use Rattle.ffi_c.proofs.Replying.{replied}
use Rattle.ffi_c.proofs.message.coset_message.Goals as goal

pub returns-in-Some : goal.returns-in-Some
returns-in-Some c =
    let k = c.in-Some.kind in
    let b = c.args.input.now in
    let i = c.args.index in
    let aad = c.args.external_aad.now in
    let ns = c.args.known.now in
    let d = bytes_if c.args.has_detached c.args.detached.now in
    let answers =
    subst
    (λ x. ReturnsWith k b (IsMessageView k i aad x ns b) (HasNoView k i aad x ns) c.args.out.now c.message_view-answer.new.out
    c.message_view-answer.result)
    c.bytes_if-detached.ensures c.message_view-answer.ensures in
    let status : to_z w32 (of_z w32 c.reply_message.result) ≡ reply_status c.message_view-answer.result = search rules in
    let asked = c.in-Some.ensures ∙ (c.within.ensures ∙ (c.within-query.ensures ∙ c.signer_query-asked.ensures)) in
    replied
    (λ j. RepliesMessage (ReturnsWith j b (IsMessageView j i aad d ns b) (HasNoView j i aad d ns) c.args.out.now c.message_view-answer.new.out)
    (to_z w32 (of_z w32 c.reply_message.result)) c.reply_message.new.len c.reply_message.new.view)
    _ _ k asked (c.message_view-answer.result, answers, status, c.reply_message.ensures.number, c.reply_message.ensures.view)
