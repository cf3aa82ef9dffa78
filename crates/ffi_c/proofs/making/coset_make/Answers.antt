use mir.Syntax.{w32}
use mir.Val.{of_z, to_z}
use Rattle.std.proofs.Common.{◌≡◌, ◌∙◌, rules, subst}
use Rattle.ffi_make.specs.Messages.{MakesMessage}
use Rattle.ffi_c.specs.Numbers.{bytes_if}
use Rattle.ffi_c.specs.Replies.{Replies, reply_status}
use Rattle.ffi_c.proofs.Replying.{replied}
use Rattle.ffi_c.proofs.making.coset_make.Goals as goal

pub returns-in-Some : goal.returns-in-Some
returns-in-Some c =
    let k = c.in-Some.kind in
    let p = c.args.protected.now in
    let u = c.args.unprotected.now in
    let s = c.args.proof.now in
    let answers = subst (λ d. MakesMessage k p u d s c.args.out.now c.make.new.out c.make.result) c.bytes_if-content.ensures c.make.ensures in
    let status : to_z w32 (of_z w32 c.reply.result) ≡ reply_status c.make.result = search rules in
    let asked = c.in-Some.ensures ∙ (c.within.ensures ∙ (c.within-query.ensures ∙ c.content_query.ensures)) in
    replied
    (λ j. Replies (MakesMessage j p u (bytes_if c.args.has_content c.args.content.now) s c.args.out.now c.make.new.out)
    (to_z w32 (of_z w32 c.reply.result)) c.reply.new.place)
    _ _ k asked (c.make.result, answers, status, c.reply.ensures.number)
