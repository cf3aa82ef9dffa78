use mir.Syntax.{w32}
use mir.Val.{of_z, to_z}
use Rattle.std.proofs.Common.{◌≡◌, ◌∙◌, ap, rules}
use Rattle.ffi_c.specs.Replies.{length_of, reply_status}
use Rattle.ffi_c.proofs.Replying.{same_status}
use Rattle.ffi_c.proofs.sign1.reply_view.Goals as goal

pub returns-clause-status : goal.returns-clause-status
returns-clause-status c =
    let status : to_z w32 (of_z w32 c.reply.result) ≡ reply_status c.texts_len.result = search rules in
    status ∙ (ap reply_status c.texts_len.ensures ∙ same_status c.args.answer)

pub returns-clause-number : goal.returns-clause-number
returns-clause-number c = c.reply.ensures.number ∙ ap length_of c.texts_len.ensures
