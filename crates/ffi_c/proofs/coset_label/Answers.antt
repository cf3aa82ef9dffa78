use mir.Syntax.{w32, w64}
use mir.Val.{of_z, to_z}
use Rattle.std.proofs.Common.{◌≡◌, ◌∙◌, rules, subst}
use Rattle.std.proofs.lemmas.Int.{to_z-of_z}
use Rattle.coset.specs.LabelData.{number}
use Rattle.ffi_query.specs.Results.{Answers}
use Rattle.ffi_query.specs.Labels.{IsValueOf}
use Rattle.ffi_c.specs.Replies.{Replies, reply_status}
use Rattle.ffi_c.proofs.Replying.{replied}
use Rattle.ffi_c.proofs.coset_label.Goals as goal

pub returns-in-Some : goal.returns-in-Some
returns-in-Some c =
    let k = c.in-Some.kind in
    let m = c.in-Some.map in
    let answers = subst (λ n. Answers k c.args.input.now (IsValueOf k m (number n)) c.args.out.now c.value_of.new.out c.value_of.result)
    (to_z-of_z w64 c.args.label c.ranges.label) c.value_of.ensures in
    let status : to_z w32 (of_z w32 c.reply.result) ≡ reply_status c.value_of.result = search rules in
    replied
    (λ q. Replies (Answers q.0 c.args.input.now (IsValueOf q.0 q.1 (number c.args.label)) c.args.out.now c.value_of.new.out)
    (to_z w32 (of_z w32 c.reply.result)) c.reply.new.place)
    _ _ (k, m) (c.in-Some.ensures ∙ c.map_query.ensures) (c.value_of.result, answers, status, c.reply.ensures.number)
