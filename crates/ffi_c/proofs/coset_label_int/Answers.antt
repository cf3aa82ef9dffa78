use mir.Syntax.{w32, w64}
use mir.Val.{of_z, to_z}
use Rattle.std.proofs.Common.{◌≡◌, ◌∙◌, pos, rules, subst}
use Rattle.std.proofs.lemmas.Int.{to_z-of_z}
use Rattle.coset.specs.LabelData.{number}
use Rattle.ffi_query.specs.Results.{ReturnsNumber}
use Rattle.ffi_query.specs.Labels.{HasNoNumber, IsNumberOf}
use Rattle.ffi_c.specs.Replies.{RepliesValue, reply_status}
use Rattle.ffi_c.proofs.Replying.{replied}
use Rattle.ffi_c.proofs.coset_label_int.Goals as goal

pub returns-in-Some : goal.returns-in-Some
returns-in-Some c =
    let k = c.in-Some.kind in
    let m = c.in-Some.map in
    let answers = subst (λ n. ReturnsNumber k c.args.input.now (IsNumberOf k m (number n)) (HasNoNumber k m (number n)) c.integer_of.result)
    (to_z-of_z w64 c.args.label c.ranges.label) c.integer_of.ensures in
    let status : to_z w32 (of_z w32 c.reply_value.result) ≡ reply_status c.integer_of.result = search rules in
    replied
    (λ q. RepliesValue (pos 0) (ReturnsNumber q.0 c.args.input.now (IsNumberOf q.0 q.1 (number c.args.label)) (HasNoNumber q.0 q.1 (number c.args.label)))
    (to_z w32 (of_z w32 c.reply_value.result)) c.reply_value.new.place)
    _ _ (k, m) (c.in-Some.ensures ∙ c.map_query.ensures) (c.integer_of.result, answers, status, c.reply_value.ensures.value)
