use mir.Syntax.{w32, w64}
use mir.Val.{of_z, to_z}
use Rattle.std.proofs.Common.{◌≡◌, ◌∙◌, rules, subst}
use Rattle.std.proofs.lemmas.Int.{to_z-of_z}
use Rattle.coset.specs.LabelData.{number}
use Rattle.ffi_make.specs.Given.{a_string}
use Rattle.ffi_make.specs.PairsMade.{PutsPair}
use Rattle.ffi_c.specs.Replies.{Replies, reply_status}
use Rattle.ffi_c.proofs.Replying.{replied}
use Rattle.ffi_c.proofs.making.coset_put_bytes.Goals as goal

pub returns-in-Some : goal.returns-in-Some
returns-in-Some c =
    let k = c.in-Some.kind in
    let answers = subst (λ n. PutsPair k c.args.input.now (number n) (a_string c.args.value.now) c.args.out.now c.put.new.out c.put.result)
    (to_z-of_z w64 c.args.label c.ranges.label) c.put.ensures in
    let status : to_z w32 (of_z w32 c.reply.result) ≡ reply_status c.put.result = search rules in
    replied
    (λ j. Replies (PutsPair j c.args.input.now (number c.args.label) (a_string c.args.value.now) c.args.out.now c.put.new.out)
    (to_z w32 (of_z w32 c.reply.result)) c.reply.new.place)
    _ _ k (c.in-Some.ensures ∙ (c.within.ensures ∙ c.kind_of.ensures)) (c.put.result, answers, status, c.reply.ensures.number)
