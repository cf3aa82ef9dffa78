use mir.Syntax.{w32, w64}
use mir.Val.{of_z, to_z}
use Rattle.std.proofs.Common.{◌≡◌, ◌∙◌, Some, rules, subst}
use Rattle.std.proofs.lemmas.Int.{to_z-of_z}
use Rattle.ffi_query.specs.Results.{ReturnsOr}
use Rattle.ffi_query.specs.Countersigns.{HasNoCountersigned, IsCountersigned}
use Rattle.ffi_c.specs.Numbers.{bytes_if, countersign_query}
use Rattle.ffi_c.specs.Replies.{Replies, reply_status}
use Rattle.ffi_c.proofs.Replying.{replied}
use Rattle.ffi_c.proofs.countersign.coset_countersign_structure.Goals as goal

pub returns-in-Some : goal.returns-in-Some
returns-in-Some c =
    let k = c.in-Some.kind in
    let x = c.in-Some.countersignature in
    let b = c.args.input.now in
    let q = c.args.signer.now in
    let aad = c.args.external_aad.now in
    let d = bytes_if c.args.has_detached c.args.detached.now in
    let asked =
    subst (λ l. Some (k, x) ≡ countersign_query c.args.kind l c.args.has_detached c.args.detached.now) (to_z-of_z w64 c.args.label c.ranges.label)
    (c.in-Some.ensures ∙ (c.within.ensures ∙ (c.within-query.ensures ∙ c.countersign_query.ensures))) in
    let answers =
    subst
    (λ y. ReturnsOr k b (IsCountersigned k x q aad y) (HasNoCountersigned k x q aad y) c.args.out.now c.countersign_structure_of.new.out
    c.countersign_structure_of.result)
    c.bytes_if-detached.ensures c.countersign_structure_of.ensures in
    let status : to_z w32 (of_z w32 c.reply.result) ≡ reply_status c.countersign_structure_of.result = search rules in
    replied
    (λ p. Replies
    (ReturnsOr p.0 b (IsCountersigned p.0 p.1 q aad d) (HasNoCountersigned p.0 p.1 q aad d) c.args.out.now c.countersign_structure_of.new.out)
    (to_z w32 (of_z w32 c.reply.result)) c.reply.new.place)
    _ _ (k, x) asked (c.countersign_structure_of.result, answers, status, c.reply.ensures.number)
