use mir.Syntax.{w32}
use mir.Val.{of_z, to_z}
use Rattle.std.proofs.Common.{◌≡◌, ◌∙◌, rules, subst}
use Rattle.ffi_query.specs.Results.{ReturnsOr}
use Rattle.ffi_query.specs.Structures.{HasNoStructure, IsStructureOnce}
use Rattle.ffi_c.specs.Numbers.{bytes_if}
use Rattle.ffi_c.specs.Replies.{Replies, reply_status}
use Rattle.ffi_c.proofs.Replying.{replied}
use Rattle.ffi_c.proofs.coset_structure.Goals as goal

pub returns-in-Some : goal.returns-in-Some
returns-in-Some c =
    let k = c.in-Some.kind in
    let b = c.args.input.now in
    let i = c.args.index in
    let aad = c.args.external_aad.now in
    let d = bytes_if c.args.has_detached c.args.detached.now in
    let answers =
    subst (λ x. ReturnsOr k b (IsStructureOnce k i aad x) (HasNoStructure k i aad x) c.args.out.now c.structure_of.new.out c.structure_of.result)
    c.bytes_if-detached.ensures c.structure_of.ensures in
    let status : to_z w32 (of_z w32 c.reply.result) ≡ reply_status c.structure_of.result = search rules in
    replied
    (λ j. Replies (ReturnsOr j b (IsStructureOnce j i aad d) (HasNoStructure j i aad d) c.args.out.now c.structure_of.new.out)
    (to_z w32 (of_z w32 c.reply.result)) c.reply.new.place)
    _ _ k (c.in-Some.ensures ∙ (c.within-query.ensures ∙ c.signer_query-asked.ensures)) (c.structure_of.result, answers, status, c.reply.ensures.number)
