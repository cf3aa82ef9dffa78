use Rattle.std.proofs.Common.{refl}
use Rattle.std.specs.Option.{option_copied}
use Rattle.ffi_query.specs.View.{HasNoView}
use Rattle.ffi_query.proofs.EachKind.{memory_refuses}
use Rattle.ffi_query.proofs.Viewed.{lent_viewed}
use Rattle.ffi_query.proofs.message.message_view.Goals as goal

pub returns-in-Ok-Some : goal.returns-in-Ok-Some
returns-in-Ok-Some c =
    let k = c.args.kind in
    let i = c.args.index in
    let aad = c.args.external_aad.now in
    let d = option_copied c.args.detached in
    let ns = c.args.known.now in
    let lent = rw c.in-Ok-Some.field-0-is at (c.in-Ok-Some.ensures.lent i ns) in
    lent_viewed k i aad d ns c.args.bytes.now c.args.out.now c.put_view.new.out (HasNoView k i aad d ns) c.in-Ok-Some.lent c.put_view.result lent
    c.put_view.ensures

pub returns-in-Ok : goal.returns-in-Ok
returns-in-Ok c = c.view_of.ensures c.args.bytes.now c.in-Ok.ensures

pub returns-in-Err : goal.returns-in-Err
returns-in-Err c = (memory_refuses c.args.kind c.args.bytes.now c.in-Err.error c.in-Err.ensures.memory, refl)
