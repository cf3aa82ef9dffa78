use Rattle.ffi_query.specs.Found.{IsFound}
use Rattle.ffi_query.specs.Kinds.{IsRefused}
use Rattle.ffi_query.proofs.EachKind.{refuses}
use Rattle.ffi_query.proofs.found.find_item.Goals as goal

pub returns-in_err-item : goal.returns-in_err-item
returns-in_err-item c =
    let k = c.args.kind in
    let b = c.args.bytes.now in
    refuses (IsFound k b) (IsRefused k b) c.in_err-item.field-0.0 c.from_residual.result c.from_residual.ensures.1 c.in_err-item.ensures.whole

pub returns-then-is_message : goal.returns-then-is_message
returns-then-is_message c =
    c.found_in.ensures.found c.in_ok-item.ensures.whole c.in_ok-item.ensures.bytes (c.is_message.ensures c.if-is_message.true)
