use Rattle.ffi_query.proofs.EachKind.{check_refused}
use Rattle.ffi_query.proofs.found.check.Goals as goal

pub returns-then-is_message : goal.returns-then-is_message
returns-then-is_message c = c.is_message.ensures c.if-is_message.true

pub returns-in_err-find_decoded : goal.returns-in_err-find_decoded
returns-in_err-find_decoded c =
    check_refused c.args.kind c.args.bytes.now c.in_err-find_decoded.field-0.0 c.from_residual.result c.from_residual.ensures.1 c.in_err-find_decoded.ensures

pub returns : goal.returns
returns c = c.in_ok-find_decoded.ensures.is_item.is_of
