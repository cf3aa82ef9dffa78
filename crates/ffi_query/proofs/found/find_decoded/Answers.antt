use Rattle.coset.specs.Pulls.{pull_item}
use Rattle.ffi_query.specs.Found.{IsFound}
use Rattle.ffi_query.specs.Kinds.{IsRefused}
use Rattle.ffi_query.proofs.EachKind.{refuses}
use Rattle.ffi_query.proofs.found.find_decoded.Goals as goal

pub returns-in_err-item : goal.returns-in_err-item
returns-in_err-item c =
    let k = c.args.kind in
    let b = c.args.bytes.now in
    refuses (IsFound k b) (IsRefused k b) c.in_err-item.field-0.0 c.from_residual.result c.from_residual.ensures.1 c.in_err-item.ensures.whole

pub returns-in_err-check_item : goal.returns-in_err-check_item
returns-in_err-check_item c =
    let k = c.args.kind in
    let b = c.args.bytes.now in
    let found = c.found_in-found.ensures in
    refuses (IsFound k b) (IsRefused k b) c.in_err-check_item.field-0.0 c.from_residual-in_err-check_item.result c.from_residual-in_err-check_item.ensures.1
    (c.in_err-check_item.ensures (pull_item c.in_ok-item.item) c.in_ok-item.ensures.whole found.item found.tag)

pub returns : goal.returns
returns c =
    let only = c.in_ok-item.ensures.whole in
    let found = c.found_in-found.ensures in
    found.found only c.in_ok-item.ensures.bytes (c.in_ok-check_item.ensures (pull_item c.in_ok-item.item) only found.item found.tag)
