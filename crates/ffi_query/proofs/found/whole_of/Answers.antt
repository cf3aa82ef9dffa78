use Rattle.coset.specs.Results.{IsOnlyItem}
use Rattle.coset.specs.Pulls.{pull_item}
use Rattle.ffi_query.specs.Kinds.{IsRefused}
use Rattle.ffi_query.proofs.EachKind.{not_whole, refuses}
use Rattle.ffi_query.proofs.found.whole_of.Goals as goal

pub returns-in_err-check_by_decoding-clause-whole : goal.returns-in_err-check_by_decoding-clause-whole
returns-in_err-check_by_decoding-clause-whole c =
    let k = c.args.kind in
    let b = c.args.bytes.now in
    refuses (λ p. IsOnlyItem b (pull_item p)) (IsRefused k b) c.in_err-check_by_decoding.field-0.0 c.from_residual.result c.from_residual.ensures.1
    c.in_err-check_by_decoding.ensures

pub returns-in_err-whole_item-clause-whole : goal.returns-in_err-whole_item-clause-whole
returns-in_err-whole_item-clause-whole c =
    let k = c.args.kind in
    let b = c.args.bytes.now in
    let e = c.in_err-whole_item.field-0.0 in
    refuses (λ p. IsOnlyItem b (pull_item p)) (IsRefused k b) e c.from_residual-in_err-whole_item.result c.from_residual-in_err-whole_item.ensures.1
    (not_whole k b e c.in_ok-check_by_decoding.ensures c.in_err-whole_item.ensures.whole c.in_err-whole_item.ensures.memory)
