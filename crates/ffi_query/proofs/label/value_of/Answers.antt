use Rattle.coset.specs.Pulls.{pull_item}
use Rattle.ffi_query.specs.Labels.{IsValueOf, label_view}
use Rattle.ffi_query.proofs.Answering.{answered}
use Rattle.ffi_query.proofs.label.value_of.Goals as goal

pub returns-in-Ok : goal.returns-in-Ok
returns-in-Ok c =
    let k = c.args.kind in
    answered (λ b. b.items) k c.args.bytes.now c.args.out.now c.write_found.new.out (IsValueOf k c.args.map (label_view c.args.label)) (pull_item c.in-Ok.item)
    c.find_encoding.result c.write_found.result c.in-Ok.ensures c.find_encoding.ensures.found c.find_encoding.ensures.memory c.write_found.ensures
