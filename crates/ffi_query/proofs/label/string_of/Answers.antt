use Rattle.coset.specs.Pulls.{pull_item}
use Rattle.coset.specs.View.{value_item}
use Rattle.ffi_query.specs.Labels.{label_view}
use Rattle.ffi_query.proofs.Answering.{string_answered}
use Rattle.ffi_query.proofs.label.string_of.Goals as goal

pub returns-in-Ok : goal.returns-in-Ok
returns-in-Ok c =
    string_answered value_item c.args.kind c.args.bytes.now c.args.out.now c.write_string.new.out c.args.map (label_view c.args.label)
    (pull_item c.in-Ok.item) c.find_value.result c.write_string.result c.in-Ok.ensures c.find_value.ensures.value c.find_value.ensures.memory
    c.write_string.ensures
