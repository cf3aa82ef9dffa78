use Rattle.coset_cbor.proofs.Whole.{one_item_value, one_item_no_fault}
use Rattle.coset_cbor.proofs.pull.Pull.to_value.Goals as goal

pub unreachable-requires : goal.unreachable-requires
unreachable-requires c =
    let failed = rw c.in-Err-Fault.field-0-is at c.in-Err-Fault.ensures in
    one_item_no_fault c.args.self.now.bytes.now c.in-Err-Fault.field-0-0 c.args.self.now.checked failed

pub returns-in-Ok : goal.returns-in-Ok
returns-in-Ok c = one_item_value c.args.self.now.bytes.now _ c.in-Ok.field-0-1.now c.args.self.now.checked c.in-Ok.ensures
