use Rattle.coset_cbor.proofs.Whole.{one_item_is}
use Rattle.coset_cbor.proofs.pull.Pull.slice.Goals as goal

pub returns-clause-item : goal.returns-clause-item
returns-clause-item c = one_item_is c.args.self.now.bytes.now c.args.self.now.checked
