use Rattle.coset_cbor.proofs.Between.{array_content, no_array}
use Rattle.coset_cbor.proofs.pull.Pull.items.Goals as goal

pub returns-in_err-rest : goal.returns-in_err-rest
returns-in_err-rest c = rw c.from_residual.ensures (record
    { items = no_array c.args.self.now.bytes.now c.args.self.now.checked c.in_err-rest.ensures; bytes = tt })

pub invariant_of-result : goal.invariant_of-result
invariant_of-result c = record { checked = (array_content c.args.self.now.bytes.now c.in_ok-rest.rest.now c.args.self.now.checked c.in_ok-rest.ensures).one }

pub returns : goal.returns
returns c =
    let is = array_content c.args.self.now.bytes.now c.in_ok-rest.rest.now c.args.self.now.checked c.in_ok-rest.ensures in
    record { items = is.view; bytes = is.held }
