use Rattle.coset_cbor.proofs.Between.{map_content, no_map}
use Rattle.coset_cbor.proofs.pull.Pull.pairs.Goals as goal

pub returns-in_err-rest : goal.returns-in_err-rest
returns-in_err-rest c = rw c.from_residual.ensures (record
    { pairs = no_map c.args.self.now.bytes.now c.args.self.now.checked c.in_err-rest.ensures; bytes = tt })

pub invariant_of-result : goal.invariant_of-result
invariant_of-result c = record { checked = (map_content c.args.self.now.bytes.now c.in_ok-rest.rest.now c.args.self.now.checked c.in_ok-rest.ensures).one }

pub returns : goal.returns
returns c =
    let is = map_content c.args.self.now.bytes.now c.in_ok-rest.rest.now c.args.self.now.checked c.in_ok-rest.ensures in
    record { pairs = is.view; bytes = is.held }
