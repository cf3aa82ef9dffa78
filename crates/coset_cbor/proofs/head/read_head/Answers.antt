use Rattle.std.proofs.Common.{refl, rules, arith}
use Rattle.coset_cbor.proofs.ReadHeads.{head_found, head_ends, head_bad}
use Rattle.coset_cbor.proofs.head.read_head.Goals as goal

pub returns-in-Ok : goal.returns-in-Ok
returns-in-Ok c =
    head_found c.args.bytes.now c.in-Ok.head c.in-Ok.rest.now (λ i. omega (arith, c.type_inv.bytes i)) c.in-Ok.ensures.fits c.in-Ok.ensures.head

pub returns-in-Err-End : goal.returns-in-Err-End
returns-in-Err-End c = head_ends c.args.bytes.now (search rules)

pub returns-in-Err : goal.returns-in-Err
returns-in-Err c = (refl, head_bad c.args.bytes.now c.in-Err.field-0 (λ e. search rules) c.in-Err.ensures.head)
