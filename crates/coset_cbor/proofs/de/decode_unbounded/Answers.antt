use Rattle.std.proofs.Common.{sym, arith}
use Rattle.std.proofs.lemmas.Bool.{eqb-true, eqb-false}
use Rattle.coset_cbor.proofs.Encoded.{no_encoding, no_whole_encoding, encoding_read}
use Rattle.coset_cbor.proofs.de.decode_unbounded.Goals as goal

pub returns-then-not-is_empty : goal.returns-then-not-is_empty
returns-then-not-is_empty c = no_whole_encoding c.args.bytes.now c.in-Ok.rest.now _ c.in-Ok.ensures (eqb-false _ 0 (sym c.if-not-is_empty.ensures))

pub returns-in-Err-Fault : goal.returns-in-Err-Fault
returns-in-Err-Fault c =
    let failed = rw c.in-Err-Fault.field-0-is at c.in-Err-Fault.ensures in
    no_encoding c.args.bytes.now c.in-Err-Fault.field-0-0 failed

pub returns-else-not-is_empty : goal.returns-else-not-is_empty
returns-else-not-is_empty c = encoding_read c.args.bytes.now c.in-Ok.rest.now _ (λ i. omega (arith, c.type_inv.bytes i)) c.in-Ok.ensures
    (eqb-true _ 0 (sym c.if-not-is_empty.ensures))
