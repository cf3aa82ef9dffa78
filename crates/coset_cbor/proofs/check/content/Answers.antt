use Rattle.std.proofs.Common.{arith}
use Rattle.coset_cbor.proofs.Passing.{no_content}
use Rattle.coset_cbor.proofs.check.content.Goals as goal

pub returns-else-is_text-clause-steps : goal.returns-else-is_text-clause-steps
returns-else-is_text-clause-steps g c =
    let none = no_content c.args.is_text c.args.left c.args.count c.args.bytes.now c.if-is_text.false in
    omega arith
