use Rattle.std.proofs.Common.{arith}
use Rattle.coset_cbor.proofs.Ascii.{eight_ascii}
use Rattle.coset_cbor.proofs.string.eight_are_ascii.Goals as goal

pub returns : goal.returns
returns c = λ _. eight_ascii c.args.bytes.now (omega arith) (omega arith)
