use Rattle.std.proofs.Common.{arith}
use Rattle.coset_cbor.proofs.Ascii.{four_ascii}
use Rattle.coset_cbor.proofs.string.four_are_ascii.Goals as goal

pub returns : goal.returns
returns c = λ _. four_ascii c.args.bytes.now (omega arith) (omega arith)
