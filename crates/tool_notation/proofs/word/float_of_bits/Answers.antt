use Rattle.std.proofs.Common.{arith}
use Rattle.tool_notation.proofs.Heads.{float_in}
use Rattle.tool_notation.proofs.word.float_of_bits.Goals as goal

pub returns : goal.returns
returns c = (_, c.in_ok-push_head.ensures, float_in c.in-Some.width c.loop-byte.bits c.in-Some.ensures (omega arith))
