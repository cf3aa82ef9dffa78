use Rattle.std.proofs.Common.{ap, arith, length, length-append, ◌∙◌}
use Rattle.tool_spelled.proofs.PieceSteps.{one_gap, one_piece, pieces_to_end}
use Rattle.tool_spelled.proofs.pieces.bytes.Goals as goal

pub returns-in-End-clause-spelled : goal.returns-in-End-clause-spelled
returns-in-End-clause-spelled c =
    pieces_to_end c.args.format c.args.text.now c.loop-bytes.left.now c.loop-bytes.bytes.items c.in-End.ensures c.loop-bytes.invariant.0

pub loop-bytes-preserved-in-Between : goal.loop-bytes-preserved-in-Between
loop-bytes-preserved-in-Between c =
    let found = c.in-Between.ensures in
    let count = ap length found.1 in
    let within = c.loop-bytes.invariant.1 in (
      one_gap c.args.format c.args.text.now c.loop-bytes.left.now c.in-Between.rest.now c.loop-bytes.bytes.items found.0 found.1 found.2
          c.loop-bytes.invariant.0,
      grind (arith, count, within),
    )

pub loop-bytes-preserved : goal.loop-bytes-preserved
loop-bytes-preserved c =
    let found = c.in-Byte.ensures in
    let count = ap length found.1 ∙ length-append found.0 c.in-Byte.rest.now in
    let within = c.loop-bytes.invariant.1 in (
      one_piece c.args.format c.args.text.now c.loop-bytes.left.now c.in-Byte.rest.now c.loop-bytes.bytes.items c.push.new.self.items found.0 c.in-Byte.byte
          found.1 found.2 c.in_ok-push-in-Byte.ensures.items c.loop-bytes.invariant.0,
      omega (arith, count, within),
    )
