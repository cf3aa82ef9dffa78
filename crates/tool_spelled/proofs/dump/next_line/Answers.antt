use Rattle.std.proofs.Common.{◌+◌}
use Rattle.tool_spelled.specs.Pieces.{ArePieces}
use Rattle.tool_spelled.specs.declared.pieces.Format.TheVariants.{Hexadecimal}
use Rattle.tool_spelled.proofs.Dumps.{line_read}
use Rattle.tool_spelled.proofs.dump.next_line.Goals as goal

pub returns-in-Ok-clause-spelled : goal.returns-in-Ok-clause-spelled
returns-in-Ok-clause-spelled c =
    let spelled : ArePieces Hexadecimal c.line_of-line.result.fields.now c.in-Ok.bytes.items =
    rw c.in-Ok.is at c.in_ok-bytes.ensures.spelled in
    line_read c.args.radix (c.args.first + c.args.count) c.args.text.now c.line_of-line.result.offset.now c.line_of-line.result.fields.now
    c.line_of-line.result.side.now c.line_of-line.result.rest.now c.in-Ok.bytes.items c.line_of-line.ensures.parts c.line_of-line.ensures.behind
    (c.line_of-line.ensures.shorter c.requires.text) (c.is_next.ensures c.if-not-is_next.false) spelled
