use Rattle.tool_spelled.proofs.PieceSteps.{behind_prefix}
use Rattle.tool_spelled.proofs.hexadecimal.front.Goals as goal

pub returns-in_default-byte_at_front : goal.returns-in_default-byte_at_front
returns-in_default-byte_at_front c =
    behind_prefix c.args.text.now c.without_prefix-digits.result.now c.byte_at_front.result c.without_prefix-digits.ensures c.byte_at_front.ensures
