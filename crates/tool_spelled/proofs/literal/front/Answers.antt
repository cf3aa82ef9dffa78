use Rattle.std.proofs.Common.{◌∙◌, sym}
use Rattle.tool_spelled.proofs.PieceSteps.{plain_literal}
use Rattle.tool_spelled.proofs.literal.front.Goals as goal

pub returns-then-is_plain : goal.returns-then-is_plain
returns-then-is_plain c =
    plain_literal c.args.text.now c.in-Some-split_first.rest.now c.in-Some-split_first.plain.now c.in-Some-split_first.ensures.cases.0
    (sym c.is_plain.ensures ∙ c.if-is_plain.true)
