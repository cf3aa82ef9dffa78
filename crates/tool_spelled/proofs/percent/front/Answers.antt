use Rattle.std.proofs.Common.{◌∙◌, sym}
use Rattle.tool_spelled.proofs.PieceSteps.{coded_byte, plain_percent}
use Rattle.tool_spelled.proofs.percent.front.Goals as goal

pub returns-in_default-byte_at_front : goal.returns-in_default-byte_at_front
returns-in_default-byte_at_front c = coded_byte c.args.text.now c.in-Some.digits.now c.byte_at_front.result c.in-Some.ensures c.byte_at_front.ensures

pub returns-then-is_of_url : goal.returns-then-is_of_url
returns-then-is_of_url c =
    plain_percent c.args.text.now c.in-Some-split_first.rest.now c.in-Some-split_first.plain.now c.in-Some-split_first.ensures.cases.0
    (sym c.is_of_url.ensures ∙ c.if-is_of_url.true)
