use Rattle.std.proofs.Common.{◌∷◌, ◌∙◌, ap, sym}
use Rattle.tool_spelled.proofs.PieceSteps.{coded_escape, escaped_literal}
use Rattle.tool_spelled.proofs.literal.behind_backslash.Goals as goal

pub returns-in_default-byte_at_front : goal.returns-in_default-byte_at_front
returns-in_default-byte_at_front c = coded_escape c.args.text.now c.in-Some.digits.now c.byte_at_front.result c.in-Some.ensures c.byte_at_front.ensures

pub returns-in-Some-escape : goal.returns-in-Some-escape
returns-in-Some-escape c =
    escaped_literal (92 ∷ c.args.text.now) c.in-Some-split_first.rest.now c.in-Some-split_first.first.now c.in-Some-escape.byte
    (ap (λ t. 92 ∷ t) c.in-Some-split_first.ensures.cases.0) (sym c.escape.ensures ∙ c.in-Some-escape.is)
