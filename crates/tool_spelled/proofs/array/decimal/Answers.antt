use Rattle.std.proofs.Common.{◌∙◌, length, sym}
use Rattle.tool_spelled.proofs.Numbers.{in_decimal, not_empty}
use Rattle.tool_spelled.proofs.array.decimal.Goals as goal

pub returns : goal.returns
returns c =
    in_decimal c.args.digits.now c.number.result (not_empty (length c.args.digits.now) (sym c.is_empty.ensures ∙ c.if-is_empty.false)) c.number.ensures
