use Rattle.std.proofs.Common.{◌∙◌, length, sym}
use Rattle.tool_spelled.proofs.Numbers.{in_hexadecimal, not_empty}
use Rattle.tool_spelled.proofs.array.hexadecimal.Goals as goal

pub returns : goal.returns
returns c =
    in_hexadecimal c.args.digits.now c.in_ok-behind.behind.now c.in_ok-x.rest.now c.in_ok-x.x.now c.number.result c.in_ok-behind.ensures
    c.in_ok-x.ensures.cases.0 (sym c.is_x.ensures ∙ c.if-not-is_x.false)
    (not_empty (length c.in_ok-x.rest.now) (sym c.is_empty.ensures ∙ c.if-is_empty.false)) c.number.ensures
