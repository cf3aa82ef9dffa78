use Rattle.std.proofs.lemmas.Result.{on_ok_weaker}
use Rattle.tool_notation.proofs.Heads.{float_in}
use Rattle.tool_notation.proofs.float.push_float.Goals as goal

pub returns-in-Some : goal.returns-in-Some
returns-in-Some c =
    on_ok_weaker c.push_head.result (λ e. (_, e, float_in c.in-Some.width c.in-Some.bits c.in-Some.ensures.1 c.in-Some.ensures.0)) c.push_head.ensures
