use Rattle.std.proofs.Common.{inl}
use Rattle.tool_notation.proofs.Heads.{simple_in}
use Rattle.tool_notation.proofs.word.word.Goals as goal

pub returns-in-Some : goal.returns-in-Some
returns-in-Some c = (_, c.in_ok-push_head.ensures, simple_in c.in-Some.number (inl c.in-Some.ensures))
