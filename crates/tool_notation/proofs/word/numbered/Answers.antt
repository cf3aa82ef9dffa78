use Rattle.tool_notation.proofs.Heads.{simple_in}
use Rattle.tool_notation.proofs.word.numbered.Goals as goal

pub returns-in-41 : goal.returns-in-41
returns-in-41 c = (_, c.in_ok-push_head.ensures, simple_in c.in-Some.value c.in-Some.ensures)
