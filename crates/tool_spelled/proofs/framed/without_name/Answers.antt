use Rattle.tool_spelled.proofs.Parts.{behind_both}
use Rattle.tool_spelled.proofs.framed.without_name.Goals as goal

pub returns-in-Some : goal.returns-in-Some
returns-in-Some c = behind_both c.args.text.now c.in-Some.rest.now c.without_front.result.now c.in-Some.ensures c.without_front.ensures
