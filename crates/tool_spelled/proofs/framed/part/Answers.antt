use Rattle.tool_spelled.proofs.Parts.{whole}
use Rattle.tool_spelled.proofs.framed.part.Goals as goal

pub returns : goal.returns
returns c = whole c.args.text.now
