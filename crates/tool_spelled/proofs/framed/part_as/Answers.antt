use Rattle.tool_spelled.proofs.Parts.{whole}
use Rattle.tool_spelled.proofs.framed.part_as.Goals as goal

pub returns-in-Dump : goal.returns-in-Dump
returns-in-Dump c = whole c.args.text.now
