use Rattle.tool_spelled.proofs.Parts.{behind_first}
use Rattle.tool_spelled.proofs.part.without_front.Goals as goal

pub loop-first-preserved : goal.loop-first-preserved
loop-first-preserved c =
    behind_first c.args.text.now c.loop-first.left.now c.in-Some.rest.now c.in-Some.first.now c.loop-first.invariant c.in-Some.ensures.cases.0
