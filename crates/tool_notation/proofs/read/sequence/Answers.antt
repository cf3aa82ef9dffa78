use Rattle.tool_notation.proofs.Steps.{next_item}
use Rattle.tool_notation.proofs.read.sequence.Goals as goal

pub loop-preserved : goal.loop-preserved
loop-preserved c = next_item c.loop.out.items c.item-in-loop.new.out.items c.loop.invariant c.in_ok-item-2.ensures
