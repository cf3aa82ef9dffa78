use Rattle.tool_fault.proofs.Members.{passes_none, passes_one}
use Rattle.tool_fault.proofs.step.skip.Goals as goal

pub loop-init : goal.loop-init
loop-init c = passes_none c.args.bytes.now

pub loop-preserved : goal.loop-preserved
loop-preserved c =
    passes_one c.args.bytes.now c.loop.counter c.loop.rest.now _ c.in-Ok.behind.now _ c.loop.invariant c.in-Ok.ensures.found.1.0 c.in-Ok.ensures.found.0
