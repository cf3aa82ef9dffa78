use Rattle.std.proofs.Common.{arith}
use Rattle.tool_fault.proofs.Leading.{leads_within}
use Rattle.tool_fault.proofs.place.fault_at.Goals as goal

pub returns-then-branch-2-clause-within : goal.returns-then-branch-2-clause-within
returns-then-branch-2-clause-within c =
    omega (arith, leads_within c.args.steps.now c.args.bytes.now c.in-Some.rest.now c.in-Some.offset c.in-Some.ensures)
