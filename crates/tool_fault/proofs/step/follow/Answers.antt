use Rattle.std.proofs.Common.{List, take, sym, subst}
use Rattle.std.proofs.lemmas.List.{take_more}
use Rattle.tool_fault.specs.Steps.{PathTo}
use Rattle.tool_fault.specs.declared.step.Step.{Step}
use Rattle.tool_fault.proofs.Leading.{leads_on}
use Rattle.tool_fault.proofs.step.follow.Goals as goal

pub loop-step-preserved : goal.loop-step-preserved
loop-step-preserved c =
    subst (λ (ss : List Step). PathTo ss c.args.bytes.now c.in_ok-offset.offset c.in_ok-before.part.now)
    (sym (take_more c.args.steps.now c.loop-step.step-index _ c.loop-step-test.true))
    (leads_on (take c.loop-step.step-index c.args.steps.now) _ c.args.bytes.now c.loop-step.rest.now c.in_ok-before.part.now c.loop-step.offset
    c.in_ok-before.before c.in_ok-offset.offset c.loop-step.invariant c.in_ok-before.ensures c.in_ok-offset.ensures.1)
