use Rattle.tool_spelled.proofs.Parts.{between}
use Rattle.tool_spelled.proofs.framed.quoted.Goals as goal

pub returns : goal.returns
returns c =
    between c.args.text.now c.in_ok-inner.inner.now c.in_ok-found.found.now _ _ c.in_ok-inner.ensures.cases.1 c.in_ok-inner.ensures.cases.2
    c.in_ok-found.ensures.cases.1
