use Rattle.std.proofs.Common.{◌∙◌, arith}
use Rattle.tool_spelled.proofs.Dumps.{line_goes_on}
use Rattle.tool_spelled.proofs.Parts.{behind_first}
use Rattle.tool_spelled.proofs.dump.after_line.Goals as goal

pub returns-then-first-eq10-clause-rest : goal.returns-then-first-eq10-clause-rest
returns-then-first-eq10-clause-rest c =
    behind_first c.args.text.now c.loop-first.left.now c.in-Some.rest.now c.in-Some.first.now c.loop-first.invariant.rest c.in-Some.ensures.cases.0

pub loop-first-preserved : goal.loop-first-preserved
loop-first-preserved c =
    let less = c.in-Some.ensures.cases.1 in
    let within = c.loop-first.invariant.shorter in
    record {
      value =
          c.loop-first.invariant.value
          ∙ line_goes_on c.loop-first.left.now c.in-Some.rest.now c.in-Some.first.now c.in-Some.ensures.cases.0 c.if-first-eq10.false;
      rest = behind_first c.args.text.now c.loop-first.left.now c.in-Some.rest.now c.in-Some.first.now c.loop-first.invariant.rest c.in-Some.ensures.cases.0;
      shorter = omega (arith, less, within);
    }
