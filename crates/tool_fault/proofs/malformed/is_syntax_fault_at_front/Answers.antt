use Rattle.std.proofs.Common.{subst}
use Rattle.std.proofs.lemmas.Bool.{eqb-true}
use Rattle.coset.specs.EndOfFile.{EndOfFile}
use Rattle.coset.specs.Error.{Error}
use Rattle.coset.specs.ReadErrors.{FaultIn}
use Rattle.tool_fault.proofs.Faults.{front_syntax}
use Rattle.tool_fault.proofs.malformed.is_syntax_fault_at_front.Goals as goal

pub returns-in-Syntax : goal.returns-in-Syntax
returns-in-Syntax c = λ at_front.
    front_syntax c.args.bytes.now c.in-Syntax.offset (eqb-true _ _ at_front)
    (subst (λ (e : Error EndOfFile). FaultIn c.args.bytes.now e) c.in-Syntax.is c.in-Err.ensures.fault)
