use Rattle.tool_fault.proofs.unexpected.describe_none.Goals as goal

pub returns-in_default-error : goal.returns-in_default-error
returns-in_default-error g c = λ _. (c.in-Some.ensures c.in_default-error.not-OutOfMemory).1
