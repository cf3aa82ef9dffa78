use Rattle.std.proofs.Common.{false}
use Rattle.ffi_query.proofs.located.bytes_located.Goals as goal

pub returns-in-Some-clause-place : goal.returns-in-Some-clause-place
returns-in-Some-clause-place c = λ b l. c.ending.ensures.place b false l c.in-Some.ensures
