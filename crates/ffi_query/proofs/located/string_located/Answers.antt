use Rattle.std.proofs.Common.{false, true}
use Rattle.ffi_query.proofs.located.string_located.Goals as goal

pub returns-in-Some-clause-place : goal.returns-in-Some-clause-place
returns-in-Some-clause-place c = λ b l. c.ending.ensures.place b false l c.in-Some.ensures

pub returns-in-Some-only_text-clause-place : goal.returns-in-Some-only_text-clause-place
returns-in-Some-only_text-clause-place c = λ b l. c.ending-in-Some-only_text.ensures.place b true l c.in-Some-only_text.ensures
