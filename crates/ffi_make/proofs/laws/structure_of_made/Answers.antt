use Rattle.ffi_make.proofs.Agreeing.{structure_of_made}
use Rattle.ffi_make.proofs.laws.structure_of_made.Goals as goal

pub returns : goal.returns
returns c = structure_of_made
