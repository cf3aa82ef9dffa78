use Rattle.ffi_make.proofs.Keeping.{recipient_structure_of_made}
use Rattle.ffi_make.proofs.laws.recipient_structure_of_made.Goals as goal

pub returns : goal.returns
returns c = recipient_structure_of_made
