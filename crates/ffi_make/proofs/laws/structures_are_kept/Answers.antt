use Rattle.ffi_make.proofs.Keeping.{recipient_structure_kept, structure_kept}
use Rattle.ffi_make.proofs.laws.structures_are_kept.Goals as goal

pub returns-clause-kept : goal.returns-clause-kept
returns-clause-kept c = structure_kept

pub returns-clause-recipient : goal.returns-clause-recipient
returns-clause-recipient c = recipient_structure_kept
