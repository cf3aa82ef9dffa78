use Rattle.ffi_make.proofs.Agreeing.{made_unsigned, signature_added, structure_of_signer}
use Rattle.ffi_make.proofs.laws.structures_of_signers.Goals as goal

pub returns-clause-made : goal.returns-clause-made
returns-clause-made c = made_unsigned

pub returns-clause-added : goal.returns-clause-added
returns-clause-added c = signature_added

pub returns-clause-signed : goal.returns-clause-signed
returns-clause-signed c = structure_of_signer
