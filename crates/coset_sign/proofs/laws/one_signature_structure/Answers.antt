use Rattle.coset_sign.proofs.Signatures.{same_signed}
use Rattle.coset_sign.proofs.laws.one_signature_structure.Goals as goal

pub returns : goal.returns
returns k = same_signed k.one_structure.ensures
