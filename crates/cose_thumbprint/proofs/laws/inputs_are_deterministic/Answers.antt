use Rattle.cose_thumbprint.proofs.Agreeing.{inputs_are_deterministic}
use Rattle.cose_thumbprint.proofs.laws.inputs_are_deterministic.Goals as goal

pub returns : goal.returns
returns c = inputs_are_deterministic
