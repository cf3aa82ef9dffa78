use Rattle.coset_core.specs.Headers.{LAYERS}
use Rattle.coset_core.proofs.Kept.{protected_as_written}
use Rattle.coset_core.proofs.laws.kept_as_written.Goals as goal

pub returns : goal.returns
returns c = protected_as_written LAYERS
