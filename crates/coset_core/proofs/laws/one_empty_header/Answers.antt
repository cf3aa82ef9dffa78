use Rattle.std.proofs.Common.{ap}
use Rattle.coset_core.specs.Headers.{is_empty_header}
use Rattle.coset_core.proofs.Kept.{is_the_empty_one}
use Rattle.coset_core.proofs.laws.one_empty_header.Goals as goal

pub returns : goal.returns
returns c = λ h. (is_the_empty_one h, λ e. ap is_empty_header e)
