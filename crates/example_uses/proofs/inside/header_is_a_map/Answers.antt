use Rattle.coset_core.specs.Headers.{LAYERS}
use Rattle.example_uses.proofs.inside.header_is_a_map.Goals as goal

pub returns-clause-describes : goal.returns-clause-describes
returns-clause-describes c = c.headers_hold_signatures.ensures.describes LAYERS

pub returns-clause-image : goal.returns-clause-image
returns-clause-image c = c.headers_hold_signatures.ensures.image LAYERS

pub returns-clause-faults : goal.returns-clause-faults
returns-clause-faults c = c.headers_hold_signatures.ensures.faults LAYERS
