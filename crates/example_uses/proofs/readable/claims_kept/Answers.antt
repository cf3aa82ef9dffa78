use Rattle.std.proofs.Common.{refl}
use Rattle.coset_claims.specs.Known.{known_view}
use Rattle.example_uses.proofs.readable.claims_kept.Goals as goal

pub returns-clause-read : goal.returns-clause-read
returns-clause-read c = (known_view c.in_ok-known_from_slice.field-0, c.in_ok-known_from_slice.ensures.read, refl)
