-- Timestamps can always be written.
use Rattle.std.proofs.Common.{◌≡◌, None}
use Rattle.coset_claims.specs.Timestamp.{timestamp, timestamp_view}
use Rattle.coset_claims.specs.declared.timestamp.Timestamp.{Timestamp}
use Rattle.coset_claims.specs.declared.timestamp.Timestamp.TheVariants.{WholeSeconds, FractionalSeconds}

pub timestamp-has : (t : Timestamp) → timestamp.image (timestamp_view t) ≡ None → ⊥
unfolding timestamp
timestamp-has (WholeSeconds i) e = absurd (cc)
timestamp-has (FractionalSeconds x) e = absurd (cc)
