use Rattle.std.proofs.Common.{◌∙◌, sym}
use Rattle.coset_key.proofs.Points.{points_apart}
use Rattle.coset_key.proofs.laws.points_round_trip.Goals as goal

pub returns-clause-one : goal.returns-clause-one
returns-clause-one c = λ s p q a b. points_apart p q (a.0 ∙ sym b.0) a.1 b.1
