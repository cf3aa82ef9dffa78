use Rattle.coset_value.proofs.Doubles.{negative_half}
use Rattle.coset_value.proofs.float.half_to_f64.Goals as goal

pub returns-then-bits-ge32 : goal.returns-then-bits-ge32
returns-then-bits-ge32 c = negative_half c.args.bits c.half_magnitude-size.result c.if-bits-ge32.true c.half_magnitude-size.ensures
