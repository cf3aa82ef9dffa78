use Rattle.coset_value.proofs.Doubles.{half_infinity, half_nan, half_number}
use Rattle.coset_value.proofs.float.half_magnitude.Goals as goal

pub returns-then-fraction-eq0 : goal.returns-then-fraction-eq0
returns-then-fraction-eq0 c = half_infinity c.args.exponent c.args.fraction c.if-exponent-eq32.true c.if-fraction-eq0.true

pub returns-else-fraction-eq0 : goal.returns-else-fraction-eq0
returns-else-fraction-eq0 c = half_nan c.args.exponent c.args.fraction c.if-exponent-eq32.true c.if-fraction-eq0.false

pub returns : goal.returns
returns c =
    half_number c.args.exponent c.args.fraction c.half_units.result c.if-exponent-eq32.false c.half_units.ensures.counted c.half_units.ensures.few
