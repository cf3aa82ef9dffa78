use Rattle.std.proofs.Common.{rules}
use Rattle.coset_value.proofs.Doubles.{few_units}
use Rattle.coset_value.proofs.float.half_units.Goals as goal

pub returns-clause-few : goal.returns-clause-few
returns-clause-few c = let few = few_units c.args.fraction c.args.exponent c.requires.fractions c.requires.exponents in search (rules, few)
