use Rattle.std.proofs.Common.{rules}
use Rattle.coset_value.proofs.Doubles.{single_exact, double_exact}
use Rattle.coset_value.proofs.float.Float.to_f64.Goals as goal

pub returns-in-Single : goal.returns-in-Single
returns-in-Single c = search (rules, single_exact c.in-Single.bits)

pub returns-in-Double : goal.returns-in-Double
returns-in-Double c = search (rules, double_exact c.in-Double.bits)
