use Rattle.std.proofs.Common.{◌∙◌, ap, sym}
use Rattle.coset_iana.proofs.laws.numbers_are_inverse.Goals as goal

-- One direction is the law `number_of_value`. The other follows from `value_of_number`.
pub returns : goal.returns
returns g c i x = (g.met.T.EnumI64.number_of_value i x, λ same. ap g.T.EnumI64.value_of (sym same) ∙ g.met.T.EnumI64.value_of_number x)
