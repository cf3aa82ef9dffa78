use Rattle.std.proofs.Common.{refl, rules}
use Rattle.coset_core.proofs.Putting.{other_number}
use Rattle.coset_core.proofs.header.reading.place_of.Goals as goal

pub returns-in_default : goal.returns-in_default
returns-in_default c = rw c.in_default.is refl

pub returns-in_default-number : goal.returns-in_default-number
returns-in_default-number c =
    rw c.in-Int.is
    (other_number c.in-Int.number (search rules) (search rules) (search rules) (search rules) (search rules) (search rules) (search rules) (search rules)
    (search rules))
