use Rattle.std.proofs.Common.{arith}
use Rattle.coset_codec.specs.ShapeLaws.{as_array-depth}
use Rattle.coset_key.specs.Keys.{key}
use Rattle.coset_key.proofs.Elements.{element_of}
use Rattle.coset_key.proofs.laws.keys_of_a_set.Goals as goal

pub returns : goal.returns
returns c = λ b s k p m.
    let one = element_of key p.2.0 s m.0 k p.2.2 m.1 m.2 in
    let within = as_array-depth p.0 p.2.0 p.2.1 in
    (one.0, one.1, omega (arith, one.2, within, p.1.1))
