use Rattle.std.proofs.Common.{arith}
use Rattle.coset_codec.specs.Inputs.{state}
use Rattle.coset_codec.proofs.Entered.{moves_on, array_read}
use Rattle.coset_codec.proofs.read.elements.decode_array.Goals as goal

pub returns : goal.returns
returns g c =
    let entered = c.in_ok-array.ensures in
    let read = c.decode_elements.ensures in
    record {
      forward = record {
        shrinks = omega (arith, entered.shrinks, read.shrinks);
        strictly = moves_on c.decode_elements.result _ _ _ entered.strictly read.shrinks;
        reads = λ v z at.
            let inside = entered.enters v z at in
            let done = read.reads inside.0 z inside.2 in
            (done.0, array_read g.P.DecodeElements.elements g.P.DecodeElements.view v inside.0 c.decode_elements.result inside.1 done.1);
      };
    }
