use Rattle.std.proofs.Common.{length, arith}
use Rattle.coset_codec.specs.Shape.{images}
use Rattle.coset_codec.proofs.Encoding.{array-encoded}
use Rattle.coset_codec.proofs.write.encode.encode_array.Goals as goal

pub returns-clause-written : goal.returns-clause-written
returns-clause-written g c =
    let all = c.args.elements.now in
    array-encoded (images g.T.Encode.image all) (length all) _ _ _ c.encode_elements.result
    (omega arith) c.in_ok-write_array_head.ensures.ok c.encode_elements.ensures.ok c.encode_elements.ensures.refused
