use Rattle.std.proofs.Common.{take}
use Rattle.coset_codec.specs.Encoding.{AppendsElements}
use Rattle.coset_codec.specs.Shape.{bstr, images}
use Rattle.coset_claims.proofs.context.write_byte_strings.Given as goal

abbrev pub invariant-loop-bytes : goal.invariant-loop-bytes
invariant-loop-bytes l = AppendsElements (images (λ b. bstr.image b.items) (take l.bytes-index l.all)) l.bytes-index l.initial.out.items l.out.items
