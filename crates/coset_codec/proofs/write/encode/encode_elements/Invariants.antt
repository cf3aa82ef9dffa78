use Rattle.std.proofs.Common.{take}
use Rattle.coset_codec.specs.Encoding.{AppendsElements}
use Rattle.coset_codec.specs.Shape.{images}
use Rattle.coset_codec.proofs.write.encode.encode_elements.Given as goal

abbrev pub invariant-loop-element : goal.invariant-loop-element
invariant-loop-element g l = AppendsElements (images g.T.Encode.image (take l.element-index l.elements)) l.element-index l.initial.out.items l.out.items
