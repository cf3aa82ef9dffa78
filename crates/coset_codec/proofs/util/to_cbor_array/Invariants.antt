use Rattle.coset_codec.specs.Lists.{EachWith}
use Rattle.coset_codec.proofs.Lists.{IsImage}
use Rattle.coset_codec.proofs.util.to_cbor_array.Given as goal

abbrev pub invariant-loop-x : goal.invariant-loop-x
invariant-loop-x g l = EachWith (IsImage (λ x. g.C.Item.AsCborValue.shape.image (g.C.Item.AsCborValue.view x))) l.yielded l.elements.items
