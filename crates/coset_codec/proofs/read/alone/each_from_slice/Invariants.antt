use Rattle.coset_cbor.specs.Elements.{items_left}
use Rattle.coset_codec.proofs.Alone.{GoesOn}
use Rattle.coset_codec.proofs.read.alone.each_from_slice.Given as goal

abbrev pub invariant-loop-element : goal.invariant-loop-element
invariant-loop-element g l = GoesOn g.T.AsCborValue.shape g.T.AsCborValue.view (items_left l.initial.element-iterator) l.all.items
    (items_left l.element-iterator)
