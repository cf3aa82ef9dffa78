use Rattle.std.proofs.Common.{map, subst}
use Rattle.std.specs.Prelude.{string_bytes}
use Rattle.coset_cbor.specs.Elements.{items_left}
use Rattle.coset_codec.specs.Shape.{Each, tstr}
use Rattle.coset_codec.proofs.Lists.{all_read}
use Rattle.coset_claims.proofs.known.texts.Goals as goal

pub returns : goal.returns
returns c =
    let xs = map string_bytes c.loop-element.texts.items in
    subst (λ it. Each tstr.describes (items_left it) xs) c.into_iter-element-iterator.ensures.into_iter_gives
    (all_read tstr _ _ xs c.loop-element.invariant c.in-None.ensures.steps.0)
