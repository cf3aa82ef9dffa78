use Rattle.std.proofs.Common.{subst, sym}
use Rattle.coset_cbor.specs.Elements.{items_left}
use Rattle.coset_cbor.specs.Pulls.{pull_item}
use Rattle.coset_codec.specs.Alone.{EachReadAlone}
use Rattle.coset_codec.proofs.Alone.{all_read, read_on}
use Rattle.coset_codec.proofs.read.alone.each_from_slice.Goals as goal

pub loop-element-preserved : goal.loop-element-preserved
loop-element-preserved g c =
    read_on g.T.AsCborValue.shape g.T.AsCborValue.view _ _ _ (pull_item c.in-Some-element.element) c.in_ok-read_alone.field-0
    c.loop-element.all.items c.push.new.self.items c.loop-element.invariant c.in-Some-element.ensures.steps.0 c.in_ok-read_alone.ensures.alone
    c.in_ok-push.ensures.items

pub returns-clause-each : goal.returns-clause-each
returns-clause-each g c =
    let shape = g.T.AsCborValue.shape in
    let view = g.T.AsCborValue.view in
    let rs = c.loop-element.all.items in (
      items_left c.in-Some.elements,
      (pull_item c.in_ok-whole.whole, c.in_ok-whole.ensures.whole.0, sym c.in-Some.ensures.items),
      subst (λ it. EachReadAlone shape view (items_left it) rs) c.into_iter-element-iterator.ensures.into_iter_gives
          (all_read shape view _ _ rs c.loop-element.invariant c.in-None.ensures.steps.0),
    )
