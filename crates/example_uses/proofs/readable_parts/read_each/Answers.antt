use Rattle.coset_cbor.proofs.Kept.{moved}
use Rattle.example_uses.proofs.EachRead.{one_more}
use Rattle.example_uses.proofs.readable_parts.read_each.Goals as goal

pub loop-item-preserved : goal.loop-item-preserved
loop-item-preserved g c = (
  moved c.loop-item.yielded c.in-Some.item _ _ _ c.loop-item.invariant.0 c.in-Some.ensures.steps.0,
  one_more g.T.AsCborValue.shape g.T.AsCborValue.view c.in-Some.item c.in_ok-read_alone.field-0 c.in_ok-read_alone.ensures.alone c.loop-item.yielded
      c.loop-item.all.items c.push.new.self.items c.loop-item.invariant.1 c.in_ok-push.ensures.items,
)
