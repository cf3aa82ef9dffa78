use Rattle.coset_cbor.proofs.Kept.{moved}
use Rattle.coset_codec.proofs.Lists.{with-more}
use Rattle.coset_codec.proofs.util.convert.Goals as goal

pub loop-value-preserved : goal.loop-value-preserved
loop-value-preserved g c =
    let s = c.in-Some.ensures.steps.0 in (
      moved c.loop-value.yielded c.in-Some.value _ _ _ c.loop-value.invariant.0 s,
      rw c.in-Ok-push.ensures.items (with-more _ _ _ _ _ c.loop-value.invariant.1 c.in-Ok.ensures),
    )
