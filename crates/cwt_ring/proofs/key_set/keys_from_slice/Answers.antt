use Rattle.std.proofs.Common.{◌∷◌, [], ◌++◌, ◌≡◌, subst, sym}
use Rattle.cwt_ring.proofs.Lists.{moved}
use Rattle.cwt_ring.specs.KeySet.{successes}
use Rattle.cwt_ring.proofs.Successes.{for_item, none_more, one_more}
use Rattle.cwt_ring.proofs.key_set.keys_from_slice.Goals as goal

pub loop-read-preserved-in-Continue-branch-2 : goal.loop-read-preserved-in-Continue-branch-2
loop-read-preserved-in-Continue-branch-2 c =
    let rs = c.loop-read.yielded in
    let more = one_more rs c.in-Ok.key c.loop-read.keys.items c.push.new.self.items c.loop-read.invariant.1 c.in_ok-push.ensures.items in (
      moved rs c.in-Some.read _ _ _ c.loop-read.invariant.0 c.in-Some.ensures.steps.0,
      subst (λ r. successes (rs ++ r ∷ []) ≡ c.push.new.self.items) (sym c.in-Ok.is) more,
    )

pub loop-read-preserved : goal.loop-read-preserved
loop-read-preserved c = (
  moved c.loop-read.yielded c.in-Some.read _ _ _ c.loop-read.invariant.0 c.in-Some.ensures.steps.0,
  none_more c.loop-read.yielded c.in-Some.read c.loop-read.keys.items c.loop-read.invariant.1 c.in_default.not-Ok,
)

pub returns-in_err-push-clause-memory : goal.returns-in_err-push-clause-memory
returns-in_err-push-clause-memory c = for_item c.args.bytes.now _ c.from_residual-in_err-push.result c.in_ok-read-items.ensures.each.1.1
