use Rattle.std.proofs.Common.{◌+◌, ◌∙◌, ◌++◌, ap, arith, None}
use Rattle.coset_seen.proofs.Labelling.{begun, ended, goes_on}
use Rattle.coset_seen.proofs.labels.unbounded_at.Goals as goal

pub loop-init : goal.loop-init
loop-init c = begun c.args.bytes.now c.nothing-found.result c.nothing-found.ensures

pub loop-preserved : goal.loop-preserved
loop-preserved c =
    goes_on c.loop.counter (c.loop.counter + 1) c.args.bytes.now c.loop.rest.now c.in_ok-more.behind.now _ c.in_ok-more.more (omega (arith))
    c.loop.invariant c.in_ok-more.ensures

pub returns-in-Some : goal.returns-in-Some
returns-in-Some c =
    ended None c.loop.counter c.args.bytes.now c.loop.rest.now c.in-Some.behind.now _ c.loop.invariant (λ m e f g. g ∙ ap (λ y. e ++ y) c.in-Some.ensures)
