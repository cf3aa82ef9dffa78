use Rattle.std.proofs.Common.{subst, arith}
use Rattle.coset_value.specs.Item.{Items}
use Rattle.coset_cbor.specs.Cursors.{bytes_left, AreWithin}
use Rattle.coset_cbor.proofs.Cursors.{close_empty}
use Rattle.coset_cbor.proofs.cursor.Remaining.finish.Goals as goal

pub returns-clause-passes : goal.returns-clause-passes
returns-clause-passes c = λ vs a w.
    let r = c.loop.invariant.goes vs a w in
    let is = close_empty r.0 c.loop.places (bytes_left c.loop.cursor) a (omega (arith, r.2, c.loop-test.false)) r.1 in
    c.close-2.ensures.passes a (subst (λ (ws : Items). AreWithin c.loop.places ws (bytes_left c.loop.cursor) a) is r.1)
