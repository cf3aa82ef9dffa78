use Rattle.std.proofs.Common.{◌≡◌, ℕ, ◌+◌, ◌-◌, subst, arith}
use Rattle.coset_cbor.specs.Skips.{IsPast}
use Rattle.coset_cbor.proofs.Skips.{past_one, past_step, past_all}
use Rattle.coset_cbor.proofs.skip.skip_checked.Goals as goal

pub loop-init : goal.loop-init
loop-init c = record { some = omega arith; past = λ v e. past_one c.args.bytes.now v e }

pub returns-then-left-eq0 : goal.returns-then-left-eq0
returns-then-left-eq0 c = λ v e.
    let none : c.loop.left - 1 + c.in_ok-items.items ≡ 0 = omega arith in
    past_all (c.loop.left - 1 + c.in_ok-items.items) c.in_ok-items.after.now v.1 none
    (past_step c.loop.left c.in_ok-items.items c.loop.rest.now c.in_ok-items.after.now v.1 c.loop.invariant.some c.in_ok-items.ensures
    (c.loop.invariant.past v e))

pub loop-preserved : goal.loop-preserved
loop-preserved c = record {
  some = omega arith;
  past = λ v e.
      let same : c.loop.left - 1 + c.in_ok-items.items ≡ c.in_ok-left.left = omega arith in
      subst (λ (n : ℕ). IsPast n c.in_ok-items.after.now v.1) same
      (past_step c.loop.left c.in_ok-items.items c.loop.rest.now c.in_ok-items.after.now v.1 c.loop.invariant.some c.in_ok-items.ensures
      (c.loop.invariant.past v e));
}
