use mir.Syntax.{w64}
use Rattle.std.proofs.Common.{◌≡◌, ◌<ℤ◌, ◌-◌, ◌+◌, ℤ, false, sym, subst, arith, to_z}
use Rattle.std.specs.Int.Signed.{le_z}
use Rattle.std.proofs.lemmas.Int.{to_z-of_z}
use Rattle.coset_seen.proofs.Walking.{Walked, goes_on, ended}
use Rattle.coset_seen.specs.Named.{IsParameter, with_parameter}
use Rattle.coset_seen.specs.declared.header.Named.{Named}
use Rattle.coset_seen.proofs.header.named_at.Goals as goal

above : (l last : ℤ) → le_z l last ≡ false → last <ℤ l
above l last e = grind (arith, e)

pub loop-preserved : goal.loop-preserved
loop-preserved c =
    let label = c.in_ok-label in
    let parameter = c.in_ok-parameter in
    let same = to_z-of_z w64 label.label label.ensures.fits in
    let n : Named = record { algorithm = c.loop.named.0; key_id = c.loop.named.1.0; is_flat = c.loop.named.1.1.0 } in
    let w : Walked c.args.count (c.args.count - (c.loop.counter + 1)) c.args.bytes.now parameter.behind.now label.label (with_parameter n parameter.parameter) =
    goes_on c.args.count (c.args.count - c.loop.counter) (c.args.count - (c.loop.counter + 1)) c.args.bytes.now c.loop.rest.now label.value.now
    parameter.behind.now (to_z w64 c.loop.last-bits) label.label n parameter.parameter c.loop.invariant (omega (arith, c.loop-test.true))
    label.ensures.begins label.ensures.fits
    (subst (λ z. to_z w64 c.loop.last-bits <ℤ z) same (above _ _ c.if-label-last.false))
    (subst (λ z. IsParameter z label.value.now parameter.parameter parameter.behind.now) same parameter.ensures) in
    subst (λ z. Walked c.args.count (c.args.count - (c.loop.counter + 1)) c.args.bytes.now parameter.behind.now z c.with-named.result) (sym same)
    (subst (λ m. Walked c.args.count (c.args.count - (c.loop.counter + 1)) c.args.bytes.now parameter.behind.now label.label m) (sym c.with-named.ensures) w)

pub returns : goal.returns
returns c =
    let n : Named = record { algorithm = c.loop.named.0; key_id = c.loop.named.1.0; is_flat = c.loop.named.1.1.0 } in
    ended c.args.count c.args.bytes.now c.loop.rest.now (to_z w64 c.loop.last-bits) n
    (subst (λ k. Walked c.args.count k c.args.bytes.now c.loop.rest.now (to_z w64 c.loop.last-bits) n) (omega (arith, c.loop-test.false)) c.loop.invariant)
