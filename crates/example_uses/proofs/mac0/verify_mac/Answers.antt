use Rattle.std.proofs.Common.{Ok, inl, refl}
use Rattle.coset_msg.specs.Mac0.{mac0_structure, mac0_view}
use Rattle.example_uses.specs.Asked.{Says}
use Rattle.example_uses.specs.Mac0.{VerifiesAlone}
use Rattle.example_uses.proofs.Alone.{not_verified_alone}
use Rattle.example_uses.proofs.Asked.{missing, there}
use Rattle.example_uses.proofs.Calls.{NotSaid, when_some}
use Rattle.example_uses.proofs.Refusing.{passed_as}
use Rattle.example_uses.proofs.mac0.verify_mac.Goals as goal

pub returns-in_err-message : goal.returns-in_err-message
returns-in_err-message g c =
    passed_as (VerifiesAlone g.F.FnOnce c.args.verify c.args.external_aad.now c.args.absent c.args.message.now) _ _ c.from_residual.ensures.1
    (λ k. (c.in_err-message.ensures.read k, c.in_err-message.ensures.refused k))

pub returns-then-is_none : goal.returns-then-is_none
returns-then-is_none g c = (
  mac0_view c.in_ok-message.message,
  c.in_ok-message.ensures.read,
  inl (
    missing c.in_ok-message.message.payload c.is_none.result c.is_none.ensures
        c.if-is_none.true,
    refl,
  ),
)

pub returns-in_err-verify_tag : goal.returns-in_err-verify_tag
returns-in_err-verify_tag g c =
    let m = mac0_view c.in_ok-message.message in
    let asked = when_some (λ p. NotSaid g.F.FnOnce c.args.verify m.tag (mac0_structure m c.args.external_aad.now p) c.in_err-verify_tag.field-0.0) m.payload
    (there c.in_ok-message.message.payload c.is_none.result c.is_none.ensures c.if-is_none.false) c.in_err-verify_tag.ensures in
    passed_as (VerifiesAlone g.F.FnOnce c.args.verify c.args.external_aad.now c.args.absent c.args.message.now) _ _
    c.from_residual-in_err-verify_tag.ensures.1
    (not_verified_alone g.F.FnOnce c.args.verify c.structure_when_read.ensures.mac0 c.args.external_aad.now c.args.message.now c.args.absent m asked.0
    c.in_ok-message.ensures.read asked.1 _ asked.2)

pub returns : goal.returns
returns g c =
    let m = mac0_view c.in_ok-message.message in
    let asked = when_some (λ p. Says g.F.FnOnce c.args.verify m.tag (mac0_structure m c.args.external_aad.now p) (Ok tt)) m.payload
    (there c.in_ok-message.message.payload c.is_none.result c.is_none.ensures c.if-is_none.false) c.in_ok-verify_tag.ensures in
    (c.in_ok-message.ensures.read, (asked.0, asked.1, asked.2))
