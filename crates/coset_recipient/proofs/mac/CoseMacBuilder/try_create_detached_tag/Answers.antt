use Rattle.std.proofs.Common.{◌≡◌, sym, ap, ◌∙◌}
use Rattle.coset_recipient.specs.Mac.{mac_view, mac_structure_of, with_tag}
use Rattle.coset_core.proofs.Calling.{passed_on}
use Rattle.coset_recipient.proofs.mac.CoseMacBuilder.try_create_detached_tag.Goals as goal

pub returns-in_err-tag : goal.returns-in_err-tag
returns-in_err-tag g c =
    let structure = mac_structure_of (mac_view c.args.self) c.args.external_aad.now c.args.payload.now in
    passed_on g.F.FnOnce c.args.creator structure (λ made given. made ≡ given)
    (λ s b. mac_view b ≡ with_tag s.items (mac_view c.args.self)) c.in_err-tag.field-0.0 c.from_residual.result c.from_residual.ensures.1
    (c.in_err-tag.ensures structure (rw c.self.view_is at c.tbm_detached-structure.ensures))

pub returns : goal.returns
returns g c =
    let made = c.in_ok-tag.ensures (mac_structure_of (mac_view c.args.self) c.args.external_aad.now c.args.payload.now)
    (rw c.self.view_is at c.tbm_detached-structure.ensures) in
    (made.0, made.1, made.2, made.3, c.tag.ensures ∙ ap (λ s. with_tag s.items (mac_view c.args.self)) (sym made.4))
