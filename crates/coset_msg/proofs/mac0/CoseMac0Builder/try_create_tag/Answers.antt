use Rattle.std.proofs.Common.{◌≡◌, Ok, sym, ap, ◌∙◌}
use Rattle.coset_core.specs.Calls.{TriesToCreate}
use Rattle.coset_core.proofs.Calling.{passed_on}
use Rattle.coset_msg.specs.Mac0.{mac0_view, mac0_structure, with_tag}
use Rattle.coset_msg.proofs.Present.{if_there}
use Rattle.coset_msg.proofs.mac0.CoseMac0Builder.try_create_tag.Goals as goal

pub returns-in_err-tag : goal.returns-in_err-tag
returns-in_err-tag g c =
    let m = mac0_view c.args.self in
    let structure = mac0_structure m c.args.external_aad.now c.attached.result.now in
    if_there (λ p. TriesToCreate g.F.FnOnce c.args.creator (mac0_structure m c.args.external_aad.now p)
    (λ t b. mac0_view b ≡ with_tag t.items m) c.from_residual.result) (rw c.self.view_is at c.attached.ensures)
    (passed_on g.F.FnOnce c.args.creator structure (λ made given. made ≡ given)
    (λ t b. mac0_view b ≡ with_tag t.items m) c.in_err-tag.field-0.0 c.from_residual.result c.from_residual.ensures.1
    (c.in_err-tag.ensures structure (rw c.self.view_is at c.tbm_detached-structure.ensures)))

pub returns : goal.returns
returns g c =
    let m = mac0_view c.args.self in
    let made = c.in_ok-tag.ensures (mac0_structure m c.args.external_aad.now c.attached.result.now) (rw c.self.view_is at c.tbm_detached-structure.ensures) in
    if_there (λ p. TriesToCreate g.F.FnOnce c.args.creator (mac0_structure m c.args.external_aad.now p) (λ t b. mac0_view b ≡ with_tag t.items m)
    (Ok c.tag.result)) (rw c.self.view_is at c.attached.ensures)
    (made.0, made.1, made.2, made.3, c.tag.ensures ∙ ap (λ t. with_tag t.items m) (sym made.4))
