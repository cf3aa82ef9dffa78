use Rattle.std.proofs.Common.{◌≡◌, Ok}
use Rattle.coset_core.specs.Calls.{Creates}
use Rattle.coset_recipient.specs.Mac.{mac_view, mac_structure_of, with_tag}
use Rattle.coset_msg.proofs.Present.{if_there}
use Rattle.coset_recipient.proofs.mac.CoseMacBuilder.create_tag.Goals as goal

pub returns : goal.returns
returns g c =
    let m = mac_view c.args.self in
    if_there (λ p. Creates g.F.FnOnce c.args.creator (mac_structure_of m c.args.external_aad.now p) (λ t b. mac_view b ≡ with_tag t.items m) (Ok c.tag.result))
    (rw c.self.view_is at c.attached.ensures) (
      c.in_ok-tbm.tbm.items,
      c.creator.result,
      rw c.self.view_is at c.in_ok-tbm.ensures,
      (c.deref.result, c.creator.ensures, c.deref.ensures.value),
      c.tag.ensures,
    )
