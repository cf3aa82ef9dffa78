use Rattle.std.proofs.Common.{ap, sym, subst, option_map}
use Rattle.coset_recipient.specs.Mac.{mac_view, mac_structure_of}
use Rattle.coset_msg.specs.Presence.{CallsIfPresent}
use Rattle.coset_recipient.proofs.mac.CoseMac.verify_payload_tag.Goals as goal

pub returns : goal.returns
returns g c =
    let m = mac_view c.args.self.now in
    let asked = rw c.deref.ensures.value at (c.call_with.ensures
    (mac_structure_of m c.args.external_aad.now c.deref.result.now) c.tbm_detached-structure.ensures) in
    subst (λ o. CallsIfPresent g.F.FnOnce c.args.verifier g.M.FnOnce c.args.missing o (λ p. m.tag)
    (mac_structure_of m c.args.external_aad.now) c.call_with.result)
    (sym (ap (option_map (λ b. b.items)) c.in-Some.is))
    (rw c.deref-2.ensures.value at asked)
