use Rattle.std.proofs.Common.{ap, sym, subst, option_map}
use Rattle.coset_msg.specs.Encrypt0.{encrypt0_view, encrypt0_structure}
use Rattle.coset_msg.specs.Presence.{CallsIfPresent}
use Rattle.coset_msg.proofs.encrypt0.CoseEncrypt0.decrypt_ciphertext.Goals as goal

pub returns : goal.returns
returns g c =
    let structure = encrypt0_structure (encrypt0_view c.args.self.now) c.args.external_aad.now in
    subst (λ o. CallsIfPresent g.F.FnOnce c.args.cipher g.M.FnOnce c.args.missing o (λ d. d) (λ _. structure) c.call_with.result)
    (sym (ap (option_map (λ b. b.items)) c.in-Some.is))
    (rw c.deref.ensures.value at (c.call_with.ensures structure c.aad-structure.ensures))
