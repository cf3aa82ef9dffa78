use Rattle.std.proofs.Common.{◌≡◌}
use Rattle.coset_msg.specs.Encrypt0.{encrypt0_view, encrypt0_structure, with_ciphertext}
use Rattle.coset_msg.proofs.Present.{passed_on}
use Rattle.coset_msg.proofs.encrypt0.CoseEncrypt0Builder.try_create_ciphertext.Goals as goal

pub returns-in_err-ciphertext : goal.returns-in_err-ciphertext
returns-in_err-ciphertext g c =
    let m = encrypt0_view c.args.self in
    let structure = encrypt0_structure m c.args.external_aad.now in
    passed_on g.F.FnOnce c.args.cipher c.args.plaintext.now structure
    (λ d b. encrypt0_view b ≡ with_ciphertext d.items m) c.in_err-ciphertext.field-0.0 c.from_residual.result c.from_residual.ensures.1
    (c.in_err-ciphertext.ensures structure (rw c.self.view_is at c.aad-structure.ensures))

pub returns : goal.returns
returns g c =
    let asked = c.in_ok-ciphertext.ensures (encrypt0_structure (encrypt0_view c.args.self) c.args.external_aad.now)
    (rw c.self.view_is at c.aad-structure.ensures) in
    (asked.0, c.in_ok-ciphertext.ciphertext, asked.1, asked.2, c.ciphertext.ensures)
