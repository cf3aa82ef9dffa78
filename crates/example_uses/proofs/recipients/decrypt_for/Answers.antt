use Rattle.std.proofs.Common.{ap, inl, inr, option_map}
use Rattle.coset_recipient.specs.Encrypt.{encrypt_view}
use Rattle.example_uses.specs.Recipients.{DecryptsFor}
use Rattle.example_uses.proofs.Refusing.{passed_as}
use Rattle.example_uses.proofs.Unwrapping.{has_content, no_key}
use Rattle.example_uses.proofs.recipients.decrypt_for.Goals as goal

pub returns-in_err-message : goal.returns-in_err-message
returns-in_err-message g c =
    passed_as
    (DecryptsFor g.F.FnOnce c.args.unwrap g.G.FnOnce c.args.decrypt c.args.key_id.now c.args.external_aad.now c.args.absent c.args.message.now) _ _
    c.from_residual.ensures.1 (inl (λ k. (c.in_err-message.ensures.read k, c.in_err-message.ensures.refused k)))

pub returns-in_default : goal.returns-in_default
returns-in_default g c =
    inr (encrypt_view c.in_ok-message.message, c.in_ok-message.ensures.read, ap (option_map (λ b. b.items)) c.in_default.is, tt)

pub returns-in_err-key : goal.returns-in_err-key
returns-in_err-key g c =
    let m = encrypt_view c.in_ok-message.message in
    passed_as
    (DecryptsFor g.F.FnOnce c.args.unwrap g.G.FnOnce c.args.decrypt c.args.key_id.now c.args.external_aad.now c.args.absent c.args.message.now) _ _
    c.from_residual-in_err-key.ensures.1
    (no_key c.structures_when_read.ensures.encrypt c.args.message.now m c.in_ok-message.ensures.read g.F.FnOnce c.args.unwrap g.G.FnOnce c.args.decrypt
    c.args.key_id.now c.args.external_aad.now c.args.absent _ c.in_err-key.ensures)

pub returns-in_err-aad : goal.returns-in_err-aad
returns-in_err-aad g c =
    let m = encrypt_view c.in_ok-message.message in
    passed_as
    (DecryptsFor g.F.FnOnce c.args.unwrap g.G.FnOnce c.args.decrypt c.args.key_id.now c.args.external_aad.now c.args.absent c.args.message.now) _ _
    c.from_residual-in_err-aad.ensures.1
    (inl (λ other. absurd (has_content c.structures_when_read.ensures.encrypt c.args.message.now m c.in_ok-message.ensures.read c.args.external_aad.now
    (c.in_err-aad.ensures other).1)))

pub returns-in-Ok : goal.returns-in-Ok
returns-in-Ok g c = (
  encrypt_view c.in_ok-message.message,
  c.in_ok-message.ensures.read,
  (
    c.in_ok-key.key,
    c.in-Some.ciphertext.items,
    c.in_ok-key.ensures,
    ap (option_map (λ b. b.items)) c.in-Some.is,
    (
      c.in_ok-aad.aad.items,
      c.in_ok-aad.ensures,
      (
        c.deref.result,
        c.deref-2.result,
        c.deref-3.result,
        c.in-Ok.ensures,
        c.deref.ensures.value,
        c.deref-2.ensures.value,
        c.deref-3.ensures.value,
      ),
    ),
  ),
)

pub returns : goal.returns
returns g c = (
  encrypt_view c.in_ok-message.message,
  c.in_ok-message.ensures.read,
  inr (inr (
    c.in_ok-key.key,
    c.in-Some.ciphertext.items,
    c.in_ok-key.ensures,
    ap (option_map (λ b. b.items)) c.in-Some.is,
    (
      c.in_ok-aad.aad.items,
      c.in_ok-aad.ensures,
      (
        c.deref.result,
        c.deref-2.result,
        c.deref-3.result,
        c.in-Err.ensures,
        c.deref.ensures.value,
        c.deref-2.ensures.value,
        c.deref-3.ensures.value,
      ),
    ),
  )),
)
