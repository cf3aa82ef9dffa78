use Rattle.std.proofs.Common.{◌≡◌, ◌∙◌, ap, subst}
use Rattle.coset_iana.specs.Algorithm as algorithms
use Rattle.coset_label.specs.LabelData.{assigned}
use Rattle.coset_codec.specs.Encoding.{HasNoImage}
use Rattle.coset_codec.specs.ReadAgain.{IsWritten}
use Rattle.coset_core.specs.Built.{with_algorithm, with_iv}
use Rattle.coset_core.specs.Headers.{empty_header}
use Rattle.coset_core.specs.Messages.{unread}
use Rattle.coset_core.specs.Views.{header_view}
use Rattle.coset_recipient.specs.Encrypt.{and_encrypt_recipient, encrypt, encrypt_view, with_ciphertext}
use Rattle.coset_recipient.specs.RecipientViews.{recipient_view}
use Rattle.example_uses.specs.Recipients.{EncryptsFor, message_to}
use Rattle.example_uses.proofs.Refusing.{passed_as}
use Rattle.example_uses.proofs.Unwrapping.{is_sealed, not_sealed}
use Rattle.example_uses.proofs.recipients.encrypt_for.Goals as goal

pub returns-in_err-sealed : goal.returns-in_err-sealed
returns-in_err-sealed g c =
    let n = algorithms.number c.args.algorithm in
    let iv = c.args.iv.now in
    let r = recipient_view c.args.recipient in
    let named : header_view c.build-protected.result ≡ with_algorithm (assigned n) empty_header = ap header_view c.build-protected.ensures
    ∙ (c.algorithm.ensures ∙ ap (with_algorithm (assigned n)) c.new.ensures) in
    let timed : header_view c.build-unprotected.result ≡ with_iv iv empty_header = ap header_view c.build-unprotected.ensures
    ∙ (c.in_ok-iv_from.ensures.ok ∙ ap (with_iv iv) c.new-2.ensures) in
    let is : encrypt_view c.in_ok-unsealed.unsealed ≡ message_to (assigned n) iv r = c.in_ok-unsealed.ensures.ok
    ∙ ap (and_encrypt_recipient r) (c.unprotected.ensures
    ∙ (λ i. record ((c.protected.ensures ∙ (λ l. record (c.new-3.ensures l) { protected = unread (named l) })) i) { unprotected = timed i })) in
    passed_as (EncryptsFor g.F.FnOnce c.args.encrypt (assigned n) iv r c.args.external_aad.now c.args.plaintext.now) _ _ c.from_residual-in_err-sealed.ensures.1
    (not_sealed g.F.FnOnce c.args.encrypt n iv r c.args.external_aad.now c.args.plaintext.now (encrypt_view c.in_ok-unsealed.unsealed) is _
    c.in_err-sealed.ensures)

pub returns-in_err-to_vec : goal.returns-in_err-to_vec
returns-in_err-to_vec g c =
    let n = algorithms.number c.args.algorithm in
    let iv = c.args.iv.now in
    let r = recipient_view c.args.recipient in
    let named : header_view c.build-protected.result ≡ with_algorithm (assigned n) empty_header = ap header_view c.build-protected.ensures
    ∙ (c.algorithm.ensures ∙ ap (with_algorithm (assigned n)) c.new.ensures) in
    let timed : header_view c.build-unprotected.result ≡ with_iv iv empty_header = ap header_view c.build-unprotected.ensures
    ∙ (c.in_ok-iv_from.ensures.ok ∙ ap (with_iv iv) c.new-2.ensures) in
    let is : encrypt_view c.in_ok-unsealed.unsealed ≡ message_to (assigned n) iv r = c.in_ok-unsealed.ensures.ok
    ∙ ap (and_encrypt_recipient r) (c.unprotected.ensures
    ∙ (λ i. record ((c.protected.ensures ∙ (λ l. record (c.new-3.ensures l) { protected = unread (named l) })) i) { unprotected = timed i })) in
    let m = c.in_ok-sealed.ensures in
    passed_as (EncryptsFor g.F.FnOnce c.args.encrypt (assigned n) iv r c.args.external_aad.now c.args.plaintext.now) _ _
    c.from_residual-in_err-to_vec.ensures.1 (
      m.1.items,
      subst (λ x. HasNoImage (encrypt.image x) c.in_err-to_vec.field-0.0) (ap encrypt_view c.build.ensures ∙ (m.4 ∙ ap (with_ciphertext m.1.items) is))
          c.in_err-to_vec.ensures,
    )

pub returns : goal.returns
returns g c =
    let n = algorithms.number c.args.algorithm in
    let iv = c.args.iv.now in
    let r = recipient_view c.args.recipient in
    let named : header_view c.build-protected.result ≡ with_algorithm (assigned n) empty_header = ap header_view c.build-protected.ensures
    ∙ (c.algorithm.ensures ∙ ap (with_algorithm (assigned n)) c.new.ensures) in
    let timed : header_view c.build-unprotected.result ≡ with_iv iv empty_header = ap header_view c.build-unprotected.ensures
    ∙ (c.in_ok-iv_from.ensures.ok ∙ ap (with_iv iv) c.new-2.ensures) in
    let is : encrypt_view c.in_ok-unsealed.unsealed ≡ message_to (assigned n) iv r = c.in_ok-unsealed.ensures.ok
    ∙ ap (and_encrypt_recipient r) (c.unprotected.ensures
    ∙ (λ i. record ((c.protected.ensures ∙ (λ l. record (c.new-3.ensures l) { protected = unread (named l) })) i) { unprotected = timed i })) in
    is_sealed g.F.FnOnce c.args.encrypt (assigned n) iv r c.args.external_aad.now c.args.plaintext.now c.in_ok-to_vec.field-0
    (encrypt_view c.in_ok-unsealed.unsealed) (encrypt_view c.in_ok-sealed.sealed) is c.in_ok-sealed.ensures
    (subst (λ m. IsWritten encrypt (encrypt_view m) c.in_ok-to_vec.field-0.items) c.build.ensures c.in_ok-to_vec.ensures)
