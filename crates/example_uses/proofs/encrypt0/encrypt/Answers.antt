use Rattle.std.proofs.Common.{◌≡◌, ◌∙◌, None, ap, subst}
use Rattle.coset_iana.specs.Algorithm as algorithms
use Rattle.coset_label.specs.LabelData.{assigned}
use Rattle.coset_codec.specs.ReadAgain.{IsWritten}
use Rattle.coset_core.specs.Built.{with_algorithm, with_iv}
use Rattle.coset_core.specs.Headers.{empty_header}
use Rattle.coset_core.specs.Messages.{unread}
use Rattle.coset_core.specs.Views.{header_view}
use Rattle.coset_msg.specs.Encrypt0.{encrypt0, encrypt0_view, with_ciphertext}
use Rattle.example_uses.specs.Encrypt0.{EncryptsAlone, unsealed}
use Rattle.example_uses.proofs.Alone.{encrypt0-has, is_sealed_alone, not_sealed_alone}
use Rattle.example_uses.proofs.Refusing.{passed_as}
use Rattle.example_uses.proofs.Spellings.{only_memory}
use Rattle.example_uses.proofs.encrypt0.encrypt.Goals as goal

pub returns-in_err-sealed : goal.returns-in_err-sealed
returns-in_err-sealed g c =
    let n = algorithms.number c.args.algorithm in
    let iv = c.args.iv.now in
    let named : header_view c.build-protected.result ≡ with_algorithm (assigned n) empty_header = ap header_view c.build-protected.ensures
    ∙ (c.algorithm.ensures ∙ ap (with_algorithm (assigned n)) c.new.ensures) in
    let timed : header_view c.build-unprotected.result ≡ with_iv iv empty_header = ap header_view c.build-unprotected.ensures
    ∙ (c.in_ok-iv_from.ensures.ok ∙ ap (with_iv iv) c.new-2.ensures) in
    let is : encrypt0_view c.unprotected-unsealed.result ≡ unsealed (assigned n) iv = c.unprotected-unsealed.ensures
    ∙ (λ i. record ((c.protected.ensures ∙ (λ l. record (c.new-3.ensures l) { protected = unread (named l) })) i) { unprotected = timed i }) in
    passed_as (EncryptsAlone g.F.FnOnce c.args.cipher (assigned n) iv c.args.external_aad.now c.args.plaintext.now) _ _ c.from_residual-in_err-sealed.ensures.1
    (not_sealed_alone g.F.FnOnce c.args.cipher n iv c.args.external_aad.now c.args.plaintext.now (encrypt0_view c.unprotected-unsealed.result) is _
    c.in_err-sealed.ensures)

pub returns-in_err-to_vec : goal.returns-in_err-to_vec
returns-in_err-to_vec g c =
    let n = algorithms.number c.args.algorithm in
    let iv = c.args.iv.now in
    let named : header_view c.build-protected.result ≡ with_algorithm (assigned n) empty_header = ap header_view c.build-protected.ensures
    ∙ (c.algorithm.ensures ∙ ap (with_algorithm (assigned n)) c.new.ensures) in
    let timed : header_view c.build-unprotected.result ≡ with_iv iv empty_header = ap header_view c.build-unprotected.ensures
    ∙ (c.in_ok-iv_from.ensures.ok ∙ ap (with_iv iv) c.new-2.ensures) in
    let is : encrypt0_view c.unprotected-unsealed.result ≡ unsealed (assigned n) iv = c.unprotected-unsealed.ensures
    ∙ (λ i. record ((c.protected.ensures ∙ (λ l. record (c.new-3.ensures l) { protected = unread (named l) })) i) { unprotected = timed i }) in
    let m = c.in_ok-sealed.ensures in
    passed_as (EncryptsAlone g.F.FnOnce c.args.cipher (assigned n) iv c.args.external_aad.now c.args.plaintext.now) _ _
    c.from_residual-in_err-to_vec.ensures.1
    (only_memory _ (λ other. encrypt0-has n iv m.1.items (subst (λ x. encrypt0.image x ≡ None)
    (ap encrypt0_view c.build.ensures ∙ (m.4 ∙ ap (with_ciphertext m.1.items) is)) (c.in_err-to_vec.ensures other).1)))

pub returns : goal.returns
returns g c =
    let n = algorithms.number c.args.algorithm in
    let iv = c.args.iv.now in
    let named : header_view c.build-protected.result ≡ with_algorithm (assigned n) empty_header = ap header_view c.build-protected.ensures
    ∙ (c.algorithm.ensures ∙ ap (with_algorithm (assigned n)) c.new.ensures) in
    let timed : header_view c.build-unprotected.result ≡ with_iv iv empty_header = ap header_view c.build-unprotected.ensures
    ∙ (c.in_ok-iv_from.ensures.ok ∙ ap (with_iv iv) c.new-2.ensures) in
    let is : encrypt0_view c.unprotected-unsealed.result ≡ unsealed (assigned n) iv = c.unprotected-unsealed.ensures
    ∙ (λ i. record ((c.protected.ensures ∙ (λ l. record (c.new-3.ensures l) { protected = unread (named l) })) i) { unprotected = timed i }) in
    is_sealed_alone g.F.FnOnce c.args.cipher (assigned n) iv c.args.external_aad.now c.args.plaintext.now c.in_ok-to_vec.field-0
    (encrypt0_view c.unprotected-unsealed.result) (encrypt0_view c.in_ok-sealed.sealed) is c.in_ok-sealed.ensures
    (subst (λ m. IsWritten encrypt0 (encrypt0_view m) c.in_ok-to_vec.field-0.items) c.build.ensures c.in_ok-to_vec.ensures)
