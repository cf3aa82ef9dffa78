use Rattle.std.proofs.Common.{◌≡◌, ◌∙◌, Some, None, ap, subst}
use Rattle.coset_iana.specs.Algorithm as algorithms
use Rattle.coset_label.specs.LabelData.{assigned}
use Rattle.coset_codec.specs.ReadAgain.{IsWritten}
use Rattle.coset_core.specs.Built.{with_algorithm}
use Rattle.coset_core.specs.Headers.{empty_header}
use Rattle.coset_core.specs.Messages.{unread}
use Rattle.coset_core.specs.Views.{header_view}
use Rattle.coset_recipient.specs.Mac.{and_mac_recipient, mac, mac_view}
use Rattle.example_uses.specs.SharedKey.{MacsFor, shared_with}
use Rattle.example_uses.proofs.Refusing.{passed_as}
use Rattle.example_uses.proofs.SharedKeys.{is_mac_for, mac-has, no_mac_for, tagged}
use Rattle.example_uses.proofs.Spellings.{only_memory}
use Rattle.example_uses.proofs.shared_key.mac_for.Goals as goal

pub returns-in_err-recipient : goal.returns-in_err-recipient
returns-in_err-recipient g c =
    passed_as (MacsFor g.F.FnOnce c.args.mac (assigned (algorithms.number c.args.algorithm)) c.args.key_id.now c.args.external_aad.now c.args.payload.items) _ _
    c.from_residual.ensures.1 c.in_err-recipient.ensures.memory

pub returns-in_err-untagged : goal.returns-in_err-untagged
returns-in_err-untagged g c =
    passed_as (MacsFor g.F.FnOnce c.args.mac (assigned (algorithms.number c.args.algorithm)) c.args.key_id.now c.args.external_aad.now c.args.payload.items) _ _
    c.from_residual-in_err-untagged.ensures.1 c.in_err-untagged.ensures.memory

pub returns-in_err-tagged : goal.returns-in_err-tagged
returns-in_err-tagged g c =
    let n = algorithms.number c.args.algorithm in
    let k = c.args.key_id.now in
    let p = c.args.payload.items in
    let named : header_view c.build-protected.result ≡ with_algorithm (assigned n) empty_header = ap header_view c.build-protected.ensures
    ∙ (c.algorithm.ensures ∙ ap (with_algorithm (assigned n)) c.new.ensures) in
    let is : mac_view c.in_ok-untagged.untagged ≡ shared_with (assigned n) k p = c.in_ok-untagged.ensures.ok
    ∙ (λ i. and_mac_recipient (c.in_ok-recipient.ensures.named i) ((c.payload.ensures
    ∙ (λ j. record ((c.protected.ensures ∙ (λ l. record (c.new-2.ensures l) { protected = unread (named l) })) j) { payload = Some p })) i)) in
    passed_as (MacsFor g.F.FnOnce c.args.mac (assigned n) k c.args.external_aad.now p) _ _ c.from_residual-in_err-tagged.ensures.1
    (no_mac_for g.F.FnOnce c.args.mac n k c.args.external_aad.now p (mac_view c.in_ok-untagged.untagged) is _ c.in_err-tagged.ensures)

pub returns-in_err-to_vec : goal.returns-in_err-to_vec
returns-in_err-to_vec g c =
    let n = algorithms.number c.args.algorithm in
    let k = c.args.key_id.now in
    let p = c.args.payload.items in
    let named : header_view c.build-protected.result ≡ with_algorithm (assigned n) empty_header = ap header_view c.build-protected.ensures
    ∙ (c.algorithm.ensures ∙ ap (with_algorithm (assigned n)) c.new.ensures) in
    let is : mac_view c.in_ok-untagged.untagged ≡ shared_with (assigned n) k p = c.in_ok-untagged.ensures.ok
    ∙ (λ i. and_mac_recipient (c.in_ok-recipient.ensures.named i) ((c.payload.ensures
    ∙ (λ j. record ((c.protected.ensures ∙ (λ l. record (c.new-2.ensures l) { protected = unread (named l) })) j) { payload = Some p })) i)) in
    let made = tagged g.F.FnOnce c.args.mac (assigned n) k c.args.external_aad.now p (mac_view c.in_ok-untagged.untagged) (mac_view c.in_ok-tagged.tagged) is
    c.in_ok-tagged.ensures in
    passed_as (MacsFor g.F.FnOnce c.args.mac (assigned n) k c.args.external_aad.now p) _ _ c.from_residual-in_err-to_vec.ensures.1
    (only_memory _ (λ other. mac-has n k p made.1.items (subst (λ m. mac.image m ≡ None) (ap mac_view c.build.ensures ∙ made.4)
    (c.in_err-to_vec.ensures other).1)))

pub returns : goal.returns
returns g c =
    let n = algorithms.number c.args.algorithm in
    let k = c.args.key_id.now in
    let p = c.args.payload.items in
    let named : header_view c.build-protected.result ≡ with_algorithm (assigned n) empty_header = ap header_view c.build-protected.ensures
    ∙ (c.algorithm.ensures ∙ ap (with_algorithm (assigned n)) c.new.ensures) in
    let is : mac_view c.in_ok-untagged.untagged ≡ shared_with (assigned n) k p = c.in_ok-untagged.ensures.ok
    ∙ (λ i. and_mac_recipient (c.in_ok-recipient.ensures.named i) ((c.payload.ensures
    ∙ (λ j. record ((c.protected.ensures ∙ (λ l. record (c.new-2.ensures l) { protected = unread (named l) })) j) { payload = Some p })) i)) in
    is_mac_for g.F.FnOnce c.args.mac (assigned n) k c.args.external_aad.now p c.in_ok-to_vec.field-0.items (mac_view c.in_ok-untagged.untagged)
    (mac_view c.in_ok-tagged.tagged) is c.in_ok-tagged.ensures
    (subst (λ m. IsWritten mac (mac_view m) c.in_ok-to_vec.field-0.items) c.build.ensures c.in_ok-to_vec.ensures)
