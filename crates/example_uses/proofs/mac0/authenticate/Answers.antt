use Rattle.std.proofs.Common.{◌≡◌, ◌∙◌, Some, None, ap, subst}
use Rattle.coset_iana.specs.Algorithm as algorithms
use Rattle.coset_label.specs.LabelData.{assigned}
use Rattle.coset_codec.specs.ReadAgain.{IsWritten}
use Rattle.coset_core.specs.Built.{with_algorithm}
use Rattle.coset_core.specs.Headers.{empty_header}
use Rattle.coset_core.specs.Messages.{unread}
use Rattle.coset_core.specs.Views.{header_view}
use Rattle.coset_msg.specs.Mac0.{mac0, mac0_view}
use Rattle.example_uses.specs.Mac0.{MacsAlone, untagged}
use Rattle.example_uses.proofs.Alone.{is_mac_alone, mac0-has, no_mac_alone, tagged}
use Rattle.example_uses.proofs.Refusing.{passed_as}
use Rattle.example_uses.proofs.Spellings.{only_memory}
use Rattle.example_uses.proofs.mac0.authenticate.Goals as goal

pub returns-in_err-tagged : goal.returns-in_err-tagged
returns-in_err-tagged g c =
    let n = algorithms.number c.args.algorithm in
    let p = c.args.payload.items in
    let named : header_view c.build-protected.result ≡ with_algorithm (assigned n) empty_header = ap header_view c.build-protected.ensures
    ∙ (c.algorithm.ensures ∙ ap (with_algorithm (assigned n)) c.new.ensures) in
    let is : mac0_view c.payload-untagged.result ≡ untagged (assigned n) p = c.payload-untagged.ensures
    ∙ (λ i. record ((c.protected.ensures ∙ (λ l. record (c.new-2.ensures l) { protected = unread (named l) })) i) { payload = Some p }) in
    passed_as (MacsAlone g.F.FnOnce c.args.mac (assigned n) c.args.external_aad.now p) _ _ c.from_residual.ensures.1
    (no_mac_alone g.F.FnOnce c.args.mac n c.args.external_aad.now p (mac0_view c.payload-untagged.result) is _ c.in_err-tagged.ensures)

pub returns-in_err-to_vec : goal.returns-in_err-to_vec
returns-in_err-to_vec g c =
    let n = algorithms.number c.args.algorithm in
    let p = c.args.payload.items in
    let named : header_view c.build-protected.result ≡ with_algorithm (assigned n) empty_header = ap header_view c.build-protected.ensures
    ∙ (c.algorithm.ensures ∙ ap (with_algorithm (assigned n)) c.new.ensures) in
    let is : mac0_view c.payload-untagged.result ≡ untagged (assigned n) p = c.payload-untagged.ensures
    ∙ (λ i. record ((c.protected.ensures ∙ (λ l. record (c.new-2.ensures l) { protected = unread (named l) })) i) { payload = Some p }) in
    let made = tagged g.F.FnOnce c.args.mac (assigned n) c.args.external_aad.now p (mac0_view c.payload-untagged.result) (mac0_view c.in_ok-tagged.tagged) is
    c.in_ok-tagged.ensures in
    passed_as (MacsAlone g.F.FnOnce c.args.mac (assigned n) c.args.external_aad.now p) _ _ c.from_residual-in_err-to_vec.ensures.1
    (only_memory _ (λ other. mac0-has n p made.1.items (subst (λ m. mac0.image m ≡ None) (ap mac0_view c.build.ensures ∙ made.4)
    (c.in_err-to_vec.ensures other).1)))

pub returns : goal.returns
returns g c =
    let n = algorithms.number c.args.algorithm in
    let p = c.args.payload.items in
    let named : header_view c.build-protected.result ≡ with_algorithm (assigned n) empty_header = ap header_view c.build-protected.ensures
    ∙ (c.algorithm.ensures ∙ ap (with_algorithm (assigned n)) c.new.ensures) in
    let is : mac0_view c.payload-untagged.result ≡ untagged (assigned n) p = c.payload-untagged.ensures
    ∙ (λ i. record ((c.protected.ensures ∙ (λ l. record (c.new-2.ensures l) { protected = unread (named l) })) i) { payload = Some p }) in
    is_mac_alone g.F.FnOnce c.args.mac (assigned n) c.args.external_aad.now p c.in_ok-to_vec.field-0.items (mac0_view c.payload-untagged.result)
    (mac0_view c.in_ok-tagged.tagged) is c.in_ok-tagged.ensures
    (subst (λ m. IsWritten mac0 (mac0_view m) c.in_ok-to_vec.field-0.items) c.build.ensures c.in_ok-to_vec.ensures)
