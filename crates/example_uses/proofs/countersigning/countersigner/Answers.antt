use Rattle.std.proofs.Common.{◌≡◌, ◌∙◌, ap}
use Rattle.coset_iana.specs.Algorithm as algorithms
use Rattle.coset_label.specs.LabelData.{assigned}
use Rattle.coset_core.specs.Built.{with_algorithm, with_key_id}
use Rattle.coset_core.specs.Headers.{empty_header}
use Rattle.coset_core.specs.Messages.{unread}
use Rattle.coset_core.specs.Views.{countersignature_view, header_view}
use Rattle.example_uses.proofs.countersigning.countersigner.Goals as goal

pub returns-clause-named : goal.returns-clause-named
returns-clause-named c =
    let a = assigned (algorithms.number c.args.algorithm) in
    let named : header_view c.build-protected.result ≡ with_algorithm a empty_header = ap header_view c.build-protected.ensures
    ∙ (c.algorithm.ensures ∙ ap (with_algorithm a) c.new.ensures) in
    let keyed : header_view c.build-unprotected.result ≡ with_key_id c.args.key_id.now empty_header = ap header_view c.build-unprotected.ensures
    ∙ (c.in_ok-key_id_from.ensures.ok ∙ ap (with_key_id c.args.key_id.now) c.new-2.ensures) in
    ap countersignature_view c.build.ensures
    ∙ (c.unprotected-countersignature.ensures
    ∙ (λ i. record ((c.protected.ensures ∙ (λ l. record (c.new-3.ensures l) { protected = unread (named l) })) i) { unprotected = keyed i }))
