use Rattle.std.proofs.Common.{◌≡◌, ◌∙◌, ap}
use Rattle.coset_iana.specs.Algorithm as algorithms
use Rattle.coset_label.specs.LabelData.{assigned}
use Rattle.coset_core.specs.Built.{with_algorithm, with_key_id}
use Rattle.coset_core.specs.Headers.{empty_header}
use Rattle.coset_core.specs.Views.{header_view}
use Rattle.coset_recipient.specs.RecipientViews.{recipient_view}
use Rattle.example_uses.specs.Recipients.{WrapsFor, wrapping}
use Rattle.example_uses.proofs.Refusing.{passed_as}
use Rattle.example_uses.proofs.Unwrapping.{is_cwt_tagged, not_wrapped}
use Rattle.example_uses.proofs.recipients.wrap_for.Goals as goal

pub returns-in_err-wrapped : goal.returns-in_err-wrapped
returns-in_err-wrapped g c =
    let a = assigned (algorithms.number c.args.algorithm) in
    let k = c.args.key_id.now in
    let keyed : header_view c.build-unprotected.result ≡ with_key_id k (with_algorithm a empty_header) = ap header_view c.build-unprotected.ensures
    ∙ (c.in_ok-key_id_from.ensures.ok ∙ ap (with_key_id k) (c.algorithm.ensures ∙ ap (with_algorithm a) c.new.ensures)) in
    let is : recipient_view c.unprotected-unwrapped.result ≡ wrapping a k = c.unprotected-unwrapped.ensures
    ∙ (λ i. record (c.new-2.ensures i) { unprotected = keyed i }) in
    passed_as (WrapsFor g.F.FnOnce c.args.wrap a k c.args.content_key.now) _ _ c.from_residual-in_err-wrapped.ensures.1
    (not_wrapped g.F.FnOnce c.args.wrap a k c.args.content_key.now (recipient_view c.unprotected-unwrapped.result) is _ c.in_err-wrapped.ensures)

pub returns : goal.returns
returns g c =
    let a = assigned (algorithms.number c.args.algorithm) in
    let k = c.args.key_id.now in
    let keyed : header_view c.build-unprotected.result ≡ with_key_id k (with_algorithm a empty_header) = ap header_view c.build-unprotected.ensures
    ∙ (c.in_ok-key_id_from.ensures.ok ∙ ap (with_key_id k) (c.algorithm.ensures ∙ ap (with_algorithm a) c.new.ensures)) in
    let is : recipient_view c.unprotected-unwrapped.result ≡ wrapping a k = c.unprotected-unwrapped.ensures
    ∙ (λ i. record (c.new-2.ensures i) { unprotected = keyed i }) in
    is_cwt_tagged g.F.FnOnce c.args.wrap a k c.args.content_key.now (recipient_view c.unprotected-unwrapped.result) (recipient_view c.in_ok-wrapped.wrapped)
    c.build.result is (ap recipient_view c.build.ensures) c.in_ok-wrapped.ensures
