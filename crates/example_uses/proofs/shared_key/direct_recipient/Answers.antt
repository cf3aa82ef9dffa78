use Rattle.std.proofs.Common.{◌≡◌, ◌∙◌, [], ap, rules}
use Rattle.coset_core.specs.Built.{with_algorithm, with_key_id}
use Rattle.coset_core.specs.Headers.{empty_header}
use Rattle.coset_core.specs.Views.{header_view}
use Rattle.coset_recipient.specs.Recipient.{with_ciphertext}
use Rattle.coset_recipient.specs.RecipientViews.{recipient_view}
use Rattle.example_uses.specs.SharedKey.{direct}
use Rattle.example_uses.proofs.shared_key.direct_recipient.Goals as goal

pub returns-clause-named : goal.returns-clause-named
returns-clause-named c =
    let keyed : header_view c.build-unprotected.result ≡ with_key_id c.args.key_id.now (with_algorithm direct empty_header) =
    ap header_view c.build-unprotected.ensures
    ∙ (c.in_ok-key_id_from.ensures.ok ∙ ap (with_key_id c.args.key_id.now) (c.algorithm.ensures ∙ ap (with_algorithm direct) c.new.ensures)) in
    let none : c.new-3.result.items ≡ [] = search rules in
    ap recipient_view c.build.ensures
    ∙ (c.ciphertext-recipient.ensures
    ∙ (ap (λ b. with_ciphertext b (recipient_view c.unprotected.result)) none
    ∙ ap (with_ciphertext []) (c.unprotected.ensures ∙ (λ i. record (c.new-2.ensures i) { unprotected = keyed i }))))
