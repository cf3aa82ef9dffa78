use Rattle.std.proofs.Common.{◌≡◌, ◌∙◌, ◌&&◌, Bool, true, false, ap, sym}
use Rattle.coset_core.specs.Views.{header_view}
use Rattle.coset_recipient.specs.RecipientViews.{recipient-unrolled}
use Rattle.coset_recipient.specs.declared.recipient.CoseRecipient.{out-CoseRecipient}
use Rattle.example_uses.specs.HeaderParts.{has_algorithm, names_key}
use Rattle.example_uses.specs.SharedKey.{direct, is_direct_to}
use Rattle.example_uses.proofs.shared_key.is_direct.Goals as goal

pub returns-then-has_algorithm : goal.returns-then-has_algorithm
returns-then-has_algorithm c =
    let r = c.args.recipient.now in
    let h = header_view (out-CoseRecipient r).unprotected in
    let named : has_algorithm direct h ≡ true = sym c.has_algorithm.ensures ∙ c.if-has_algorithm.true in
    c.names_key.ensures
    ∙ (sym (ap (λ (t : Bool). t && names_key c.args.key_id.now h) named) ∙ sym (ap (is_direct_to c.args.key_id.now) (recipient-unrolled r)))

pub returns-else-has_algorithm : goal.returns-else-has_algorithm
returns-else-has_algorithm c =
    let r = c.args.recipient.now in
    let h = header_view (out-CoseRecipient r).unprotected in
    let named : has_algorithm direct h ≡ false = sym c.has_algorithm.ensures ∙ c.if-has_algorithm.false in
    c.if-has_algorithm.false
    ∙ (sym (ap (λ (t : Bool). t && names_key c.args.key_id.now h) named) ∙ sym (ap (is_direct_to c.args.key_id.now) (recipient-unrolled r)))
