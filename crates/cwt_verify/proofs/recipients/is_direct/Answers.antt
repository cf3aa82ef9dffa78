use Rattle.std.proofs.Common.{◌≡◌, ◌∙◌, ◌==◌, length, rules, sym}
use Rattle.coset.specs.CoseRecipient.{out-CoseRecipient}
use Rattle.cwt_verify.proofs.Directing.{unless_inside}
use Rattle.cwt_verify.proofs.recipients.is_direct.Goals as goal

pub returns : goal.returns
returns c =
    let r = c.args.recipient.now in
    let empty : c.is_empty.result ≡ (length (out-CoseRecipient r).recipients.items == 0) = search rules in
    empty
    ∙ sym (unless_inside r (sym c.has_zero_length.ensures ∙ c.if-not-has_zero_length.false) (sym c.names_key.ensures ∙ c.if-not-names_key.false)
    (sym c.holds_key.ensures ∙ c.if-holds_key.false))
