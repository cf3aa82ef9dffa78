use Rattle.std.proofs.Common.{◌≡◌, of_calls, rules}
use Rattle.coset_sign.specs.Sign1.{sign1_view}
use Rattle.coset_codec.specs.declared.error.CallError.TheVariants.{Coset}
use Rattle.coset_codec.specs.declared.error.CoseError.TheVariants.{OutOfMemory}
use Rattle.example_uses.specs.Refusals.{IsNotVerified}
use Rattle.example_uses.proofs.Asked.{accepted, memory_alone, not_verified}
use Rattle.example_uses.proofs.Refusing.{passed}
use Rattle.example_uses.proofs.Spellings.{carries_same, passed_on}
use Rattle.example_uses.proofs.verify.verify_token.Goals as goal

pub returns-in_err-message-clause-genuine : goal.returns-in_err-message-clause-genuine
returns-in_err-message-clause-genuine g c = λ payload b sent spelt.
    passed_on _ _ c.from_residual.ensures.1 (λ k. c.in_err-message.ensures.refused k sent.read.0
    (c.encodings_agree.ensures.plain b c.args.token.now spelt.0 sent.read.0 spelt.1 spelt.2 sent.read.1))

pub returns-in_err-message-clause-refused : goal.returns-in_err-message-clause-refused
returns-in_err-message-clause-refused g c =
    passed (IsNotVerified (g.K.VerifyingKey.accepts c.args.key.now) c.args.external_aad.now c.args.token.now) _ _ c.from_residual.ensures.1
    (λ k. (c.in_err-message.ensures.read k, c.in_err-message.ensures.refused k))

pub returns-in_err-verify_signature-clause-genuine : goal.returns-in_err-verify_signature-clause-genuine
returns-in_err-verify_signature-clause-genuine g c = λ payload b sent spelt.
    let accepts = g.K.VerifyingKey.accepts c.args.key.now in
    let n = sign1_view c.in_ok-message.message in
    let same = carries_same c.one_item.ensures c.shortest_is_encoding.ensures c.signed_as_written.ensures.plain c.attached_as_written.ensures.plain b
    c.args.token.now sent.message n sent.written spelt c.in_ok-message.ensures.read in
    passed (λ e. e ≡ Coset OutOfMemory) _ _ c.from_residual-in_err-verify_signature.ensures.1
    (memory_alone _ accepts c.shortest_is_in_range.ensures c.least_heads_are_shortest.ensures sent n same _ c.in_err-verify_signature.ensures
    (λ p q r h. record { accepted = search (rules, of_calls); refused = search (rules, of_calls) }))

pub returns-in_err-verify_signature-clause-refused : goal.returns-in_err-verify_signature-clause-refused
returns-in_err-verify_signature-clause-refused g c =
    let accepts = g.K.VerifyingKey.accepts c.args.key.now in
    passed (IsNotVerified accepts c.args.external_aad.now c.args.token.now) _ _ c.from_residual-in_err-verify_signature.ensures.1
    (not_verified _ accepts c.signed_when_read.ensures.plain c.args.external_aad.now c.args.token.now
    (sign1_view c.in_ok-message.message) _ c.in_ok-message.ensures.read c.in_err-verify_signature.ensures
    (λ p q r h. record { accepted = search (rules, of_calls); refused = search (rules, of_calls) }))

pub returns-clause-verified : goal.returns-clause-verified
returns-clause-verified g c =
    let accepts = g.K.VerifyingKey.accepts c.args.key.now in
    let n = sign1_view c.in_ok-message.message in
    record {
      read = c.in_ok-message.ensures.read;
      signed = accepted accepts n.signature _ c.in_ok-verify_signature.ensures (λ p q h. record { accepted = search (rules, of_calls); refused = tt });
    }

pub returns-clause-same : goal.returns-clause-same
returns-clause-same g c = λ b m w s.
    carries_same c.one_item.ensures c.shortest_is_encoding.ensures c.signed_as_written.ensures.plain c.attached_as_written.ensures.plain b c.args.token.now m
    (sign1_view c.in_ok-message.message) w s c.in_ok-message.ensures.read
