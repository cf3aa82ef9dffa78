use Rattle.std.proofs.Common.{of_calls, rules}
use Rattle.coset_msg.specs.Encrypt0.{encrypt0_view}
use Rattle.example_uses.specs.Refusals.{IsNotDecrypted}
use Rattle.example_uses.proofs.Asked.{is_decrypted, missing, none_decrypted, not_decrypted, there}
use Rattle.example_uses.proofs.Refusing.{passed}
use Rattle.example_uses.proofs.oscore.decrypted.Goals as goal

pub returns-in_err-message-clause-refused : goal.returns-in_err-message-clause-refused
returns-in_err-message-clause-refused g c =
    passed (IsNotDecrypted (g.K.DecryptionKey.refuses c.args.key.now) c.args.external_aad.now c.args.message.now) _ _ c.from_residual.ensures.1
    (λ k. (c.in_err-message.ensures.read k, c.in_err-message.ensures.refused k))

pub returns-in_err-plaintext-clause-refused : goal.returns-in_err-plaintext-clause-refused
returns-in_err-plaintext-clause-refused g c =
    passed (IsNotDecrypted (g.K.DecryptionKey.refuses c.args.key.now) c.args.external_aad.now c.args.message.now) _ _ c.from_residual-in_err-plaintext.ensures.1
    (not_decrypted (g.K.DecryptionKey.decrypts c.args.key.now)
    (g.K.DecryptionKey.refuses c.args.key.now) _ c.structure_when_read.ensures.encrypt0 c.args.external_aad.now c.args.message.now
    (encrypt0_view c.in_ok-message.message) _ c.in_ok-message.ensures.read
    (there c.in_ok-message.message.ciphertext c.is_none.result c.is_none.ensures c.if-is_none.false) c.in_err-plaintext.ensures
    (λ p q r h. record { decrypted = tt; refused = search (rules, of_calls) }))

pub returns-clause-decrypted : goal.returns-clause-decrypted
returns-clause-decrypted g c =
    is_decrypted (g.K.DecryptionKey.decrypts c.args.key.now) (g.K.DecryptionKey.refuses c.args.key.now) c.args.external_aad.now c.args.message.now
    (encrypt0_view c.in_ok-message.message) c.in_ok-plaintext.plaintext c.in_ok-message.ensures.read
    (there c.in_ok-message.message.ciphertext c.is_none.result c.is_none.ensures c.if-is_none.false) c.in_ok-plaintext.ensures
    (λ p q h. record { decrypted = search (rules, of_calls); refused = tt })

pub returns-then-is_none-clause-refused : goal.returns-then-is_none-clause-refused
returns-then-is_none-clause-refused g c =
    none_decrypted (g.K.DecryptionKey.refuses c.args.key.now) c.args.external_aad.now c.args.message.now
    (encrypt0_view c.in_ok-message.message) c.in_ok-message.ensures.read
    (missing c.in_ok-message.message.ciphertext c.is_none.result c.is_none.ensures c.if-is_none.true)
