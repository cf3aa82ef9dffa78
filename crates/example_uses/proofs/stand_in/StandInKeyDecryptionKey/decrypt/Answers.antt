use Rattle.std.proofs.Common.{◌≡◌, ◌++◌, true≢false, ◌∙◌, ap, sym, length, drop, take, take-append-drop}
use Rattle.std.proofs.Math.Seq.{take-append_seam}
use Rattle.std.specs.Cmp.Lexicographic.{bytes_decides}
use Rattle.example_uses.proofs.stand_in.StandInKeyDecryptionKey.decrypt.Goals as goal

pub returns-in-Ok-clause-decrypted : goal.returns-in-Ok-clause-decrypted
returns-in-Ok-clause-decrypted c =
    let front = take (length c.args.aad.now) c.args.ciphertext.now in
    let back = drop (length c.args.aad.now) c.args.ciphertext.now in
    let cases = c.in-Some.ensures.cases in
    sym (take-append-drop (length c.args.aad.now) c.args.ciphertext.now)
    ∙ (ap (λ a. a ++ back) ((bytes_decides front c.args.aad.now).0 cases.0) ∙ ap (λ p. c.args.aad.now ++ p) (sym (c.in-Ok.ensures.items ∙ cases.1)))

pub returns-in_default-clause-refused : goal.returns-in_default-clause-refused
returns-in_default-clause-refused c = λ other plaintext e.
    let aad = c.args.aad.now in
    let front : take (length aad) c.args.ciphertext.now ≡ aad = ap (take (length aad)) e ∙ take-append_seam aad plaintext in
    true≢false (sym ((bytes_decides (take (length aad) c.args.ciphertext.now) aad).1 front) ∙ c.in_default.ensures.cases)
