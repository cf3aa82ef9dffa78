use Rattle.std.proofs.Common.{◌≡◌, ◌∷◌, length, true, false, sym, ◌∙◌, ap, arith}
use Rattle.coset_key.specs.Sec1.{compressed, uncompressed}
use Rattle.coset_key.proofs.key.CoseKeyBuilder.new_ec2_pub_key_sec1_octet_string.Goals as goal

pub returns-in_ok-compressed_key-in-2 : goal.returns-in_ok-compressed_key-in-2
returns-in_ok-compressed_key-in-2 c =
    let rest = c.in-Some.rest.now in
    (compressed false rest, (sym (c.in-Some.ensures.cases.0 ∙ ap (λ b. b ∷ rest) c.in-2.is), tt), c.in_ok-compressed_key-in-2.ensures.ok)

pub returns-in_ok-compressed_key-in-3 : goal.returns-in_ok-compressed_key-in-3
returns-in_ok-compressed_key-in-3 c =
    let rest = c.in-Some.rest.now in
    (compressed true rest, (sym (c.in-Some.ensures.cases.0 ∙ ap (λ b. b ∷ rest) c.in-3.is), tt), c.in_ok-compressed_key-in-3.ensures.ok)

pub returns-in_ok-uncompressed_key-in-4 : goal.returns-in_ok-uncompressed_key-in-4
returns-in_ok-uncompressed_key-in-4 c =
    let rest = c.in-Some.rest.now in
    let x = c.split_at.result.0.now in
    let y = c.split_at.result.1.now in
    let even : length x ≡ length y = omega (arith, c.if-rest-eq0.true, c.split_at.ensures.front_len, c.split_at.ensures.back_len) in (
      uncompressed x y,
      (sym (c.in-Some.ensures.cases.0 ∙ (ap (λ b. b ∷ rest) c.in-4.is ∙ ap (λ s. 4 ∷ s) c.split_at.ensures.by_index.0)), even),
      c.in_ok-uncompressed_key-in-4.ensures.ok,
    )
