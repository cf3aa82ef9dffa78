use Rattle.std.proofs.Common.{subst, option_map, map, ap, ◌∙◌}
use Rattle.coset_value.specs.Item.{array}
use Rattle.coset_codec.specs.Encoding.{Encodes, four_elements}
use Rattle.coset_codec.specs.Shape.{bstr, or_nil, images}
use Rattle.coset_codec.proofs.Encoding.{images-mapped}
use Rattle.coset_core.specs.Headers.{header, protected}
use Rattle.coset_recipient.specs.Encrypt.{encrypt_view}
use Rattle.coset_recipient.specs.Recipient.{recipient}
use Rattle.coset_recipient.specs.RecipientViews.{recipient_view}
use Rattle.coset_recipient.proofs.encrypt.CoseEncryptCodec.write.Goals as goal

pub returns-clause-written : goal.returns-clause-written
returns-clause-written c =
    let m = encrypt_view c.args.self.now in
    subst (λ o. Encodes (four_elements (protected.image m.protected) (header.image m.unprotected) ((or_nil bstr).image m.ciphertext)
    (option_map array o)) c.args.out.now.items c.encode_four.new.out.items c.encode_four.result)
    (images-mapped recipient.image recipient_view c.deref.result.now
    ∙ ap (λ xs. images recipient.image (map recipient_view xs)) c.deref.ensures.value) c.encode_four.ensures.written
