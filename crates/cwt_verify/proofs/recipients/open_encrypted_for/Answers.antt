use Rattle.std.proofs.Common.{◌≡◌, ◌∙◌, ℕ, Some, Vec, ap, map, option_map, refl, sym}
use Rattle.std.specs.Global.{Global}
use Rattle.coset.specs.CoseRecipient.{CoseRecipient, out-CoseRecipient}
use Rattle.coset.specs.Encrypt.{encrypt_view}
use Rattle.coset.specs.RecipientViews.{recipient_view}
use Rattle.coset.specs.Views.{header_view}
use Rattle.cwt_keys.specs.Keys.{name_view}
use Rattle.cwt_keys.specs.Sealed.{seal_view}
use Rattle.cwt_keys.specs.declared.form.Form.TheVariants.{Encrypt}
use Rattle.cwt_verify.specs.Recipients.{only_direct}
use Rattle.cwt_verify.proofs.Receiving.{decrypted_for, recipient_header, same_parts}
use Rattle.cwt_verify.proofs.recipients.open_encrypted_for.Goals as goal

pub returns-in_default-take : goal.returns-in_default-take
returns-in_default-take g c = λ policy.
    let m = encrypt_view c.args.message in
    let r = c.in-Some.recipient in
    let only : only_direct m.recipients ≡ Some (recipient_view r) =
    ap (λ (v : Vec CoseRecipient Global). only_direct (map recipient_view v.items)) (sym c.replace-recipients.ensures.value)
    ∙ (sym c.only_direct.ensures ∙ ap (option_map recipient_view) c.in-Some.is) in
    ((recipient_view r, only), ap (option_map (λ (v : Vec ℕ Global). v.items)) (sym c.take.ensures.value ∙ c.in_default-take.is))

pub returns-in-Ok-decrypt : goal.returns-in-Ok-decrypt
returns-in-Ok-decrypt g c = λ policy.
    let k = g.K.Keys.view c.args.keys.now in
    let m = encrypt_view c.args.message in
    let r = c.in-Some.recipient in
    let b = c.in-Some-take.ciphertext.items in
    let t = c.in-Ok.structure.items in
    let x = seal_view c.for_recipient-sealed.result in
    let only : only_direct m.recipients ≡ Some (recipient_view r) =
    ap (λ (v : Vec CoseRecipient Global). only_direct (map recipient_view v.items)) (sym c.replace-recipients.ensures.value)
    ∙ (sym c.only_direct.ensures ∙ ap (option_map recipient_view) c.in-Some.is) in
    let carried : m.ciphertext ≡ Some b = ap (option_map (λ (v : Vec ℕ Global). v.items)) (sym c.take.ensures.value ∙ c.in-Some-take.is) in
    let asked = same_parts Encrypt m.protected m.unprotected (Some (header_view (out-CoseRecipient r).unprotected)) (Some (recipient_view r).unprotected) x
    _ _ b t
    c.for_recipient-sealed.ensures c.deref.ensures.value c.deref-2.ensures.value (recipient_header r) in (
      decrypted_for k policy m (recipient_view r) b t x c.in-Ok-decrypt.content.items
          (name_view c.in-Ok-decrypt.issuer) only carried c.in-Ok.ensures asked c.in-Ok-decrypt.ensures.decrypted,
      refl,
    )
