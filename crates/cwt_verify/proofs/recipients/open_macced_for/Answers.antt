use Rattle.std.proofs.Common.{◌≡◌, ◌∙◌, ℕ, [], Some, Vec, ap, map, option_map, refl, subst, sym}
use Rattle.std.specs.Global.{Global}
use Rattle.coset.specs.Calls.{IsStructure}
use Rattle.coset.specs.CoseRecipient.{CoseRecipient, out-CoseRecipient}
use Rattle.coset.specs.Mac.{mac_structure_of, mac_view}
use Rattle.coset.specs.RecipientViews.{recipient_view}
use Rattle.coset.specs.Views.{header_view}
use Rattle.cwt_keys.specs.Keys.{name_view}
use Rattle.cwt_keys.specs.Sealed.{seal_view}
use Rattle.cwt_keys.specs.declared.form.Form.TheVariants.{Mac}
use Rattle.cwt_verify.specs.Recipients.{only_direct}
use Rattle.cwt_verify.proofs.Receiving.{mac_accepted_for, recipient_header, same_parts}
use Rattle.cwt_verify.proofs.recipients.open_macced_for.Goals as goal

pub returns-in_default-take : goal.returns-in_default-take
returns-in_default-take g c = λ policy.
    let m = mac_view c.args.message in
    let r = c.in-Some.recipient in
    let only : only_direct m.recipients ≡ Some (recipient_view r) =
    ap (λ (v : Vec CoseRecipient Global). only_direct (map recipient_view v.items)) (sym c.replace-recipients.ensures.value)
    ∙ (sym c.only_direct.ensures ∙ ap (option_map recipient_view) c.in-Some.is) in
    ((recipient_view r, only), ap (option_map (λ (v : Vec ℕ Global). v.items)) (sym c.take.ensures.value ∙ c.in_default-take.is))

pub returns-in-Ok-verify : goal.returns-in-Ok-verify
returns-in-Ok-verify g c = λ policy.
    let k = g.K.Keys.view c.args.keys.now in
    let m = mac_view c.args.message in
    let r = c.in-Some.recipient in
    let b = c.in-Some-take.content.items in
    let t = c.in-Ok.structure.items in
    let x = seal_view c.for_recipient-sealed.result in
    let only : only_direct m.recipients ≡ Some (recipient_view r) =
    ap (λ (v : Vec CoseRecipient Global). only_direct (map recipient_view v.items)) (sym c.replace-recipients.ensures.value)
    ∙ (sym c.only_direct.ensures ∙ ap (option_map recipient_view) c.in-Some.is) in
    let carried : m.payload ≡ Some b = ap (option_map (λ (v : Vec ℕ Global). v.items)) (sym c.take.ensures.value ∙ c.in-Some-take.is) in
    let asked = same_parts Mac m.protected m.unprotected (Some (header_view (out-CoseRecipient r).unprotected)) (Some (recipient_view r).unprotected) x _ _
    m.tag t
    c.for_recipient-sealed.ensures c.deref-2.ensures.value c.deref-3.ensures.value (recipient_header r) in (
      mac_accepted_for k policy m (recipient_view r) b t x (name_view c.in-Ok-verify.issuer) only carried (subst (λ q. IsStructure
          (mac_structure_of m [] q) t) c.deref.ensures.value c.in-Ok.ensures) asked c.in-Ok-verify.ensures.accepted,
      refl,
    )
