use Rattle.std.proofs.Common.{◌≡◌, ◌∙◌, List, None, Some, length, ap, refl, subst, sym}
use Rattle.std.specs.List.{slice_get}
use Rattle.std.specs.Prelude.{option_map}
use Rattle.std.proofs.lemmas.Option.{slice_get-map, slice_get_read}
use Rattle.coset.specs.CoseSignature.{CoseSignature}
use Rattle.coset.specs.Headers.{SignatureView}
use Rattle.coset.specs.ViewLaws.{signature-opened}
use Rattle.coset.specs.Views.{signature_view}
use Rattle.cwt_keys.specs.Sealed.{parts}
use Rattle.cwt_keys.specs.declared.form.Form.TheVariants.{Sign}
use Rattle.tool_seals.specs.Seals.{bytes_or_none}
use Rattle.tool_seals.proofs.own.of_signer.Goals as goal

pub returns : goal.returns
returns c =
    let s = c.in-Some.signed.now in
    let there = c.in-Some.ensures.lookup in
    let got : slice_get c.args.message.now.signatures.items c.args.index ≡ Some s =
    subst (λ (xs : List CoseSignature). slice_get xs c.args.index ≡ Some s) c.deref.ensures.value
    (slice_get_read c.deref.result.now (length c.deref.result.now) c.args.index s refl there.3.0 there.1) in
    let view = slice_get-map signature_view c.args.message.now.signatures.items c.args.index ∙ ap (option_map signature_view) got in
    let t = bytes_or_none (option_map (λ b. b.items) c.in_ok-signer_bytes.field-0) in
    let same =
    (λ i. parts Sign (c.in_ok-clone.ensures.copy i) (c.in_ok-clone-2.ensures.copy i) ((c.in_ok-from_slice.ensures.items ∙ c.deref-2.ensures.value) i) t
    None)
    ∙ sym (ap (λ (v : SignatureView). parts Sign v.protected v.unprotected v.signature t None) (signature-opened s)) in
    (refl, (signature_view s, view, (same, c.in_ok-signer_bytes.ensures)))
