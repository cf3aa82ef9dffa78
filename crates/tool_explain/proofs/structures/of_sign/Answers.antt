use Rattle.std.proofs.Common.{◌≡◌, ◌∙◌, List, Some, length, ap, refl, subst}
use Rattle.std.specs.List.{slice_get}
use Rattle.std.specs.Prelude.{option_and_then, option_map}
use Rattle.std.proofs.lemmas.Option.{slice_get-map, slice_get_read}
use Rattle.coset.specs.CoseSignature.{CoseSignature}
use Rattle.coset.specs.Sign.{signer_structure, sign_view}
use Rattle.coset.specs.Views.{signature_view}
use Rattle.tool_explain.specs.Structure.{over_payload}
use Rattle.tool_explain.proofs.Covered.{is_there, over_present}
use Rattle.tool_explain.proofs.structures.of_sign.Goals as goal

pub returns-in-Some-payload : goal.returns-in-Some-payload
returns-in-Some-payload c =
    let m = sign_view c.in_ok-message.message in
    let signer = signature_view c.in-Some.signature.now in
    let w = c.in_ok-signed.ensures in
    let there = c.in-Some.ensures.lookup in
    let got : slice_get c.in_ok-message.message.signatures.items c.args.index ≡ Some c.in-Some.signature.now =
    subst (λ (xs : List CoseSignature). slice_get xs c.args.index ≡ Some c.in-Some.signature.now) c.deref.ensures.value
    (slice_get_read c.deref.result.now (length c.deref.result.now) c.args.index c.in-Some.signature.now refl there.3.0 there.1) in
    let view = slice_get-map signature_view c.in_ok-message.message.signatures.items c.args.index ∙ ap (option_map signature_view) got in (
      m,
      c.in_ok-message.ensures.read,
      w.0,
      ap (option_and_then (λ s. over_payload (signer_structure m s c.args.external_aad.now) m.payload)) view
          ∙ over_present (signer_structure m signer c.args.external_aad.now) m.payload w.0
          (is_there (λ b. b.items) c.in_ok-message.message.payload _ c.in-Some-payload.is) w.1,
      w.2,
    )
