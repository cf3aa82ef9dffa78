use Rattle.std.proofs.Common.{Some, map, subst, sym}
use Rattle.coset_core.specs.ViewLaws.{countersignature-opened}
use Rattle.coset_core.specs.Views.{protected_view}
use Rattle.coset_core.specs.declared.countersignature.CoseCountersignature.{out-CoseCountersignature}
use Rattle.coset_core.specs.Calls.{CallsWith}
use Rattle.coset_sign.specs.Countersigned.{countersigned_item}
use Rattle.coset_sign.proofs.countersign.verify_countersignature.Goals as goal

pub returns : goal.returns
returns g c =
    let s = c.args.countersignature.now in
    let body = protected_view c.args.body in
    let others = map (λ field. field.items) c.args.other_fields.now in
    let signer = protected_view (out-CoseCountersignature s).protected in
    let asked = rw c.deref.ensures.value at (c.call_with.ensures
    (countersigned_item body (Some signer) c.args.external_aad.now c.args.payload.now others) c.countersigned_bytes-structure.ensures) in
    subst (λ x. CallsWith g.F.FnOnce c.args.verifier x.signature
    (countersigned_item body (Some x.protected) c.args.external_aad.now c.args.payload.now others) c.call_with.result) (sym (countersignature-opened s)) asked
