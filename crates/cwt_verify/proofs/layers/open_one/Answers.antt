use Rattle.std.proofs.Common.{Err, subst}
use Rattle.cwt_verify.specs.Admission.{ChecksHeaders, IsAdmitted}
use Rattle.cwt_verify.specs.Layers.{layer_view}
use Rattle.cwt_verify.specs.Policy.{policy_view}
use Rattle.cwt_verify.specs.Walk.{OpensOne}
use Rattle.cwt_verify.proofs.Reading.{HaveStructures, opened, passed_on, turned_away}
use Rattle.cwt_verify.proofs.layers.open_one.Goals as goal

pub returns-in-Err : goal.returns-in-Err
returns-in-Err g c = ((λ n. (c.in-Err.ensures.read n, c.in-Err.ensures.refused n)), c.in-Err.ensures.memory)

pub returns-in_err-check_headers : goal.returns-in_err-check_headers
returns-in_err-check_headers g c =
    let k = g.K.Keys.view c.args.keys.now in
    let p = policy_view c.args.policy.now in
    let e = c.in_err-check_headers.field-0.0 in
    passed_on (OpensOne k p c.args.outermost c.args.bytes.now) c.from_residual.result e c.from_residual.ensures.1
    (turned_away k p c.args.outermost c.args.bytes.now (layer_view c.in-Ok.layer) e c.in-Ok.ensures.read
    (subst (λ h. ChecksHeaders p h (Err e)) c.headers.ensures c.in_err-check_headers.ensures))

pub returns : goal.returns
returns g c =
    let k = g.K.Keys.view c.args.keys.now in
    let p = policy_view c.args.policy.now in
    let l = layer_view c.in-Ok.layer in
    let laws : HaveStructures = record {
      sign1 = c.signed_when_read.ensures.plain;
      mac0 = c.structure_when_read.ensures.mac0;
      encrypt0 = c.structure_when_read.ensures.encrypt0;
      sign = c.each_signed_when_read.ensures.plain;
      mac = c.structures_when_read.ensures.mac;
      encrypt = c.structures_when_read.ensures.encrypt;
    } in
    opened k p laws c.args.outermost c.args.bytes.now l c.open.result c.in-Ok.ensures.read
    (subst (IsAdmitted p) c.headers.ensures c.in_ok-check_headers.ensures) c.open.ensures
