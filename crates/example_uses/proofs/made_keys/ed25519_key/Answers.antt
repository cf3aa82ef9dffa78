use Rattle.std.proofs.Common.{◌≡◌, ◌∙◌, ap, of_z, rules, sym, to_z, w64}
use Rattle.coset_value.specs.Item.{Item, integer}
use Rattle.coset_value.specs.View.{value_item, value_step}
use Rattle.coset_value.specs.declared.value.Value.TheVariants.{rolls-Bytes}
use Rattle.coset_value.specs.declared.value.Value.TheFolds.{fold-roll-Value}
use Rattle.coset_value.specs.declared.value.Value.TheOpen.{Value-F}
use Rattle.coset_iana.specs.EllipticCurve as curves
use Rattle.coset_iana.specs.OkpKeyParameter as parameters
use Rattle.coset_iana.specs.declared.key_parameters.OkpKeyParameter.TheVariants.{Crv, X}
use Rattle.coset_iana.specs.declared.keys.EllipticCurve.TheVariants.{Ed25519}
use Rattle.coset_label.specs.LabelData.{number}
use Rattle.coset_key.specs.Keys.{key_view}
use Rattle.coset_key.specs.KeyBuilt.{push_param, okp_key, with_key_id}
use Rattle.example_uses.proofs.made_keys.ed25519_key.Goals as goal

pub returns-clause-made : goal.returns-clause-made
returns-clause-made c =
    let curve : value_item c.from-curve.result ≡ integer (curves.number Ed25519) = search rules in
    let held = ap value_item (sym (rolls-Bytes c.args.x)) ∙ fold-roll-Value Item value_step (Value-F.Bytes c.args.x) in
    let crv : to_z w64 (of_z w64 c.to_i64-2.result) ≡ parameters.number Crv = ap (λ z. to_z w64 (of_z w64 z)) c.to_i64-2.ensures in
    let x : to_z w64 (of_z w64 c.to_i64-3.result) ≡ parameters.number X = ap (λ z. to_z w64 (of_z w64 z)) c.to_i64-3.ensures in
    let one : key_view c.in_ok-param.field-0 ≡ push_param (number (parameters.number Crv)) (integer (curves.number Ed25519)) okp_key = c.in_ok-param.ensures.ok
    ∙ (λ i. push_param (number (crv i)) (curve i) (c.new_okp_key.ensures i)) in
    ap key_view c.build.ensures
    ∙ (c.in_ok-key.ensures.ok
    ∙ ap (with_key_id c.args.key_id.now) (c.in_ok-param-2.ensures.ok ∙ (λ i. push_param (number (x i)) (held i) (one i))))
