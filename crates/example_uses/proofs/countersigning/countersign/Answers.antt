use Rattle.std.proofs.Common.{◌∙◌, ap, inl, inr, subst}
use Rattle.coset_codec.specs.Encoding.{HasNoImage}
use Rattle.coset_codec.specs.ReadAgain.{IsWritten}
use Rattle.coset_core.specs.Views.{countersignature_view}
use Rattle.coset_sign.specs.Sign1.{sign1, sign1_view}
use Rattle.example_uses.specs.Countersigning.{Countersigns, and_countersignature}
use Rattle.example_uses.proofs.Countersigned.{not_countersigned}
use Rattle.example_uses.proofs.Refusing.{passed_as}
use Rattle.example_uses.proofs.countersigning.countersign.Goals as goal

pub returns-in_err-message : goal.returns-in_err-message
returns-in_err-message g c =
    passed_as (Countersigns g.F.FnOnce c.args.sign (countersignature_view c.args.countersignature) c.args.external_aad.now c.args.message.now) _ _
    c.from_residual.ensures.1 (inl (λ k. (c.in_err-message.ensures.read k, c.in_err-message.ensures.refused k)))

pub returns-in_err-made : goal.returns-in_err-made
returns-in_err-made g c =
    passed_as (Countersigns g.F.FnOnce c.args.sign (countersignature_view c.args.countersignature) c.args.external_aad.now c.args.message.now) _ _
    c.from_residual-in_err-made.ensures.1
    (not_countersigned g.F.FnOnce c.args.sign (sign1_view c.in_ok-message.message) (countersignature_view c.args.countersignature) c.args.external_aad.now
    c.args.message.now c.in_ok-message.ensures.read _ c.in_err-made.ensures)

pub returns-in_err-countersigned : goal.returns-in_err-countersigned
returns-in_err-countersigned g c =
    let m = sign1_view c.in_ok-message.message in
    let made = c.in_ok-made.ensures in
    passed_as (Countersigns g.F.FnOnce c.args.sign (countersignature_view c.args.countersignature) c.args.external_aad.now c.args.message.now) _ _
    c.from_residual-in_err-countersigned.ensures.1
    (inr (m, made.0, c.in_ok-message.ensures.read, inr (λ other. absurd (other c.in_err-countersigned.ensures.memory))))

pub returns-in_err-to_vec : goal.returns-in_err-to_vec
returns-in_err-to_vec g c =
    let m = sign1_view c.in_ok-message.message in
    let made = c.in_ok-made.ensures in
    let built = c.in_ok-countersigned.ensures.ok ∙ ap (λ x. and_countersignature x m) made.1 in
    passed_as (Countersigns g.F.FnOnce c.args.sign (countersignature_view c.args.countersignature) c.args.external_aad.now c.args.message.now) _ _
    c.from_residual-in_err-to_vec.ensures.1
    (inr (m, made.0, c.in_ok-message.ensures.read, inr (subst (λ x. HasNoImage (sign1.image x) c.in_err-to_vec.field-0.0) built c.in_err-to_vec.ensures)))

pub returns : goal.returns
returns g c =
    let m = sign1_view c.in_ok-message.message in
    let made = c.in_ok-made.ensures in
    let built = c.in_ok-countersigned.ensures.ok ∙ ap (λ x. and_countersignature x m) made.1 in
    (m, made.0, c.in_ok-message.ensures.read, made.2, subst (λ x. IsWritten sign1 x c.in_ok-to_vec.field-0.items) built c.in_ok-to_vec.ensures)
