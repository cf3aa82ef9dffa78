use Rattle.std.proofs.Common.{◌≡◌, ◌∙◌, Some, [], ap, inr, subst}
use Rattle.coset_codec.specs.Encoding.{HasNoImage}
use Rattle.coset_codec.specs.ReadAgain.{IsWritten}
use Rattle.coset_core.specs.Views.{signature_view}
use Rattle.coset_sign.specs.Sign.{SignView, sign, sign_view}
use Rattle.example_uses.specs.Signers.{SignsByTwo, signed_by}
use Rattle.example_uses.proofs.Refusing.{passed_as}
use Rattle.example_uses.proofs.Signing.{both_signed, first_refused, second_refused, signed_by_two}
use Rattle.example_uses.proofs.signers.sign_by_two.Goals as goal

pub returns-in_err-once : goal.returns-in_err-once
returns-in_err-once g c =
    let p = c.args.payload.items in
    let x = c.args.external_aad.now in
    let first = signature_view c.args.first in
    let second = signature_view c.args.second in
    let is : sign_view c.payload-unsigned.result ≡ signed_by p [] = c.payload-unsigned.ensures ∙ ap (λ (m : SignView). record m { payload = Some p })
    c.new.ensures in
    passed_as (SignsByTwo g.F.FnOnce c.args.sign_first g.G.FnOnce c.args.sign_second x p first second) _ _ c.from_residual.ensures.1
    (first_refused g.F.FnOnce c.args.sign_first g.G.FnOnce c.args.sign_second x p first second _ is _ c.in_err-once.ensures)

pub returns-in_err-twice : goal.returns-in_err-twice
returns-in_err-twice g c =
    let p = c.args.payload.items in
    let x = c.args.external_aad.now in
    let first = signature_view c.args.first in
    let second = signature_view c.args.second in
    let is : sign_view c.payload-unsigned.result ≡ signed_by p [] = c.payload-unsigned.ensures ∙ ap (λ (m : SignView). record m { payload = Some p })
    c.new.ensures in
    passed_as (SignsByTwo g.F.FnOnce c.args.sign_first g.G.FnOnce c.args.sign_second x p first second) _ _ c.from_residual-in_err-twice.ensures.1
    (second_refused g.F.FnOnce c.args.sign_first g.G.FnOnce c.args.sign_second x p first second _ (sign_view c.in_ok-once.once)
    c.in_ok-once.ensures.1.items is c.in_ok-once.ensures.4 _ c.in_err-twice.ensures)

pub returns-in_err-to_vec : goal.returns-in_err-to_vec
returns-in_err-to_vec g c =
    let p = c.args.payload.items in
    let x = c.args.external_aad.now in
    let first = signature_view c.args.first in
    let second = signature_view c.args.second in
    let is : sign_view c.payload-unsigned.result ≡ signed_by p [] = c.payload-unsigned.ensures ∙ ap (λ (m : SignView). record m { payload = Some p })
    c.new.ensures in
    let s = c.in_ok-once.ensures.1.items in
    let t = c.in_ok-twice.ensures.1.items in
    let built = ap sign_view c.build.ensures ∙ both_signed p s t first second _ (sign_view c.in_ok-once.once) (sign_view c.in_ok-twice.twice) is
    c.in_ok-once.ensures.4 c.in_ok-twice.ensures.4 in
    passed_as (SignsByTwo g.F.FnOnce c.args.sign_first g.G.FnOnce c.args.sign_second x p first second) _ _ c.from_residual-in_err-to_vec.ensures.1
    (inr (inr (s, t, subst (λ m. HasNoImage (sign.image m) c.in_err-to_vec.field-0.0) built c.in_err-to_vec.ensures)))

pub returns : goal.returns
returns g c =
    let p = c.args.payload.items in
    let x = c.args.external_aad.now in
    let is : sign_view c.payload-unsigned.result ≡ signed_by p [] = c.payload-unsigned.ensures ∙ ap (λ (m : SignView). record m { payload = Some p })
    c.new.ensures in
    signed_by_two g.F.FnOnce c.args.sign_first g.G.FnOnce c.args.sign_second x p (signature_view c.args.first) (signature_view c.args.second)
    c.in_ok-to_vec.field-0.items _ (sign_view c.in_ok-once.once) (sign_view c.in_ok-twice.twice) is c.in_ok-once.ensures c.in_ok-twice.ensures
    (subst (λ m. IsWritten sign (sign_view m) c.in_ok-to_vec.field-0.items) c.build.ensures c.in_ok-to_vec.ensures)
