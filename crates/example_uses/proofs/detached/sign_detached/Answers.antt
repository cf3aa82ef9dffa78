use Rattle.std.proofs.Common.{◌≡◌, ◌∙◌, None, ap, ap₂, subst}
use Rattle.coset_iana.specs.Algorithm as algorithms
use Rattle.coset_label.specs.LabelData.{assigned}
use Rattle.coset_codec.specs.ReadAgain.{IsWritten}
use Rattle.coset_core.specs.Built.{with_algorithm}
use Rattle.coset_core.specs.Headers.{HeaderView, empty_header}
use Rattle.coset_core.specs.Messages.{unread}
use Rattle.coset_core.specs.Views.{header_view}
use Rattle.coset_sign.specs.Sign1.{Sign1View, sign1, sign1_view, with_signature}
use Rattle.example_uses.specs.Detached.{SignsApart, apart}
use Rattle.example_uses.proofs.Apart.{apart-has, not_signed_apart, signed_apart}
use Rattle.example_uses.proofs.Refusing.{passed_as}
use Rattle.example_uses.proofs.Spellings.{only_memory}
use Rattle.example_uses.proofs.detached.sign_detached.Goals as goal

pub returns-in_err-signed : goal.returns-in_err-signed
returns-in_err-signed g c =
    let n = algorithms.number c.args.algorithm in
    let named : header_view c.build-protected.result ≡ with_algorithm (assigned n) empty_header = ap header_view c.build-protected.ensures
    ∙ (c.algorithm.ensures ∙ ap (with_algorithm (assigned n)) c.new.ensures) in
    let is : sign1_view c.protected-unsigned.result ≡ apart (assigned n) = c.protected-unsigned.ensures
    ∙ ap₂ (λ (m : Sign1View) (h : HeaderView). record m { protected = unread h }) c.new-2.ensures named in
    passed_as (SignsApart g.F.FnOnce c.args.sign (assigned n) c.args.external_aad.now c.args.payload.now) _ _ c.from_residual.ensures.1
    (not_signed_apart g.F.FnOnce c.args.sign n c.args.external_aad.now c.args.payload.now (sign1_view c.protected-unsigned.result) is _ c.in_err-signed.ensures)

pub returns-in_err-to_vec : goal.returns-in_err-to_vec
returns-in_err-to_vec g c =
    let n = algorithms.number c.args.algorithm in
    let named : header_view c.build-protected.result ≡ with_algorithm (assigned n) empty_header = ap header_view c.build-protected.ensures
    ∙ (c.algorithm.ensures ∙ ap (with_algorithm (assigned n)) c.new.ensures) in
    let is : sign1_view c.protected-unsigned.result ≡ apart (assigned n) = c.protected-unsigned.ensures
    ∙ ap₂ (λ (m : Sign1View) (h : HeaderView). record m { protected = unread h }) c.new-2.ensures named in
    let s = c.in_ok-signed.ensures.1.items in
    let built : sign1_view c.build.result ≡ with_signature s (apart (assigned n)) = ap sign1_view c.build.ensures
    ∙ (c.in_ok-signed.ensures.4 ∙ ap (with_signature s) is) in
    passed_as (SignsApart g.F.FnOnce c.args.sign (assigned n) c.args.external_aad.now c.args.payload.now) _ _ c.from_residual-in_err-to_vec.ensures.1
    (only_memory _ (λ other. apart-has n s (subst (λ m. sign1.image m ≡ None) built (c.in_err-to_vec.ensures other).1)))

pub returns : goal.returns
returns g c =
    let a = assigned (algorithms.number c.args.algorithm) in
    let named : header_view c.build-protected.result ≡ with_algorithm a empty_header = ap header_view c.build-protected.ensures
    ∙ (c.algorithm.ensures ∙ ap (with_algorithm a) c.new.ensures) in
    let is : sign1_view c.protected-unsigned.result ≡ apart a = c.protected-unsigned.ensures
    ∙ ap₂ (λ (m : Sign1View) (h : HeaderView). record m { protected = unread h }) c.new-2.ensures named in
    signed_apart g.F.FnOnce c.args.sign a c.args.external_aad.now c.args.payload.now c.in_ok-to_vec.field-0.items (sign1_view c.protected-unsigned.result)
    (sign1_view c.in_ok-signed.signed) is c.in_ok-signed.ensures
    (subst (λ m. IsWritten sign1 (sign1_view m) c.in_ok-to_vec.field-0.items) c.build.ensures c.in_ok-to_vec.ensures)
