use Rattle.std.proofs.Common.{◌≡◌, ◌∙◌, ℕ, List, Option, inl, refl, sym, map, subst}
use Rattle.std.specs.List.{position_from}
use Rattle.coset_core.specs.declared.signature.CoseSignature.{CoseSignature}
use Rattle.coset_core.specs.Views.{signature_view}
use Rattle.coset_sign.specs.Sign.{sign_view}
use Rattle.example_uses.specs.Signers.{VerifiesBy, is_by}
use Rattle.example_uses.proofs.Refusing.{passed_as}
use Rattle.example_uses.proofs.Signing.{at_number, no_number, not_verified_by, within}
use Rattle.example_uses.proofs.signers.verify_by.Goals as goal

-- The index, as a statement about the message's signatures.
numbered :
    (key_id : List ℕ) (o : Option ℕ) (all given : List CoseSignature) → given ≡ all → o ≡ position_from (is_by key_id) 0 (map signature_view given)
    → position_from (is_by key_id) 0 (map signature_view all) ≡ o
numbered key_id o all given same e = sym (subst (λ xs. o ≡ position_from (is_by key_id) 0 (map signature_view xs)) same e)

pub returns-in_err-message : goal.returns-in_err-message
returns-in_err-message g c =
    passed_as (VerifiesBy g.F.FnOnce c.args.verify c.args.key_id.now c.args.external_aad.now c.args.absent c.args.message.now) _ _ c.from_residual.ensures.1
    (λ k. (c.in_err-message.ensures.read k, c.in_err-message.ensures.refused k))

pub returns-in_default : goal.returns-in_default
returns-in_default g c =
    let m = sign_view c.in_ok-message.message in (
      m,
      c.in_ok-message.ensures.read,
      inl (
        no_number (is_by c.args.key_id.now) m.signatures 0
            (numbered c.args.key_id.now _ _ _ c.deref.ensures.value c.number_by.ensures ∙ c.in_default.is),
        refl,
      ),
    )

pub verify_signature-requires-clause-there : goal.verify_signature-requires-clause-there
verify_signature-requires-clause-there g c =
    let m = sign_view c.in_ok-message.message in
    let found = at_number (is_by c.args.key_id.now) m.signatures c.in-Some.number
    (numbered c.args.key_id.now _ _ _ c.deref.ensures.value c.number_by.ensures ∙ c.in-Some.is) in
    within signature_view c.in_ok-message.message.signatures.items c.in-Some.number found.0 found.1

pub returns-in_err-verify_signature : goal.returns-in_err-verify_signature
returns-in_err-verify_signature g c =
    let m = sign_view c.in_ok-message.message in
    let found = at_number (is_by c.args.key_id.now) m.signatures c.in-Some.number
    (numbered c.args.key_id.now _ _ _ c.deref.ensures.value c.number_by.ensures ∙ c.in-Some.is) in
    passed_as (VerifiesBy g.F.FnOnce c.args.verify c.args.key_id.now c.args.external_aad.now c.args.absent c.args.message.now) _ _
    c.from_residual-in_err-verify_signature.ensures.1
    (not_verified_by g.F.FnOnce c.args.verify c.each_signed_when_read.ensures.plain c.args.key_id.now c.args.external_aad.now c.args.message.now c.args.absent
    m found.0 c.in_ok-message.ensures.read found.2 _ (c.in_err-verify_signature.ensures found.0 found.1))

pub returns : goal.returns
returns g c =
    let m = sign_view c.in_ok-message.message in
    let found = at_number (is_by c.args.key_id.now) m.signatures c.in-Some.number
    (numbered c.args.key_id.now _ _ _ c.deref.ensures.value c.number_by.ensures ∙ c.in-Some.is) in
    (c.in_ok-message.ensures.read, (found.0, found.2, c.in_ok-verify_signature.ensures found.0 found.1))
