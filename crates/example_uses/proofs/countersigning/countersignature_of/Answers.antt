use Rattle.std.proofs.Common.{◌∙◌, [], ◌∷◌, ap, inl, option_map, refl, subst, sym}
use Rattle.coset_core.specs.Calls.{IsStructure}
use Rattle.coset_core.specs.ViewLaws.{countersignature-opened}
use Rattle.coset_core.specs.Views.{countersignature_view}
use Rattle.coset_sign.specs.Sign1.{sign1_view}
use Rattle.example_uses.proofs.Countersigned.{same_structure}
use Rattle.example_uses.proofs.countersigning.countersignature_of.Goals as goal

pub returns-in_default : goal.returns-in_default
returns-in_default g c = inl (ap (option_map (λ b. b.items)) c.in_default.is, tt)

pub returns-in-Ok : goal.returns-in-Ok
returns-in-Ok g c =
    let m = sign1_view c.args.message.now in
    let s = countersignature_view c.args.countersignature in
    let same = same_structure m s c.args.external_aad.now _ _ _ c.in-Some.payload.items _ c.in_ok-body.ensures.copy
    (c.in_ok-own.ensures.copy ∙ sym (ap (λ x. x.protected) (countersignature-opened c.args.countersignature))) c.deref-2.ensures.value
    (ap (λ x. x ∷ []) (c.in_ok-from_slice.ensures.items ∙ c.deref.ensures.value)) in (
      c.in-Ok.signature.items,
      c.signed_with.ensures,
      (
        c.in-Some.payload.items,
        ap (option_map (λ b. b.items)) c.in-Some.is,
        (
          c.in_ok-tbs.tbs.items,
          c.in-Ok.signature,
          subst (λ o. IsStructure o c.in_ok-tbs.tbs.items) same c.in_ok-tbs.ensures,
          (c.deref-3.result, c.in-Ok.ensures, c.deref-3.ensures.value),
          refl,
        ),
      ),
    )

pub returns-in-Err : goal.returns-in-Err
returns-in-Err g c =
    let m = sign1_view c.args.message.now in
    let s = countersignature_view c.args.countersignature in
    let same = same_structure m s c.args.external_aad.now _ _ _ c.in-Some.payload.items _ c.in_ok-body.ensures.copy
    (c.in_ok-own.ensures.copy ∙ sym (ap (λ x. x.protected) (countersignature-opened c.args.countersignature))) c.deref-2.ensures.value
    (ap (λ x. x ∷ []) (c.in_ok-from_slice.ensures.items ∙ c.deref.ensures.value)) in (
      c.in-Some.payload.items,
      ap (option_map (λ b. b.items)) c.in-Some.is,
      (
        c.in_ok-tbs.tbs.items,
        subst (λ o. IsStructure o c.in_ok-tbs.tbs.items) same c.in_ok-tbs.ensures,
        (c.deref-3.result, c.in-Err.ensures, c.deref-3.ensures.value),
      ),
    )
