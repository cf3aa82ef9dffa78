use Rattle.std.proofs.Common.{◌≡◌, ◌∙◌, ℕ, [], None, Some, Vec, ap, option_map, refl, subst, sym}
use Rattle.std.specs.Global.{Global}
use Rattle.coset.specs.Calls.{IsStructure}
use Rattle.coset.specs.Mac0.{mac0_structure, mac0_view}
use Rattle.cwt_keys.specs.Keys.{name_view}
use Rattle.cwt_keys.specs.Sealed.{seal_view}
use Rattle.cwt_keys.specs.declared.form.Form.TheVariants.{Mac0}
use Rattle.cwt_verify.proofs.Receiving.{mac_accepted, mac_refused, same_parts}
use Rattle.cwt_verify.proofs.layer.open_macced.Goals as goal

pub returns-in-Ok-verify : goal.returns-in-Ok-verify
returns-in-Ok-verify g c = λ policy.
    let k = g.K.Keys.view c.args.keys.now in
    let m = mac0_view c.args.message in
    let b = c.in-Some.content.items in
    let t = c.in-Ok.structure.items in
    let x = seal_view c.new-sealed.result in
    let carried : m.payload ≡ Some b = ap (option_map (λ (v : Vec ℕ Global). v.items)) (sym c.take.ensures.value ∙ c.in-Some.is) in
    let asked = same_parts Mac0 m.protected m.unprotected None None x _ _ m.tag t c.new-sealed.ensures c.deref-2.ensures.value c.deref-3.ensures.value refl in (
      mac_accepted k policy m b t x (name_view c.in-Ok-verify.issuer) carried (subst (λ q. IsStructure
          (mac0_structure m [] q) t) c.deref.ensures.value c.in-Ok.ensures) asked c.in-Ok-verify.ensures.accepted,
      refl,
    )

pub returns : goal.returns
returns g c = λ policy.
    let k = g.K.Keys.view c.args.keys.now in
    let m = mac0_view c.args.message in
    let b = c.in-Some.content.items in
    let t = c.in-Ok.structure.items in
    let x = seal_view c.new-sealed.result in
    let carried : m.payload ≡ Some b = ap (option_map (λ (v : Vec ℕ Global). v.items)) (sym c.take.ensures.value ∙ c.in-Some.is) in
    let asked = same_parts Mac0 m.protected m.unprotected None None x _ _ m.tag t c.new-sealed.ensures c.deref-2.ensures.value c.deref-3.ensures.value refl in
    mac_refused k policy m b t x c.named_key.result c.in-Err-verify.error carried
    (subst (λ q. IsStructure (mac0_structure m [] q) t) c.deref.ensures.value c.in-Ok.ensures)
    asked c.named_key.ensures c.in-Err-verify.ensures.refused
