use Rattle.std.proofs.Common.{◌≡◌, ◌∙◌, ℕ, None, Some, Vec, ap, option_map, refl, sym}
use Rattle.std.specs.Global.{Global}
use Rattle.coset.specs.Encrypt0.{encrypt0_view}
use Rattle.cwt_keys.specs.Keys.{name_view}
use Rattle.cwt_keys.specs.Sealed.{seal_view}
use Rattle.cwt_keys.specs.declared.form.Form.TheVariants.{Encrypt0}
use Rattle.cwt_verify.proofs.Receiving.{decrypted, not_decrypted, same_parts}
use Rattle.cwt_verify.proofs.layer.open_encrypted.Goals as goal

pub returns-in-Ok-decrypt : goal.returns-in-Ok-decrypt
returns-in-Ok-decrypt g c = λ policy.
    let k = g.K.Keys.view c.args.keys.now in
    let m = encrypt0_view c.args.message in
    let q = c.in-Some.ciphertext.items in
    let t = c.in-Ok.structure.items in
    let x = seal_view c.new-sealed.result in
    let carried : m.ciphertext ≡ Some q = ap (option_map (λ (b : Vec ℕ Global). b.items)) (sym c.take.ensures.value ∙ c.in-Some.is) in
    let asked = same_parts Encrypt0 m.protected m.unprotected None None x _ _ q t c.new-sealed.ensures c.deref.ensures.value c.deref-2.ensures.value refl in (
      decrypted k policy m q t x c.in-Ok-decrypt.content.items
          (name_view c.in-Ok-decrypt.issuer) carried c.in-Ok.ensures asked c.in-Ok-decrypt.ensures.decrypted,
      refl,
    )

pub returns : goal.returns
returns g c = λ policy.
    let k = g.K.Keys.view c.args.keys.now in
    let m = encrypt0_view c.args.message in
    let q = c.in-Some.ciphertext.items in
    let t = c.in-Ok.structure.items in
    let x = seal_view c.new-sealed.result in
    let carried : m.ciphertext ≡ Some q = ap (option_map (λ (b : Vec ℕ Global). b.items)) (sym c.take.ensures.value ∙ c.in-Some.is) in
    let asked = same_parts Encrypt0 m.protected m.unprotected None None x _ _ q t c.new-sealed.ensures c.deref.ensures.value c.deref-2.ensures.value refl in
    not_decrypted k policy m q t x c.named_key.result c.in-Err-decrypt.error carried c.in-Ok.ensures asked c.named_key.ensures c.in-Err-decrypt.ensures.refused
