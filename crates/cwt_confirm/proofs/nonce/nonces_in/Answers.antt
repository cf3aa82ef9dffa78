use Rattle.std.specs.Borrow.{Bor}
use Rattle.std.specs.Global.{Global}
use Rattle.std.proofs.Common.{◌≡◌, ◌∙◌, ◌<◌, ◌≤◌, List, [], ◌∷◌, None, Some, Vec, ap, arith, length, option_map, refl, subst, sym}
use Rattle.coset.specs.Parts.{as_array}
use Rattle.coset.specs.View.{value_item, value_items}
use Rattle.coset_value.specs.declared.value.Value.{Value}
use Rattle.cwt_confirm.specs.Nonces.{ReadsNonces, by_array, each_nonce, nonces_in, two_or_more}
use Rattle.cwt_confirm.proofs.nonce.nonces_in.Goals as goal

few : (vs : List Value) → length vs < 2 → two_or_more (value_items vs) ≡ None
few [] lt = refl
few (v ∷ []) lt = refl
few (v ∷ w ∷ vs) lt = absurd (omega (arith, lt))

many : (vs : List Value) → 2 ≤ length vs → two_or_more (value_items vs) ≡ each_nonce (value_items vs)
many [] le = absurd (omega (arith, le))
many (v ∷ []) le = absurd (omega (arith, le))
many (v ∷ w ∷ vs) le = refl

pub returns-then-len-lt2 : goal.returns-then-len-lt2
returns-then-len-lt2 c =
    let v = value_item c.args.value.now in
    let vs = c.in-Some.values.now.items in
    let is : as_array v ≡ Some (value_items vs) =
    sym c.as_array.ensures ∙ ap (option_map (λ (items : Bor (Vec Value Global)). value_items items.now.items)) c.in-Some.is in
    ap (by_array v) is ∙ few vs (omega (arith, c.len.ensures, c.if-len-lt2.true, c.in-Some.values.now.ok.0))

pub returns-else-len-lt2 : goal.returns-else-len-lt2
returns-else-len-lt2 c =
    let v = value_item c.args.value.now in
    let vs = c.in-Some.values.now.items in
    let is : as_array v ≡ Some (value_items vs) =
    sym c.as_array.ensures ∙ ap (option_map (λ (items : Bor (Vec Value Global)). value_items items.now.items)) c.in-Some.is in
    let all : nonces_in v ≡ each_nonce (value_items c.deref.result.now) =
    ap (by_array v) is ∙ (many vs (omega (arith, c.len.ensures, c.if-len-lt2.false, c.in-Some.values.now.ok.0))
    ∙ ap (λ ws. each_nonce (value_items ws)) (sym c.deref.ensures.value)) in
    subst (λ o. ReadsNonces o c.each_nonce.result) (sym all) c.each_nonce.ensures
