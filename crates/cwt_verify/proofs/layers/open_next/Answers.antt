use Rattle.std.proofs.Common.{◌≡◌, ◌∙◌, ◌++◌, ◌∷◌, [], ap, arith, length, map, refl, subst, sym}
use Rattle.std.proofs.lemmas.List.{length-map, map-append}
use Rattle.cwt_verify.specs.Opening.{verified_view}
use Rattle.cwt_verify.specs.Policy.{policy_view}
use Rattle.cwt_verify.specs.Walk.{IsOpened, RefusesLayer, verified_views, vouched, voucher_view}
use Rattle.cwt_verify.proofs.Walking.{outside-count}
use Rattle.cwt_verify.proofs.layers.open_next.Goals as goal

pub returns-in-Err : goal.returns-in-Err
returns-in-Err g c =
    let k = g.K.Keys.view c.args.keys.now in
    let p = policy_view c.args.policy.now in
    let count : c.len-index.result ≡ length c.args.layers.items = omega (arith, c.len-index.ensures, c.args.layers.ok.0) in (
      count ∙ sym (length-map c.args.layers.items verified_view),
      subst (λ o. RefusesLayer k p o c.args.bytes.now c.in-Err.error) (outside-count verified_view c.args.layers.items c.len-index.result count)
          c.in-Err.ensures,
    )

pub returns-then-is_err : goal.returns-then-is_err
returns-then-is_err g c =
    let count : c.len-index.result ≡ length c.args.layers.items = omega (arith, c.len-index.ensures, c.args.layers.ok.0) in
    let read = c.in-Ok.ensures.1.0 in
    (count ∙ sym (length-map c.args.layers.items verified_view), ((λ n. absurd (n refl)), λ is. (read.0, read.1)))

pub returns : goal.returns
returns g c =
    let k = g.K.Keys.view c.args.keys.now in
    let p = policy_view c.args.policy.now in
    let x = c.in-Ok.ensures.0 in
    let count : c.len-index.result ≡ length c.args.layers.items = omega (arith, c.len-index.ensures, c.args.layers.ok.0) in
    let outside = outside-count verified_view c.args.layers.items c.len-index.result count in (
      x,
      subst (λ o. IsOpened k p o c.args.bytes.now x c.in-Ok.opened.content.items) outside c.in-Ok.ensures.1,
      ap (map verified_view) (c.push_reserved.ensures.items ∙ ap (λ xs. xs ++ c.in-Ok.opened.verified ∷ []) c.reserve.ensures.items)
          ∙ (map-append verified_view c.args.layers.items (c.in-Ok.opened.verified ∷ [])
          ∙ ap (λ v. verified_views c.args.layers ++ v ∷ []) c.in-Ok.ensures.2),
      c.vouched-voucher.ensures ∙ ap (λ v. vouched p v (voucher_view c.args.voucher)) c.in-Ok.ensures.2,
    )
