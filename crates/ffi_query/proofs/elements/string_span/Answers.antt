use Rattle.std.proofs.Common.{refl, subst}
use Rattle.coset.specs.Pulls.{pull_bytes, pull_item}
use Rattle.ffi_query.specs.declared.kind.Kind.TheVariants.{Any}
use Rattle.ffi_query.specs.Located.{IsNoContent}
use Rattle.ffi_query.proofs.EachKind.{any_item, inside}
use Rattle.ffi_query.proofs.Locating.{whole_located}
use Rattle.ffi_query.proofs.elements.string_span.Goals as goal

pub returns-in-Some : goal.returns-in-Some
returns-in-Some c =
    let b = c.args.bytes.now in
    let w = pull_item c.in-Ok.item in
    let is = c.in-Ok.ensures.whole in
    let here = c.in-Some.ensures.place b (whole_located b (pull_bytes c.in-Ok.item) c.in-Ok.ensures.bytes) in
    (w, inside Any b w w (any_item b w is.0) is refl, (c.in-Some.text.bytes.now, c.in-Some.ensures.bytes, c.text_span.ensures.at here, c.text_span.ensures.len))

pub returns-in-None : goal.returns-in-None
returns-in-None c =
    let b = c.args.bytes.now in
    let w = pull_item c.in-Ok.item in
    let is = c.in-Ok.ensures.whole in
    let none = subst (λ x. IsNoContent x w) c.in-Ok.ensures.bytes c.in-None.ensures.bytes in
    (w, inside Any b w w (any_item b w is.0) is refl, none)
