use mir.Syntax.{w64}
use Rattle.std.proofs.Common.{◌≡◌, ◌∙◌, subst, sym}
use Rattle.std.proofs.lemmas.Int.{to_z-of_z}
use Rattle.std.specs.Prelude.{IfSome, MatchResult}
use Rattle.coset.specs.LabelData.{number}
use Rattle.ffi_query.specs.declared.refusal.Refusal.TheVariants.{WrongType}
use Rattle.ffi_query.specs.Results.{Finds}
use Rattle.ffi_query.specs.Elements.{IsProtectedInChunks}
use Rattle.ffi_query.specs.Labels.{IsProtected}
use Rattle.ffi_query.specs.Located.{IsLocated, located_item}
use Rattle.ffi_query.specs.Places.{bytes_in}
use Rattle.ffi_query.proofs.Placing.{under_protected}
use Rattle.ffi_query.proofs.elements.label_located.Goals as goal

pub returns-then-has_headers : goal.returns-then-has_headers
returns-then-has_headers c =
    λ b l.
    let v = located_item c.args.item in
    let r = c.protected_located.result in
    let found =
    subst (λ n. MatchResult r (λ o. Finds located_item (IsProtected (number n) (bytes_in 0 v)) o × IfSome o (IsLocated b))
    (λ e. (e ≡ WrongType) × IsProtectedInChunks b v))
    (to_z-of_z w64 c.args.label c.ranges.label) (c.protected_located.ensures b l) in
    under_protected b c.args.kind c.args.map (number c.args.label) v r c.in-Protected.is (sym c.has_headers.ensures ∙ c.if-has_headers.true) found
