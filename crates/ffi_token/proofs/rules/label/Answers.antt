use mir.Syntax.{w64}
use mir.Val.{of_z, to_z}
use Rattle.std.proofs.Common.{◌≡◌, Some, ap, sym, ◌∙◌, rules}
use Rattle.coset.specs.LabelData.{assigned}
use Rattle.ffi_token.specs.Rules.{named_as}
use Rattle.ffi_token.proofs.rules.label.Goals as goal

pub returns-in-Some : goal.returns-in-Some
returns-in-Some g c =
    let back : to_z w64 (of_z w64 c.args.number) ≡ c.args.number = search rules in
    let found : g.T.EnumI64.value_of c.args.number ≡ Some c.in-Some.value =
    ap g.T.EnumI64.value_of (sym back) ∙ (sym c.from_i64.ensures ∙ c.in-Some.is) in
    ap assigned (g.met.T.EnumI64.number_of_value c.args.number c.in-Some.value found) ∙ ap (named_as c.args.number) (sym found)
