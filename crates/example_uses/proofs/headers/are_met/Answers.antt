use Rattle.std.proofs.Common.{◌∙◌, ◌&&◌, Bool, ap, map, not, sym}
use Rattle.std.specs.List.{list_any}
use Rattle.coset_core.specs.Views.{critical_view, header_view}
use Rattle.example_uses.specs.HeaderParts.{is_missing}
use Rattle.example_uses.proofs.Understood.{met}
use Rattle.example_uses.proofs.headers.are_met.Goals as goal

pub returns-then-are_known : goal.returns-then-are_known
returns-then-are_known c =
    let h = header_view c.args.header.now in
    let labels = map critical_view c.args.known.now in
    sym (met labels h
    ∙ (ap (λ (b : Bool). b && not (list_any (is_missing h) labels)) (sym c.are_known.ensures ∙ c.if-are_known.true) ∙ ap not (sym c.finds_missing.ensures)))

pub returns-else-are_known : goal.returns-else-are_known
returns-else-are_known c =
    let h = header_view c.args.header.now in
    let labels = map critical_view c.args.known.now in
    c.if-are_known.false
    ∙ sym (met labels h ∙ ap (λ (b : Bool). b && not (list_any (is_missing h) labels)) (sym c.are_known.ensures ∙ c.if-are_known.false))
