use Rattle.std.proofs.Common.{◌≡◌, ◌∙◌, ◌&&◌, ◌==◌, Bool, ap, length, map, sym, rules}
use Rattle.std.proofs.lemmas.List.{length-map}
use Rattle.coset_core.specs.Fields.{FieldsView}
use Rattle.coset_core.specs.Headers.{fields_in}
use Rattle.coset_core.specs.Views.{critical_view, header_view}
use Rattle.coset_core.specs.ViewLaws.{protected-opened}
use Rattle.coset_core.specs.declared.header.Header.{out-Header}
use Rattle.example_uses.specs.HeaderParts.{is_understood}
use Rattle.example_uses.proofs.Opened.{opened}
use Rattle.example_uses.proofs.headers.is_understood.Goals as goal

pub returns-then-are_met : goal.returns-then-are_met
returns-then-are_met c =
    let u = c.args.unprotected.now in
    let empty : c.is_empty.result ≡ (length (out-Header u).crit.items == 0) = search rules in
    let none : (length (fields_in (header_view u)).crit == 0) ≡ (length (out-Header u).crit.items == 0) =
    ap (λ (f : FieldsView). length f.crit == 0) (opened u) ∙ simp length-map in
    empty
    ∙ (sym none
    ∙ (sym (ap (λ (t : Bool). t && length (fields_in (header_view u)).crit == 0) (sym c.are_met.ensures ∙ c.if-are_met.true))
    ∙ sym (ap (λ p. is_understood (map critical_view c.args.known.now) p.header (header_view u)) (protected-opened c.args.protected.now))))

pub returns-else-are_met : goal.returns-else-are_met
returns-else-are_met c =
    let u = c.args.unprotected.now in
    c.if-are_met.false
    ∙ (sym (ap (λ (t : Bool). t && length (fields_in (header_view u)).crit == 0) (sym c.are_met.ensures ∙ c.if-are_met.false))
    ∙ sym (ap (λ p. is_understood (map critical_view c.args.known.now) p.header (header_view u)) (protected-opened c.args.protected.now)))
