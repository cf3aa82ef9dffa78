use Rattle.std.proofs.Common.{◌≡◌, ◌∙◌, ◌==◌, ap, length, sym, rules}
use Rattle.std.proofs.lemmas.List.{length-map}
use Rattle.coset.specs.Fields.{FieldsView}
use Rattle.coset.specs.Headers.{fields_in}
use Rattle.coset.specs.Views.{header_view}
use Rattle.coset.specs.Header.{out-Header}
use Rattle.cwt_verify.proofs.Opened.{opened}
use Rattle.cwt_verify.proofs.policy.lists_none.Goals as goal

pub returns : goal.returns
returns c =
    let u = c.args.header.now in
    let empty : c.is_empty.result ≡ (length (out-Header u).crit.items == 0) = search rules in
    let none : (length (fields_in (header_view u)).crit == 0) ≡ (length (out-Header u).crit.items == 0) =
    ap (λ (f : FieldsView). length f.crit == 0) (opened u) ∙ simp length-map in
    empty ∙ sym none
