use Rattle.std.proofs.Common.{◌≡◌, ◌∙◌, ◌==◌, ap, sym, rules}
use Rattle.std.specs.Cmp.Lexicographic.{pointwise}
use Rattle.coset_core.specs.Fields.{FieldsView}
use Rattle.coset_core.specs.FieldViews.{fields_view}
use Rattle.example_uses.proofs.Opened.{opened}
use Rattle.example_uses.proofs.headers.names_key.Goals as goal

pub returns : goal.returns
returns c =
    let same : c.eq.result ≡ pointwise ◌==◌ (fields_view c.args.header.now).key_id c.args.key_id.now = search rules in
    same ∙ sym (ap (λ (f : FieldsView). pointwise ◌==◌ f.key_id c.args.key_id.now) (opened c.args.header.now))
