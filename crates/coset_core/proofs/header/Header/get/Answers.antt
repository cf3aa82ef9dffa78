use Rattle.std.proofs.Common.{ap, sym, ◌∙◌}
use Rattle.std.specs.Map.{lookup}
use Rattle.coset_value.specs.View.{value_item}
use Rattle.coset_codec.proofs.Finding.{found_view}
use Rattle.coset_label.specs.Views.{label_view}
use Rattle.coset_label.specs.LabelData.{same_label}
use Rattle.coset_core.specs.Headers.{fields_in}
use Rattle.coset_core.specs.ViewLaws.{header-opened}
use Rattle.coset_core.specs.declared.header.Header.{out-Header}
use Rattle.coset_core.proofs.header.Header.get.Goals as goal

pub returns : goal.returns
returns c =
    let h = c.args.self.now in
    let label = label_view c.args.label.now in
    found_view label_view value_item (same_label label) (out-Header h).rest.items c.find_value.result (rw c.deref.ensures.value at c.find_value.ensures)
    ∙ sym (ap (λ x. lookup (same_label label) (fields_in x).rest) (header-opened h))
