use Rattle.coset_value.specs.View.{value_item}
use Rattle.coset_codec.proofs.Finding.{found_view}
use Rattle.coset_label.specs.Views.{label_view}
use Rattle.coset_label.specs.LabelData.{same_label}
use Rattle.coset_key.proofs.key.CoseKey.get.Goals as goal

pub returns : goal.returns
returns c =
    found_view label_view value_item (same_label (label_view c.args.label.now)) c.args.self.now.params.items c.find_value.result
    (rw c.deref.ensures.value at c.find_value.ensures)
