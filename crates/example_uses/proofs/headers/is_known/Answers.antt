use Rattle.std.proofs.Common.{◌∙◌, sym}
use Rattle.std.specs.Ordering.{is_eq}
use Rattle.coset_label.specs.LabelData.{registered_cmp}
use Rattle.coset_core.specs.Views.{critical_view}
use Rattle.example_uses.proofs.Opened.{any-map}
use Rattle.example_uses.proofs.headers.is_known.Goals as goal

pub returns : goal.returns
returns c =
    let name = critical_view c.args.label.now in
    c.contains.ensures.value ∙ sym (any-map (λ m. is_eq (registered_cmp m name)) critical_view c.args.known.now)
