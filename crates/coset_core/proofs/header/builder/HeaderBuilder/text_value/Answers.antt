use Rattle.std.proofs.Common.{ap, ◌∙◌}
use Rattle.std.specs.Prelude.{string_bytes}
use Rattle.coset_value.specs.View.{value_item}
use Rattle.coset_label.specs.LabelData.{text_label}
use Rattle.coset_core.proofs.Building.{pair-added}
use Rattle.coset_core.specs.Built.{push_pair}
use Rattle.coset_core.specs.Views.{header_view}
use Rattle.coset_core.proofs.header.builder.HeaderBuilder.text_value.Goals as goal

pub returns-clause-ok : goal.returns-clause-ok
returns-clause-ok c =
    pair-added c.self.inside.0 _ _ _ c.in_ok-push.ensures.items
    ∙ ap (λ h. push_pair (text_label (string_bytes c.args.label)) (value_item c.args.value) (header_view h)) c.self.view_is
