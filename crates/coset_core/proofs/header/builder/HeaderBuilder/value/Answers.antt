use mir.Syntax.{w64}
use Rattle.std.proofs.Common.{ap, ◌∙◌}
use Rattle.std.proofs.lemmas.Int.{to_z-of_z}
use Rattle.coset_value.specs.View.{value_item}
use Rattle.coset_label.specs.LabelData.{number}
use Rattle.coset_core.proofs.Building.{pair-added}
use Rattle.coset_core.specs.Built.{push_pair}
use Rattle.coset_core.specs.Views.{header_view}
use Rattle.coset_core.proofs.header.builder.HeaderBuilder.value.Goals as goal

pub returns-clause-ok : goal.returns-clause-ok
returns-clause-ok c =
    pair-added c.self.inside.0 _ _ _ c.in_ok-push.ensures.items
    ∙ ap (λ n. push_pair (number n) (value_item c.args.value) (header_view c.self.inside.0)) (to_z-of_z w64 c.args.label c.ranges.label)
    ∙ ap (λ h. push_pair (number c.args.label) (value_item c.args.value) (header_view h)) c.self.view_is
