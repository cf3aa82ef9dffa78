use Rattle.std.proofs.Common.{refl, ap, ◌∙◌}
use Rattle.coset_core.proofs.Building.{countersignature-added}
use Rattle.coset_core.specs.Built.{push_countersignature_v2}
use Rattle.coset_core.specs.Views.{header_view, countersignature_view}
use Rattle.coset_core.proofs.header.builder.HeaderBuilder.add_countersignature_v2.Goals as goal

pub returns-clause-ok : goal.returns-clause-ok
returns-clause-ok c =
    countersignature-added c.self.inside.0 _ c.args.signature refl refl c.in_ok-push.ensures.items
    ∙ ap (λ h. push_countersignature_v2 (countersignature_view c.args.signature) (header_view h)) c.self.view_is
